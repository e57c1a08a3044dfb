-- How a copy that knows one set of updates relates to a copy that knows another.
use Rattle.std.specs.Prelude.{ℕ, List, if◌then◌else◌}
use Rattle.pana_event.specs.declared.rel.Rel.{Rel}
use Rattle.pana_event.specs.declared.rel.Rel.TheVariants.{Equal, Older, Newer, Conflict}
use Rattle.pana_family.specs.Updates.{is_within}

-- equal where each set is within the other, older or newer where only one is, in conflict where neither is
abbrev pub relation : List ℕ → List ℕ → Rel
relation a b = if is_within a b then (if is_within b a then Equal else Older) else (if is_within b a then Newer else Conflict)
