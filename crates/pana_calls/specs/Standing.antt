-- How a copy relates to the others of its family.
use Rattle.std.specs.Prelude.{ℕ, List, codes}
use Rattle.pana_calls.specs.declared.standing.CopyState.{CopyState}
use Rattle.pana_calls.specs.declared.standing.CopyState.TheVariants.{Newest, Obsolete, Conflict}

-- the name of a state
abbrev pub state_name : CopyState → List ℕ
state_name Newest = codes "newest"
state_name Obsolete = codes "obsolete"
state_name Conflict = codes "conflict"
