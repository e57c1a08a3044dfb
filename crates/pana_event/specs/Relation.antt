-- How two copies relate.
use Rattle.std.specs.Prelude.{ℕ, List, codes, if◌then◌else◌}
use Rattle.pana_event.specs.Event.{Event}
use Rattle.pana_event.specs.Order.{IsBelow, is_leq}
use Rattle.pana_event.specs.declared.rel.Rel.{Rel}
use Rattle.pana_event.specs.declared.rel.Rel.TheVariants.{Equal, Older, Newer, Conflict}

-- the name of a relation
abbrev pub rel_name : Rel → List ℕ
rel_name Equal = codes "Equal"
rel_name Older = codes "Older"
rel_name Newer = codes "Newer"
rel_name Conflict = codes "Conflict"

-- the relation of the second to the first, from that of the first to the second
abbrev pub reverse_of : Rel → Rel
reverse_of Equal = Equal
reverse_of Older = Newer
reverse_of Newer = Older
reverse_of Conflict = Conflict

-- the relation of the first event to the second: equal where each is below the other, older where only
-- the first is below the second, newer where only the second is below the first, and else a conflict
abbrev pub IsRelation : Event → Event → Rel → Type 0
IsRelation e f Equal = IsBelow e f × IsBelow f e
IsRelation e f Older = IsBelow e f × ¬ IsBelow f e
IsRelation e f Newer = IsBelow f e × ¬ IsBelow e f
IsRelation e f Conflict = ¬ IsBelow e f × ¬ IsBelow f e

-- the relation as the test says it, taken both ways round
abbrev pub tested_relation : Event → Event → Rel
tested_relation e f = if is_leq e f then (if is_leq f e then Equal else Older) else (if is_leq f e then Newer else Conflict)
