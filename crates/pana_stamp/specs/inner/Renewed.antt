-- An event, or another one that takes its place.
use Rattle.std.specs.Prelude.{◌≡◌, Option, Some, None, max}
use Rattle.pana_event.specs.Event.{Event, leaf, greatest, least}
use Rattle.pana_event.specs.Shape.{tree}
use Rattle.pana_event.specs.declared.node.Node.{Node}
use Rattle.pana_id.specs.Id.{Id, one_id}
use Rattle.pana_stamp.specs.Fill.{fill}

-- the event of the node that takes the place of e, or e
abbrev pub new_or : Option Node → Event → Event
new_or None e = e
new_or (Some node) e = tree node

-- what takes the place of e is another event
abbrev pub Differs : Event → Option Node → Type 0
Differs e None = Unit {0}
Differs e (Some node) = ¬ (tree node ≡ e)

-- a half of an event filled for an id, beside a half that no point of the id is in
abbrev pub filled_beside : Id → Event → Event → Event
filled_beside one_id e other = leaf (max (greatest e) (least other))
filled_beside i e other = fill i e
