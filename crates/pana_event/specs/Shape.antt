-- The event that a node in memory stands for.
use Rattle.pana_event.specs.Event.{Event, leaf, fork}
use Rattle.pana_event.specs.declared.node.Node.{Node}
use Rattle.pana_event.specs.declared.node.Node.TheVariants.{Leaf, Fork'}

-- the event of a node, without its pointers
abbrev pub tree : Node → Event
tree (Leaf n) = leaf n
tree (Fork' n p l r) = fork n (tree l) (tree r)
