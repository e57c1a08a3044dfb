use Rattle.std.proofs.Common.{◌+◌, ◌*◌}
use Rattle.pana_id.specs.Id.{pair, depth}
use Rattle.pana_id.specs.Node.{tree}
use Rattle.pana_stamp.proofs.filling.+walk.Given as goal

abbrev pub decreases-fill_halves : goal.decreases-fill_halves
decreases-fill_halves l = 2 * depth (pair (tree l.ids.now.left) (tree l.ids.now.right))

abbrev pub decreases-fill_node : goal.decreases-fill_node
decreases-fill_node l = 2 * depth (tree l.id.now) + 1
