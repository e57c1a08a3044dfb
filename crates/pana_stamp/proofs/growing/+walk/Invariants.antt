use Rattle.std.proofs.Common.{◌+◌, ◌*◌}
use Rattle.pana_id.specs.Id.{pair, depth}
use Rattle.pana_id.specs.Node.{tree}
use Rattle.pana_stamp.proofs.growing.+walk.Given as goal

abbrev pub decreases-least_cost_in : goal.decreases-least_cost_in
decreases-least_cost_in l = 2 * depth (pair (tree l.ids.now.left) (tree l.ids.now.right))

abbrev pub decreases-least_cost : goal.decreases-least_cost
decreases-least_cost l = 2 * depth (tree l.id.now) + 1
