use Rattle.std.proofs.Common.{◌+◌, ◌*◌}
use Rattle.pana_id.specs.Id.{pair, depth}
use Rattle.pana_id.specs.Node.{tree}
use Rattle.pana_family.proofs.ordering.+order.Given as goal

abbrev pub decreases-is_below_in : goal.decreases-is_below_in
decreases-is_below_in l = 2 * depth (pair (tree l.ids.now.left) (tree l.ids.now.right))

abbrev pub decreases-is_below_by : goal.decreases-is_below_by
decreases-is_below_by l = 2 * depth (tree l.id.now) + 1
