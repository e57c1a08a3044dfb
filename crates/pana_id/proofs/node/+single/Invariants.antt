use Rattle.std.proofs.Common.{◌+◌, ◌*◌}
use Rattle.pana_id.specs.Id.{pair, depth}
use Rattle.pana_id.specs.Node.{tree}
use Rattle.pana_id.proofs.node.+single.Given as goal

abbrev pub decreases-Halves::is_single_at : goal.decreases-Halves::is_single_at
decreases-Halves::is_single_at l = 2 * depth (pair (tree l.self.now.left) (tree l.self.now.right))

abbrev pub decreases-Node::is_single_at : goal.decreases-Node::is_single_at
decreases-Node::is_single_at l = 2 * depth (tree l.self.now) + 1
