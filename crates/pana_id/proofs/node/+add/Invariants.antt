use Rattle.std.proofs.Common.{◌+◌, ◌*◌}
use Rattle.pana_id.specs.Id.{pair, depth}
use Rattle.pana_id.specs.Node.{tree}
use Rattle.pana_id.proofs.node.+add.Given as goal

abbrev pub decreases-Halves::sum : goal.decreases-Halves::sum
decreases-Halves::sum l = 3 * depth (pair (tree l.first.now.left) (tree l.first.now.right))

abbrev pub decreases-Halves::sum_with : goal.decreases-Halves::sum_with
decreases-Halves::sum_with l = 3 * depth (pair (tree l.self.now.left) (tree l.self.now.right)) + 1

abbrev pub decreases-Node::sum : goal.decreases-Node::sum
decreases-Node::sum l = 3 * depth (tree l.left.now) + 2
