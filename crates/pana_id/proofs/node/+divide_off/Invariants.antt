use Rattle.std.proofs.Common.{◌+◌, ◌*◌}
use Rattle.pana_id.specs.Id.{pair, depth}
use Rattle.pana_id.specs.Node.{tree}
use Rattle.pana_id.proofs.node.+divide_off.Given as goal

abbrev pub decreases-Halves::split_off : goal.decreases-Halves::split_off
decreases-Halves::split_off l = 3 * depth (pair (tree l.self.now.left) (tree l.self.now.right)) + 1

abbrev pub decreases-Node::split_off : goal.decreases-Node::split_off
decreases-Node::split_off l = 3 * depth (tree l.self.now) + 2

abbrev pub decreases-Halves::split_into : goal.decreases-Halves::split_into
decreases-Halves::split_into l = 3 * depth (pair (tree l.self.now.left) (tree l.self.now.right))
