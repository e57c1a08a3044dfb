use Rattle.std.proofs.Common.{◌+◌, ◌*◌}
use Rattle.pana_id.specs.Id.{pair, depth}
use Rattle.pana_id.specs.Node.{tree}
use Rattle.pana_id.proofs.node.+divide.Given as goal

abbrev pub decreases-Halves::split : goal.decreases-Halves::split
decreases-Halves::split l = 2 * depth (pair (tree l.self.now.left) (tree l.self.now.right))

abbrev pub decreases-Node::split : goal.decreases-Node::split
decreases-Node::split l = 2 * depth (tree l.self.now) + 1
