use Rattle.std.proofs.Common.{◌+◌, ◌*◌}
use Rattle.pana_id.specs.Id.{pair, depth}
use Rattle.pana_id.specs.Node.{tree}
use Rattle.pana_id.proofs.node.+owning.Given as goal

abbrev pub decreases-Halves::has : goal.decreases-Halves::has
decreases-Halves::has l = 2 * depth (pair (tree l.self.now.left) (tree l.self.now.right))

abbrev pub decreases-Node::has : goal.decreases-Node::has
decreases-Node::has l = 2 * depth (tree l.self.now) + 1
