use Rattle.std.proofs.Common.{◌+◌, ◌*◌}
use Rattle.pana_id.specs.Id.{pair, depth}
use Rattle.pana_id.specs.Node.{tree}
use Rattle.pana_id.proofs.node.+deep.Given as goal

abbrev pub decreases-Halves::depth : goal.decreases-Halves::depth
decreases-Halves::depth l = 2 * depth (pair (tree l.self.now.left) (tree l.self.now.right))

abbrev pub decreases-Node::depth : goal.decreases-Node::depth
decreases-Node::depth l = 2 * depth (tree l.self.now) + 1
