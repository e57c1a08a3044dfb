use Rattle.std.proofs.Common.{◌+◌, ◌*◌}
use Rattle.pana_id.specs.Id.{pair, depth}
use Rattle.pana_id.specs.Node.{tree}
use Rattle.pana_id.proofs.node.+apart.Given as goal

abbrev pub decreases-Halves::is_disjoint : goal.decreases-Halves::is_disjoint
decreases-Halves::is_disjoint l = 2 * depth (pair (tree l.self.now.left) (tree l.self.now.right))

abbrev pub decreases-Node::is_disjoint : goal.decreases-Node::is_disjoint
decreases-Node::is_disjoint l = 2 * depth (tree l.self.now) + 1
