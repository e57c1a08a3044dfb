use Rattle.std.proofs.Common.{◌+◌, ◌*◌}
use Rattle.pana_id.specs.Id.{pair, depth}
use Rattle.pana_id.specs.Node.{tree}
use Rattle.pana_clock_tests.proofs.notation.+ids.Given as goal

abbrev pub decreases-pair_text : goal.decreases-pair_text
decreases-pair_text l = 2 * depth (pair (tree l.halves.now.left) (tree l.halves.now.right))

abbrev pub decreases-id_text : goal.decreases-id_text
decreases-id_text l = 2 * depth (tree l.node.now) + 1
