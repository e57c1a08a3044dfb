use Rattle.std.proofs.Common.{◌+◌, ◌*◌}
use Rattle.pana_id.specs.Id.{pair, depth}
use Rattle.pana_id.specs.Node.{tree}
use Rattle.pana_text.proofs.writing.+ids.Given as goal

abbrev pub decreases-write_pair : goal.decreases-write_pair
decreases-write_pair l = 2 * depth (pair (tree l.halves.now.left) (tree l.halves.now.right))

abbrev pub decreases-write_id : goal.decreases-write_id
decreases-write_id l = 2 * depth (tree l.id.now) + 1
