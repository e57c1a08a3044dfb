use Rattle.std.proofs.Common.{◌+◌, ◌*◌}
use Rattle.pana_id.specs.Id.{pair, depth}
use Rattle.pana_id.specs.Node.{tree}
use Rattle.pana_stamp.proofs.growing.+grow.Given as goal

abbrev pub decreases-grow_half : goal.decreases-grow_half
decreases-grow_half l = 2 * depth (pair (tree l.ids.now.left) (tree l.ids.now.right))

abbrev pub decreases-grow_at : goal.decreases-grow_at
decreases-grow_at l = 2 * depth (tree l.id.now) + 1
