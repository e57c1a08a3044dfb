use Rattle.std.proofs.Common.{◌≡◌, ◌≤◌, length, take, None}
use Rattle.pana_wire.specs.inner.FlatObject.{content_of}
use Rattle.pana_wire.proofs.flat_object.FlatObject.content.Given as goal

abbrev pub invariant-loop-left : goal.invariant-loop-left
invariant-loop-left l = (l.left ≤ length l.members) × (content_of l.name l.members None ≡ content_of l.name (take l.left l.members) None)

abbrev pub decreases-loop-left : goal.decreases-loop-left
decreases-loop-left l = l.left
