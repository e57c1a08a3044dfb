use Rattle.std.proofs.Common.{◌≡◌, length}
use Rattle.pana_wire.specs.inner.FlatObject.{AreSound, members_then}
use Rattle.pana_wire.proofs.flat_object.read_members.Given as goal

abbrev pub invariant-loop-name : goal.invariant-loop-name
invariant-loop-name l = (l.initial.reader ≡ members_then l.members.items l.reader) × AreSound l.members.items

abbrev pub decreases-loop-name : goal.decreases-loop-name
decreases-loop-name l = length l.reader
