use Rattle.std.proofs.Common.{◌≡◌, take}
use Rattle.pana_shared_tests.proofs.memory.copy_group.Given as goal

abbrev pub invariant-loop-record : goal.invariant-loop-record
invariant-loop-record l = l.copy.items ≡ take l.record-index l.group
