use Rattle.std.proofs.Common.{◌≡◌, take}
use Rattle.pana_shared.specs.Log.{ours}
use Rattle.pana_shared_tests.proofs.memory.is_own.Given as goal

abbrev pub invariant-loop-record : goal.invariant-loop-record
invariant-loop-record l = ours l.writer (take l.record-index l.group) ≡ take l.record-index l.group
