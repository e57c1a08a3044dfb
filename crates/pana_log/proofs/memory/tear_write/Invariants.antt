use Rattle.std.proofs.Common.{length}
use Rattle.pana_log.specs.Device.{Torn}
use Rattle.pana_log.proofs.memory.tear_write.Given as goal

abbrev pub invariant-loop-i : goal.invariant-loop-i
invariant-loop-i l = Torn l.at (length l.bytes) l.initial.file.items l.file.items
