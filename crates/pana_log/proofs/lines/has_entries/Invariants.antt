use Rattle.std.proofs.Common.{◌≡◌, length}
use Rattle.pana_log.specs.Lines.{has_entries}
use Rattle.pana_log.proofs.lines.has_entries.Given as goal

abbrev pub invariant-loop-rest : goal.invariant-loop-rest
invariant-loop-rest l = has_entries l.bytes ≡ has_entries l.rest

abbrev pub decreases-loop-rest : goal.decreases-loop-rest
decreases-loop-rest l = length l.rest
