use Rattle.std.proofs.Common.{◌≡◌}
use Rattle.pana_scan.specs.Notice.{found}
use Rattle.pana_scan.specs.inner.Seen.{all_files}
use Rattle.pana_scan.proofs.noticing.found.Given as goal

abbrev pub invariant-loop-file : goal.invariant-loop-file
invariant-loop-file l = l.notices.items ≡ found (all_files l.yielded)
