use Rattle.std.proofs.Common.{◌≡◌, take}
use Rattle.pana_report.specs.Columns.{widest}
use Rattle.pana_report.specs.Status.{newest_place}
use Rattle.pana_report.proofs.limits.newest_width.Given as goal

abbrev pub invariant-loop-copy : goal.invariant-loop-copy
invariant-loop-copy l = l.width ≡ widest l.least (newest_place l.most) (take l.copy-index l.newest)
