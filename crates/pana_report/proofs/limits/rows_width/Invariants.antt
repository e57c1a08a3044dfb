use Rattle.std.proofs.Common.{◌≡◌, take}
use Rattle.pana_report.specs.Columns.{widest}
use Rattle.pana_report.specs.Status.{copy_place}
use Rattle.pana_report.proofs.limits.rows_width.Given as goal

abbrev pub invariant-loop-row : goal.invariant-loop-row
invariant-loop-row l = l.width ≡ widest 4 (copy_place l.most) (take l.row-index l.rows)
