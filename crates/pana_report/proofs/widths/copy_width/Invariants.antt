use Rattle.std.proofs.Common.{◌≡◌, take}
use Rattle.pana_report.specs.Columns.{widest}
use Rattle.pana_report.specs.Table.{copy_text}
use Rattle.pana_report.proofs.widths.copy_width.Given as goal

abbrev pub invariant-loop-row : goal.invariant-loop-row
invariant-loop-row l = l.width ≡ widest 4 copy_text (take l.row-index l.rows)
