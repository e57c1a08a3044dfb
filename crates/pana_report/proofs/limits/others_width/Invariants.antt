use Rattle.std.proofs.Common.{◌≡◌, take}
use Rattle.pana_report.specs.Columns.{place_text, widest}
use Rattle.pana_report.proofs.limits.others_width.Given as goal

abbrev pub invariant-loop-row : goal.invariant-loop-row
invariant-loop-row l = l.width ≡ widest l.least (λ row. place_text row.with.place) (take l.row-index l.rows)
