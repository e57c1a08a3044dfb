use Rattle.std.proofs.Common.{◌≡◌, ◌++◌, take, string_bytes}
use Rattle.std.specs.List.{flat_map}
use Rattle.pana_report.specs.Columns.{row_line}
use Rattle.pana_report.specs.Status.{columns}
use Rattle.pana_report.proofs.status.write_rows.Given as goal

abbrev pub invariant-loop-row : goal.invariant-loop-row
invariant-loop-row l = string_bytes l.text ≡ string_bytes l.initial.text ++ flat_map (row_line (columns l.limits l.places)) (take l.row-index l.rows)
