-- The rows of a family: the stamps of its copies and parcels, as its entries make them one after another.
use Rattle.std.specs.Prelude.{ℕ, List, [], ◌∷◌, ◌++◌, fold, Option, Some, None, if◌then◌else◌}
use Rattle.pana_journal.specs.declared.report.Report.{Report}
use Rattle.pana_journal.specs.declared.entry.Entry.{Entry}
use Rattle.pana_family.specs.declared.row.StampRow.{StampRow}
use Rattle.pana_family.specs.declared.report.FamilyReport.{FamilyReport}
use Rattle.pana_family.specs.Rows.{seed_row}
use Rattle.pana_family.specs.After.{reported_rows}
use Rattle.pana_hall.specs.Family.{families, entries_of, is_register, family_report}
use Rattle.pana_hall.specs.Effective.{effective}

-- the rows after what entry n reports of its family's copies, if it does
abbrev pub changed_rows : ℕ → Option FamilyReport → List StampRow → List StampRow
changed_rows n None rows = rows
changed_rows n (Some report) rows = reported_rows n report rows

-- the rows after entry n's report: a Register begins with the row of its copy, which owns all
abbrev pub rows_after : ℕ → Report → List StampRow → List StampRow
rows_after n report rows = if is_register report then rows ++ seed_row n ∷ [] else changed_rows n (family_report report) rows

abbrev pub rows_by : List StampRow → Entry → List StampRow
rows_by rows entry = rows_after entry.number entry.report rows

-- the rows that these entries of a family make
unfoldable pub rows_of : List Entry → List StampRow
rows_of entries = fold rows_by [] entries

-- the rows of a family: its entries that count make them
abbrev pub stamp_rows : ℕ → List Entry → List StampRow
stamp_rows family journal = rows_of (entries_of family (families journal) (effective journal))
