-- The tables of all families of a journal.
use Rattle.std.specs.Prelude.{ℕ, List, [], ◌∷◌, Option}
use Rattle.std.specs.List.{join_by}
use Rattle.pana_journal.specs.declared.entry.Entry.{Entry}
use Rattle.pana_hall.specs.Living.{living}
use Rattle.pana_hall.specs.Board.{board_of}
use Rattle.pana_hall.specs.Queries.{family_rows}
use Rattle.pana_calls.specs.declared.family_row.FamilyRow.{FamilyRow}
use Rattle.pana_report.specs.Table.{table_text}

-- the table of a family, in a terminal of this width, or of any where none is given
abbrev pub table_of : Option ℕ → List Entry → FamilyRow → List ℕ
table_of terminal journal row = table_text terminal (board_of row.family (living journal))

-- the tables of the families with a living copy, by rising number, with an empty line between two
unfoldable pub tables_text : Option ℕ → List Entry → List ℕ
tables_text terminal journal = join_by (table_of terminal journal) (10 ∷ []) (family_rows journal (living journal))
