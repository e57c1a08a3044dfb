-- The lines from the widths are those from the columns.
use Rattle.std.proofs.Common.{◌≡◌, ℕ, List, ◌++◌, Option, refl, sym, append_assoc}
use Rattle.std.specs.List.{flat_map}
use Rattle.pana_calls.specs.declared.board.BoardRow.{BoardRow}
use Rattle.pana_report.specs.Columns.{head_line, row_line, lines_of}
use Rattle.pana_report.specs.Table.{columns}
use Rattle.pana_report.specs.inner.Lines.{line_of, widths_of, heads_of, row_line_of}

same_heads : (most : Option ℕ) (rows : List BoardRow) → heads_of (widths_of most rows) ≡ head_line (columns most rows)
unfolding line_of widths_of heads_of columns head_line
same_heads most rows = refl

same_rows : (most : Option ℕ) (rows : List BoardRow) → row_line_of (widths_of most rows) ≡ row_line (columns most rows)
unfolding line_of widths_of row_line_of columns row_line
same_rows most rows = refl

-- the lines behind a text, those of heads and of copies
pub same_lines : (text : List ℕ) (most : Option ℕ) (rows : List BoardRow)
    → text ++ lines_of (columns most rows) rows ≡ text ++ heads_of (widths_of most rows) ++ flat_map (row_line_of (widths_of most rows)) rows
same_lines text most rows = rw (same_heads most rows, same_rows most rows) (sym (append_assoc text (head_line (columns most rows)) (flat_map (row_line (columns most rows)) rows)))
