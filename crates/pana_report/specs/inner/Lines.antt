-- The lines of a board's table, from the widths and the texts in them.
use Rattle.std.specs.Prelude.{ℕ, List, [], ◌∷◌, ◌++◌, decimal, codes, Option}
use Rattle.pana_calls.specs.Standing.{state_name}
use Rattle.pana_calls.specs.declared.board.BoardRow.{BoardRow}
use Rattle.pana_report.specs.declared.cell.Alignment.TheVariants.{Left, Right}
use Rattle.pana_report.specs.declared.widths.Widths.{Widths}
use Rattle.pana_report.specs.Columns.{cell, side_by_side, newline, widest}
use Rattle.pana_report.specs.Table.{copy_text, row_place, state_of}

-- the widths that depend on the copies, whose places take at most so many columns of a terminal
unfoldable pub widths_of : Option ℕ → List BoardRow → Widths
widths_of most rows = record { copy = widest 4 copy_text rows; place = widest 5 (row_place most) rows; most = most }

-- the line with these texts in its columns
unfoldable pub line_of : Widths → (copy place state newer older equal conflict : List ℕ) → List ℕ
line_of widths copy place state newer older equal conflict =
    side_by_side (cell Right widths.copy copy ∷ cell Left widths.place place ∷ cell Left 8 state
    ∷ cell Right 5 newer ∷ cell Right 5 older ∷ cell Right 5 equal ∷ cell Right 8 conflict ∷ [])
    ++ newline

-- the line of heads
unfoldable pub heads_of : Widths → List ℕ
heads_of widths = line_of widths (codes "COPY") (codes "PLACE") (codes "STATE") (codes "NEWER") (codes "OLDER") (codes "EQUAL") (codes "CONFLICT")

-- the line of a copy
unfoldable pub row_line_of : Widths → BoardRow → List ℕ
row_line_of widths row = line_of widths (copy_text row) (row_place widths.most row) (state_name (state_of row))
    (decimal row.newer) (decimal row.older) (decimal row.equal) (decimal row.conflict)
