-- Lines put together of their pieces.
use Rattle.std.proofs.Common.{◌≡◌, ℕ, List, [], ◌∷◌, ◌++◌, append_assoc, length, sym}
use Rattle.std.specs.Prelude.{codes, decimal}
use Rattle.pana_calls.specs.declared.board.BoardView.{BoardView}
use Rattle.pana_report.specs.declared.cell.Alignment.TheVariants.{Left, Right}
use Rattle.pana_report.specs.declared.widths.Widths.{Widths}
use Rattle.pana_report.specs.Columns.{blanks, cell, side_by_side, newline}
use Rattle.pana_report.specs.Table.{family_line, yes_or_no}
use Rattle.pana_report.specs.inner.Lines.{line_of}

-- a line behind a text, cell by cell
pub line_pieces : (text : List ℕ) (widths : Widths) (copy place state newer older equal conflict : List ℕ)
    → text ++ line_of widths copy place state newer older equal conflict
    ≡ text ++ cell Right widths.copy copy ++ (blanks 2 ++ cell Left widths.place place) ++ (blanks 2 ++ cell Left 8 state)
    ++ (blanks 2 ++ cell Right 5 newer) ++ (blanks 2 ++ cell Right 5 older) ++ (blanks 2 ++ cell Right 5 equal) ++ (blanks 2 ++ cell Right 8 conflict) ++ newline
unfolding line_of
line_pieces text widths copy place state newer older equal conflict = simp append_assoc

-- a line of a status behind a text, cell by cell
pub status_pieces : (text : List ℕ) (places : ℕ) (state copy advice : List ℕ)
    → text ++ (side_by_side (cell Left 8 state ∷ cell Left places copy ∷ cell Left 0 advice ∷ []) ++ newline)
    ≡ text ++ cell Left 8 state ++ (blanks 2 ++ cell Left places copy) ++ (blanks 2 ++ cell Left 0 advice) ++ newline
status_pieces text places state copy advice = simp append_assoc

-- the line about the family, as a format writes it
pub family_pieces : (board : BoardView) → family_line board
    ≡ codes "family " ++ (decimal board.family ++ (codes ": copies " ++ (decimal (length board.rows)
    ++ (codes ", newest " ++ (decimal (length board.newest) ++ (codes ", split " ++ (yes_or_no board.split ++ newline)))))))
unfolding family_line
family_pieces board = simp append_assoc

-- the line of a newest copy behind a text, cell by cell
pub newest_pieces : (text state copy : List ℕ)
    → text ++ (side_by_side (cell Left 8 state ∷ cell Left 0 copy ∷ []) ++ newline) ≡ text ++ cell Left 8 state ++ (blanks 2 ++ cell Left 0 copy) ++ newline
newest_pieces text state copy = simp append_assoc

-- three parts behind nothing
pub all_lines : (heads rows newest : List ℕ) → heads ++ (rows ++ newest) ≡ [] ++ heads ++ rows ++ newest
all_lines heads rows newest = sym (append_assoc heads rows newest)
