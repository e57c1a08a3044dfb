-- The table of a board: a line about the family, a line of heads, and a line for each copy.
use Rattle.std.specs.Prelude.{ℕ, ◌==◌, ◌-◌, max, Bool, not, if◌then◌else◌, List, [], ◌∷◌, ◌++◌, length, codes, decimal, Option, option_map}
use Rattle.pana_calls.specs.Standing.{state_name}
use Rattle.pana_calls.specs.declared.board.BoardRow.{BoardRow}
use Rattle.pana_calls.specs.declared.board.BoardView.{BoardView}
use Rattle.pana_calls.specs.declared.standing.CopyState.{CopyState}
use Rattle.pana_calls.specs.declared.standing.CopyState.TheVariants.{Newest, Obsolete, Conflict}
use Rattle.pana_report.specs.declared.cell.Alignment.TheVariants.{Left, Right}
use Rattle.pana_report.specs.Columns.{Column, column, widest, place_text, newline, lines_of}
use Rattle.pana_report.specs.Fitted.{fitted}

-- ---- what stands in a copy's line

-- the copy's number
abbrev pub copy_text : BoardRow → List ℕ
copy_text row = decimal row.copy

-- its place, in at most so many columns of a terminal
abbrev pub row_place : Option ℕ → BoardRow → List ℕ
row_place most row = fitted most (place_text row.place)

-- its state: obsolete where another is newer, else in conflict where one is, else newest
abbrev pub state_of : BoardRow → CopyState
state_of row = if not (row.newer == 0) then Obsolete else if not (row.conflict == 0) then Conflict else Newest

-- the columns of the table of these copies, whose places take at most so many columns of a terminal
unfoldable pub columns : Option ℕ → List BoardRow → List (Column BoardRow)
columns most rows =
    column (codes "COPY") Right (widest 4 copy_text rows) copy_text
    ∷ column (codes "PLACE") Left (widest 5 (row_place most) rows) (row_place most)
    ∷ column (codes "STATE") Left 8 (λ row. state_name (state_of row))
    ∷ column (codes "NEWER") Right 5 (λ row. decimal row.newer)
    ∷ column (codes "OLDER") Right 5 (λ row. decimal row.older)
    ∷ column (codes "EQUAL") Right 5 (λ row. decimal row.equal)
    ∷ column (codes "CONFLICT") Right 8 (λ row. decimal row.conflict)
    ∷ []

-- how many columns a place may take in a terminal of this width: what the others and the blanks between them leave, and at least 12
abbrev pub place_limit : Option ℕ → ℕ → Option ℕ
place_limit terminal copy = option_map (λ columns. max 12 (columns - 43 - copy)) terminal

-- ---- the table

abbrev pub yes_or_no : Bool → List ℕ
yes_or_no answer = if answer then codes "yes" else codes "no"

-- the first line, as: family 1: copies 2, newest 1, split no
unfoldable pub family_line : BoardView → List ℕ
family_line board = codes "family " ++ decimal board.family ++ codes ": copies " ++ decimal (length board.rows)
    ++ codes ", newest " ++ decimal (length board.newest) ++ codes ", split " ++ yes_or_no board.split ++ newline

-- the table of a board, in a terminal of this width, or of any where none is given
unfoldable pub table_text : Option ℕ → BoardView → List ℕ
table_text terminal board = family_line board ++ lines_of (columns (place_limit terminal (widest 4 copy_text board.rows)) board.rows) board.rows
