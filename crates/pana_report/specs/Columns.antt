-- What the tables of any rows have in common: cells, columns, and lines of cells beside each other.
use Rattle.std.specs.Prelude.{ℕ, ◌-◌, max, false, List, [], ◌∷◌, ◌++◌, map, fold, replicate, codes, chars}
use Rattle.std.specs.List.{flat_map}
use Rattle.unicode_width.specs.Width.{str_width}
use Rattle.pana_copies.specs.declared.place.Place.{Place}
use Rattle.pana_terminal.specs.Shown.{shown}
use Rattle.pana_report.specs.declared.cell.Alignment.{Alignment}
use Rattle.pana_report.specs.declared.cell.Alignment.TheVariants.{Left, Right}

-- ---- cells

-- the columns of a terminal that a text takes
abbrev pub width : List ℕ → ℕ
width text = str_width false (chars text)

-- so many blanks
abbrev pub blanks : ℕ → List ℕ
blanks count = replicate count 32

-- a text on its side of a column, with blanks up to the column's width
unfoldable pub cell : Alignment → ℕ → List ℕ → List ℕ
cell Left column text = text ++ blanks (column - width text)
cell Right column text = blanks (column - width text) ++ text

-- a place, as device:path, and as a terminal may show it
abbrev pub place_text : Place → List ℕ
place_text place = shown (place.device ++ (codes ":" ++ place.path))

-- ---- columns

-- a column: its head, the side to which its texts go, its width, and its text for each row
pub record Column (Row : Type 0) : Type 0 where
  pub head : List ℕ
  pub side : Alignment
  pub width : ℕ
  pub text : Row → List ℕ

-- the column of these four
abbrev pub column : {Row : Type 0} → List ℕ → Alignment → ℕ → (Row → List ℕ) → Column Row
column head side width text = record { head = head; side = side; width = width; text = text }

-- the width of the widest of these texts, and at least so much
abbrev pub widest : {Row : Type 0} → ℕ → (Row → List ℕ) → List Row → ℕ
widest least text rows = fold max least (map (λ row. width (text row)) rows)

-- ---- lines

-- the byte that ends a line
abbrev pub newline : List ℕ
newline = 10 ∷ []

-- cells beside each other, with two blanks between them
abbrev pub side_by_side : List (List ℕ) → List ℕ
side_by_side [] = []
side_by_side (cell ∷ []) = cell
side_by_side (cell ∷ next ∷ cells) = cell ++ blanks 2 ++ side_by_side (next ∷ cells)

-- the line of heads
unfoldable pub head_line : {Row : Type 0} → List (Column Row) → List ℕ
head_line columns = side_by_side (map (λ column. cell column.side column.width column.head) columns) ++ newline

-- the line of a row
unfoldable pub row_line : {Row : Type 0} → List (Column Row) → Row → List ℕ
row_line columns row = side_by_side (map (λ column. cell column.side column.width (column.text row)) columns) ++ newline

-- the line of heads, and a line for each row
abbrev pub lines_of : {Row : Type 0} → List (Column Row) → List Row → List ℕ
lines_of columns rows = head_line columns ++ flat_map (row_line columns) rows
