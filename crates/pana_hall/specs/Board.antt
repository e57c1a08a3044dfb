-- The board of a family, from the table of sets of its living copies.
use Rattle.std.specs.Prelude.{ℕ, Bool, ◌==◌, List, map, filter}
use Rattle.pana_rel.specs.Board.{counts_of}
use Rattle.pana_family.specs.Table.{Known}
use Rattle.pana_family.specs.Board as board
use Rattle.pana_calls.specs.declared.board.BoardRow.{BoardRow}
use Rattle.pana_calls.specs.declared.board.BoardView.{BoardView}
use Rattle.pana_hall.specs.Living.{Copy, number_of}

-- whether the copy is of the family
abbrev pub is_of : ℕ → Copy → Bool
is_of family copy = copy.family == family

-- what is known of copies
abbrev pub all_known : List Copy → List Known
all_known copies = map (λ copy. copy.known) copies

-- the table of sets of a family's living copies
abbrev pub sets_of : ℕ → List Copy → List Known
sets_of family copies = all_known (filter (is_of family) copies)

-- a copy's row: its place, and how many others of the table are newer, older, equal and in conflict
unfoldable pub row_of : List Known → Copy → BoardRow
row_of table copy = let counts = counts_of board.number_of board.known_relation table copy.known in record {
  copy = number_of copy;
  place = copy.place;
  newer = counts.above;
  older = counts.below;
  equal = counts.equal;
  conflict = counts.conflict;
}

-- the board of a family among the living copies
unfoldable pub board_of : ℕ → List Copy → BoardView
board_of family copies = let table = sets_of family copies in record {
  family = family;
  rows = map (row_of table) (filter (is_of family) copies);
  newest = board.board_newest table;
  split = board.board_split table;
}
