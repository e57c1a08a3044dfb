-- The board of a family, from its table of sets.
use Rattle.std.specs.Prelude.{ℕ, Bool, List, map}
use Rattle.pana_event.specs.declared.rel.Rel.{Rel}
use Rattle.pana_rel.specs.declared.counts.Counts.{Counts}
use Rattle.pana_rel.specs.Board.{counts_of, is_split, newest_of}
use Rattle.pana_family.specs.declared.board.CopyCounts.{CopyCounts}
use Rattle.pana_family.specs.Relation.{relation}
use Rattle.pana_family.specs.Table.{Known, copies_of}

-- how a copy relates to another, by their sets
abbrev pub known_relation : Known → Known → Rel
known_relation t s = relation t.set s.set

-- a copy's number
abbrev pub number_of : Known → ℕ
number_of t = t.copy

-- a copy's row: its number, and how many others are newer, older, equal and in conflict
abbrev pub row_of : ℕ → Counts → CopyCounts
row_of copy counts = record { copy = copy; newer = counts.above; older = counts.below; equal = counts.equal; conflict = counts.conflict }

-- the rows of the copies of a table, by rising number
unfoldable pub board_rows : List Known → List CopyCounts
board_rows table = map (λ t. row_of t.copy (counts_of number_of known_relation (copies_of table) t)) (copies_of table)

-- the numbers of its newest copies, by rising number
unfoldable pub board_newest : List Known → List ℕ
board_newest table = map number_of (newest_of number_of known_relation (copies_of table))

-- whether two of its newest copies are in conflict
unfoldable pub board_split : List Known → Bool
board_split table = is_split number_of known_relation (copies_of table)
