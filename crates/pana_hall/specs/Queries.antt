-- The answers to queries, where nothing stands against them.
use Rattle.std.specs.Prelude.{ℕ, nat_le, List, map, filter, length, take, Option, Some, None}
use Rattle.std.specs.List.{list_any}
use Rattle.std.specs.Str.{bytes_eq}
use Rattle.std.specs.Set.{distinct_count}
use Rattle.pana_event.specs.declared.rel.Rel.{Rel}
use Rattle.pana_journal.specs.declared.entry.Entry.{Entry}
use Rattle.pana_calls.specs.declared.family_row.FamilyRow.{FamilyRow}
use Rattle.pana_calls.specs.declared.hall_counts.HallCounts.{HallCounts}
use Rattle.pana_calls.specs.declared.holding.Holding.{Holding}
use Rattle.pana_family.specs.Relation.{relation}
use Rattle.pana_family.specs.Table.{Known, copies_of}
use Rattle.pana_family.specs.Board.{board_newest, board_split}
use Rattle.pana_hall.specs.Family.{is_register}
use Rattle.pana_hall.specs.Living.{Copy, number_of, known_to, sum_of}
use Rattle.pana_hall.specs.Board.{is_of, sets_of}

-- the row of a family with this table of sets: how many living copies it has, how many of them are newest, and whether it is split
abbrev pub row_of_sets : ℕ → List Known → FamilyRow
row_of_sets family table = record { family = family; copies = length (copies_of table); newest = length (board_newest table); split = board_split table }

-- a family's row
abbrev pub family_row : List Copy → ℕ → FamilyRow
family_row copies family = row_of_sets family (sets_of family copies)

-- the numbers of the families that a journal has begun
abbrev pub begun : List Entry → List ℕ
begun journal = map (λ entry. entry.number) (filter (λ entry. is_register entry.report) journal)

-- a row for each family with a living copy, by rising number
abbrev pub family_rows : List Entry → List Copy → List FamilyRow
family_rows journal copies = map (family_row copies) (filter (λ family. list_any (is_of family) copies) (begun journal))

-- how the first copy relates to the second, by what they know
abbrev pub pair_of : List Copy → ℕ → ℕ → Rel
pair_of copies a b = relation (known_to copies a) (known_to copies b)

-- how many copies live, and how many devices have one
unfoldable pub counts_of : List Copy → HallCounts
counts_of copies = record { copies = length copies; devices = distinct_count bytes_eq (map (λ copy. copy.place.device) copies) }

-- a copy as a holding of its device
abbrev pub holding : Copy → Holding
holding copy = record { copy = number_of copy; family = copy.family; path = copy.place.path; sum = sum_of copy; touch = copy.known.touch }

-- the living copies on a device, by rising number
abbrev pub holdings : List Copy → List ℕ → List Holding
holdings copies device = map holding (filter (λ copy. bytes_eq copy.place.device device) copies)

-- those of them with a number from this one on, at most 1,000; where there is none, all
abbrev pub holdings_from : Option ℕ → List Holding → List Holding
holdings_from None holdings = holdings
holdings_from (Some from) holdings = take 1000 (filter (λ holding. nat_le from holding.copy) holdings)
