-- Boards and holdings, as they are answered.
use Rattle.pana_hall.proofs.Words.{◌≡◌, ℕ, Bool, List, [], ◌∷◌, map, filter, Option, Some, IsSome, is_some, option_map, unwrap_or, ◌+◌, ◌≤◌, nat_le, ◌++◌, AllByRecursion}
use Rattle.pana_hall.proofs.Words.{refl, sym, ap, ◌∙◌, subst, arith, Place, Table, kept, Entry, CopyCounts, Known, BoardRow, Copy, copy_in, living, all_known, is_of, sets_of, family_row}
use Rattle.pana_hall.proofs.Words.{IsAccepted, sets_at, spot_of, AreSpots, placed_row, option_to_list, Holding, AreRising, map-map, nat_tests, row_of_sets}
use Rattle.pana_hall.proofs.Words.{true}
use Rattle.pana_rel.specs.Board.{counts_of, is_split, newest_of}
use Rattle.pana_family.specs.Board as board
use Rattle.pana_family.specs.Table as table
use Rattle.pana_hall.specs.Board.{row_of, board_of}
use Rattle.pana_hall.proofs.Lists.{each_filter, each_map, each_of, each_weaker, filter_twice, map_same, filter_all, none_under}
use Rattle.pana_hall.proofs.{Stood.copies_sets, Ready.place_spots, Places.living_found}

-- A family's board from its table of sets: the one of its copies.

-- the rows of a family's table, each with the place of its copy
pub rows_placed : (journal : List Entry) (family : ℕ) (copies : Table) → IsAccepted 8 journal → AreSpots journal copies
    → map (placed_row copies) (board.board_rows (sets_at 0 family journal)) ≡ map (row_of (sets_of family (living journal))) (filter (is_of family) (living journal))
unfolding board.board_rows row_of
rows_placed journal family copies accepted spots =
    let own = filter (is_of family) (living journal) in
    let counted : List Known → Known → CopyCounts = λ l t. board.row_of t.copy (counts_of board.number_of board.known_relation l t) in
    let counts = counted (all_known own) in
    ap (λ l. map (placed_row copies) (map (counted l) l)) (copies_sets journal family accepted)
    ∙ map-map (placed_row copies) counts (all_known own)
    ∙ map-map (λ t. placed_row copies (counts t)) (λ c. c.known) own
    ∙ map_same (λ c. placed_row copies (counts c.known)) (row_of (all_known own)) (λ c. copy_in (living journal) c.known.copy ≡ Some c) own
    (λ c found. ap (placed_with (counts c.known)) (place_spots journal copies spots c.known.copy ∙ ap (option_map (λ x. x.place)) found))
    (each_filter _ (is_of family) (living journal) (living_found 8 journal accepted))
  where
    placed_with : CopyCounts → Option Place → BoardRow
    placed_with row at = record { copy = row.copy; place = unwrap_or at (record { device = []; path = [] }); newer = row.newer; older = row.older; equal = row.equal; conflict = row.conflict }

-- each of its copies is kept
pub rows_kept : (journal : List Entry) (family : ℕ) (copies : Table) → IsAccepted 8 journal → AreSpots journal copies
    → AllByRecursion (λ row. IsSome (kept copies row.copy)) (board.board_rows (sets_at 0 family journal))
unfolding board.board_rows
rows_kept journal family copies accepted spots =
    let own = filter (is_of family) (living journal) in
    subst (λ l. AllByRecursion (λ row. IsSome (kept copies row.copy)) (map (λ t. board.row_of t.copy (counts_of board.number_of board.known_relation l t)) l)) (sym (copies_sets journal family accepted))
    (each_map _ _ (all_known own) (each_map _ _ own (each_weaker (λ c. copy_in (living journal) c.known.copy ≡ Some c) _ own (λ c found. ap is_some (spots c.known.copy ∙ ap (option_map spot_of) found))
    (each_filter _ (is_of family) (living journal) (living_found 8 journal accepted)))))

-- the two tables have the same copies
same_copies : (journal : List Entry) (family : ℕ) → IsAccepted 8 journal → table.copies_of (sets_at 0 family journal) ≡ table.copies_of (sets_of family (living journal))
same_copies journal family accepted = grind (arith, nat_tests, filter_twice, copies_sets)

-- so the newest, and the split
pub newest_is : (journal : List Entry) (family : ℕ) → IsAccepted 8 journal → board.board_newest (sets_at 0 family journal) ≡ board.board_newest (sets_of family (living journal))
unfolding board.board_newest
newest_is journal family accepted = ap (λ l. map board.number_of (newest_of board.number_of board.known_relation l)) (same_copies journal family accepted)

pub split_is : (journal : List Entry) (family : ℕ) → IsAccepted 8 journal → board.board_split (sets_at 0 family journal) ≡ board.board_split (sets_of family (living journal))
unfolding board.board_split
split_is journal family accepted = ap (is_split board.number_of board.known_relation) (same_copies journal family accepted)

-- a family's row
pub row_is : (journal : List Entry) (family : ℕ) → IsAccepted 8 journal → row_of_sets family (sets_at 0 family journal) ≡ family_row (living journal) family
row_is journal family accepted = grind (arith, nat_tests, same_copies, newest_is, split_is)

-- the board of a family, from its rows
pub board_is : (journal : List Entry) (family : ℕ) (rows : List BoardRow) (new : List ℕ) (split : Bool) (copies : Table) → IsAccepted 8 journal → AreSpots journal copies
    → rows ≡ map (placed_row copies) (board.board_rows (sets_at 0 family journal)) → new ≡ board.board_newest (sets_at 0 family journal) → split ≡ board.board_split (sets_at 0 family journal)
    → record { family = family; rows = rows; newest = new; split = split } ≡ board_of family (living journal)
unfolding board_of
board_is journal family rows new split copies accepted spots rows_are new_are split_is_it =
    rw (rows_are, rows_placed journal family copies accepted spots, new_are, newest_is journal family accepted, split_is_it, split_is journal family accepted) refl

-- The copies up to a number.

abbrev pub upto : ℕ → List Copy → List Copy
upto n copies = filter (λ copy. nat_le copy.known.copy n) copies

pub upto_none : (low n : ℕ) (copies : List Copy) → n ≤ low → AreRising (λ c. c.known.copy) low copies → upto n copies ≡ []
upto_none low n [] below rises = refl
upto_none low n (c ∷ copies) below rises = grind (arith, nat_tests, upto_none c.known.copy n copies (omega arith) rises.1)

-- one number more adds its copy
pub upto_more : (low n : ℕ) (copies : List Copy) → AreRising (λ c. c.known.copy) low copies → upto (n + 1) copies ≡ upto n copies ++ option_to_list (copy_in copies (n + 1))
upto_more low n [] rises = refl
upto_more low n (c ∷ copies) rises = grind (arith, nat_tests, upto_more c.known.copy n copies rises.1, upto_none, none_under)

-- all holdings are from 0 on
pub from_zero : (list : List Holding) → filter (λ h. nat_le 0 h.copy) list ≡ list
from_zero list = filter_all (λ h. nat_le 0 h.copy) list (each_of (λ h. nat_le 0 h.copy ≡ true) (λ h. grind (arith, nat_tests)) list)
