-- What follows for rows from the table that they stand for.
use Rattle.pana_family.proofs.Words.{◌+◌, fold, cond, ◌≡◌, ℕ, List, ◌∷◌, map, sym, ap, ◌∙◌, arith, nat_tests, StampRow, is_held, Known, In, copies_of, set_in, AreHeld, AreSame, StandsFor, AreBefore}
use Rattle.pana_family.proofs.Words.{lives, copy_rows, IsKept, IsAbove, is_in, held_by, held_rows}
use Rattle.pana_family.proofs.Members.{of_row, of_known, one_known, set_of}
use Rattle.pana_family.proofs.Changes.{below_is_subset}

-- a copy lives in rows as in the table
pub same_living : (rows : List StampRow) (table : List Known) (copy : ℕ) → AreSame rows table → lives rows copy ≡ is_in table copy
same_living (r ∷ rows) (t ∷ table) copy same = grind (arith, nat_tests, same_living rows table copy same.3)
same_living rows table copy same = grind (arith, nat_tests)

-- a number above those of a table is above those of the rows
pub same_before : (rows : List StampRow) (table : List Known) (n : ℕ) → AreSame rows table → IsAbove n table → AreBefore n rows
same_before rows table n same above = grind (arith, nat_tests, of_row)

held_from : (copy : ℕ) (s : ℕ) (rows : List StampRow) (table : List Known) → AreSame rows table
    → fold (λ a r. a + cond (is_held copy r.holder) 1 0) s rows ≡ fold (λ a t. a + cond (is_held copy t.holder) 1 0) s table
held_from copy s (r ∷ rows) (t ∷ table) same = grind (arith, nat_tests, held_from copy (s + cond (is_held copy r.holder) 1 0) rows table same.3)
held_from copy s rows table same = grind (arith, nat_tests)

pub same_held : (copy : ℕ) (rows : List StampRow) (table : List Known) → AreSame rows table → held_rows copy rows ≡ held_by copy table
same_held copy rows table same = held_from copy 0 rows table same

-- what holds of the table that is kept holds of each that the rows stand for
pub all_held : (rows : List StampRow) (table : List Known) → IsKept rows → StandsFor rows table → AreHeld table
all_held rows table k st t h i e =
    let r = of_known rows table st.same t i in
    let s = of_row rows k.table k.stands.same r.0 r.1 in
    let by = k.held s.0 h s.1 (sym s.4 ∙ r.4 ∙ e) in
    let q = of_known rows k.table k.stands.same by.by by.living in
    let u = of_row rows table st.same q.0 q.1 in
    let up = k.rising in
    let own : (l : List Known) (same : AreSame rows l) (w : StampRow) (x : Known) → In w rows → In x l → w.copy ≡ x.copy → set_in l w.copy ≡ x.set =
    λ l same w x a b f. ap (set_in l) f ∙ set_of l x (one_known 0 rows l same up) b in
    grind (arith, nat_tests, below_is_subset)

-- The copies of rows and of a table are the same.

pub same_copies : (rows : List StampRow) (table : List Known) → AreSame rows table → AreSame (copy_rows rows) (copies_of table)
same_copies (r ∷ rows) (t ∷ table) same = grind (arith, nat_tests, same_copies rows table same.3)
same_copies rows table same = grind (arith, nat_tests)

same_numbers : (rows : List StampRow) (table : List Known) → AreSame rows table → map (λ r. r.copy) rows ≡ map (λ t. t.copy) table
same_numbers (r ∷ rows) (t ∷ table) same = grind (arith, nat_tests, same_numbers rows table same.3)
same_numbers rows table same = grind (arith, nat_tests)

pub copy_numbers : (rows : List StampRow) (table : List Known) → AreSame rows table → map (λ r. r.copy) (copy_rows rows) ≡ map (λ t. t.copy) (copies_of table)
copy_numbers rows table same = grind (arith, nat_tests, same_numbers, same_copies)
