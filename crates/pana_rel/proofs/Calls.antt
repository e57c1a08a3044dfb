-- What the calls of a table return, from its copies and rows.
use Rattle.std.proofs.Common.{◌≡◌, ℕ, Bool, true, false, ◌+◌, ◌<◌, List, [], ◌∷◌, ◌++◌, length, get_or, take, refl, ap, sym, subst, ◌∙◌, arith}
use Rattle.std.specs.Prelude.{◌↔◌, if◌then◌else◌, Contains, filter, count_by, map}
use Rattle.std.proofs.lemmas.List.{append-nil, ext_get_or, get_or-map, get_or_read, length-map}
use Rattle.std.proofs.lemmas.List.Elements.{filter_more}
use Rattle.pana_event.specs.declared.rel.Rel.{Rel}
use Rattle.pana_event.specs.declared.rel.Rel.TheVariants.{Equal, Older, Newer, Conflict}
use Rattle.pana_event.specs.Relation.{reverse_of}
use Rattle.pana_rel.specs.declared.counts.Counts.{Counts}
use Rattle.pana_rel.specs.Board.{counts_of, is_split, relates}
use Rattle.pana_rel.specs.Pairs.{Table, own_number, place_of, rel_at, rel_of}
use Rattle.pana_rel.specs.inner.Square.{Relations, counts_in, rel_in, row_in, table_of, AreAllCounted, AreCounted, AreSelfEqual, IsKept, IsTorn}
use Rattle.pana_rel.proofs.Boards.{copy_at, counted_equal, counted_others, split_is}
use Rattle.pana_rel.proofs.Places.{place_at, place_within}
use Rattle.pana_rel.proofs.Tables.{at_table}

-- what is said of the relation that was read
abbrev Reads : ℕ → ℕ → ℕ → ℕ → Rel → List ℕ → (ℕ → ℕ → Rel) → Type 0
Reads a b p q x copies rel =
    Contains copies a → Contains copies b → p ≡ place_of a copies → q ≡ place_of b copies
    → (x ≡ rel a b) × (rel b a ≡ reverse_of x) × (a ≡ b → x ≡ Equal)

pub rel_read : (cs : List ℕ) (rows : List Relations) (room : ℕ) (now : Table) (a b p q : ℕ) (row : Relations) (x : Rel) → IsKept cs rows → table_of cs rows room ≡ now
    → row ≡ get_or rows p row → x ≡ get_or row.items q Equal → Reads a b p q x now.copies (rel_of now)
rel_read cs rows room now a b p q row x kept view read made =
    at_table cs rows room now (Reads a b p q x) view (λ ina inb here there.
    let within : p < length rows = omega (arith, here, kept.tall, place_within cs a ina) in
    let row_is : row ≡ row_in rows (place_of a cs) = get_or_read rows p row within read _ ∙ ap (λ k. row_in rows k) here in
    let value : x ≡ rel_in cs rows a b = made ∙ ap (λ k. get_or row.items k Equal) there ∙ ap (λ r. get_or r.items (place_of b cs) Equal) row_is in
    (value, kept.mirrored a b ina inb ∙ ap reverse_of (sym value), λ same. value ∙ ap (λ c. rel_in cs rows a c) (sym same) ∙ kept.itself a ina))

-- what is said of the row that was read
abbrev HasRow : ℕ → ℕ → List Rel → List ℕ → (ℕ → ℕ → Rel) → Type 0
HasRow a p rels copies rel =
    Contains copies a → p ≡ place_of a copies → ((other : ℕ) → rel_at copies rels other ≡ rel a other) × (length rels ≡ length copies)

pub row_read : (cs : List ℕ) (rows : List Relations) (room : ℕ) (now : Table) (a p : ℕ) (row : Relations) (rels : List Rel) → IsKept cs rows → table_of cs rows room ≡ now
    → row ≡ get_or rows p row → rels ≡ row.items → HasRow a p rels now.copies (rel_of now)
row_read cs rows room now a p row rels kept view read made =
    at_table cs rows room now (HasRow a p rels) view (λ ina here.
    let place : place_of a cs < length rows = omega (arith, kept.tall, place_within cs a ina) in
    let row_is : row ≡ row_in rows (place_of a cs) = get_or_read rows p row (omega (arith, here, place)) read _ ∙ ap (λ k. row_in rows k) here in
    let items : rels ≡ (row_in rows (place_of a cs)).items = made ∙ ap (λ r. r.items) row_is in
    ((λ other. ap (λ r. get_or r (place_of other cs) Equal) items), ap length items ∙ kept.wide (place_of a cs) place ∙ kept.tall))

-- the counts of a row are those of its copy
counts_read : (cs : List ℕ) (rows : List Relations) (copy : ℕ) (counts : Counts) → IsKept cs rows → Contains cs copy → AreCounted (row_in rows (place_of copy cs)).items counts
    → counts ≡ counts_of own_number (rel_in cs rows) cs copy
counts_read cs rows copy counts kept here own =
    let items = (row_in rows (place_of copy cs)).items in
    let equal : counts.equal ≡ count_by (relates own_number (rel_in cs rows) Equal copy) cs = omega (arith, own Equal, counted_equal cs rows copy kept here) in
    let above : counts.above ≡ count_by (relates own_number (rel_in cs rows) Newer copy) cs = omega (arith, own Older, counted_others cs rows copy Newer kept here refl) in
    let below : counts.below ≡ count_by (relates own_number (rel_in cs rows) Older copy) cs = omega (arith, own Newer, counted_others cs rows copy Older kept here refl) in
    let conflict : counts.conflict ≡ count_by (relates own_number (rel_in cs rows) Conflict copy) cs = omega (arith, own Conflict, counted_others cs rows copy Conflict kept here refl) in
    rw (← above, ← below, ← equal, ← conflict) refl

-- the counts of all rows are those of all copies
pub all_counts_read : (cs : List ℕ) (rows slice : List Relations) (room : ℕ) (now : Table) (counts : List Counts) → IsKept cs rows → table_of cs rows room ≡ now → slice ≡ rows
    → AreAllCounted slice counts → counts ≡ map (counts_of own_number (rel_of now) now.copies) now.copies
all_counts_read cs rows slice room now counts kept view same all' =
    let all = subst (λ r. AreAllCounted r counts) same all' in
    let none : Counts = record { above = 0; below = 0; equal = 0; conflict = 0 } in
    at_table cs rows room now (λ copies rel. counts ≡ map (counts_of own_number rel copies) copies) view
    (ext_get_or none counts (map (counts_of own_number (rel_in cs rows) cs) cs) (all.long ∙ kept.tall ∙ sym (length-map cs (counts_of own_number (rel_in cs rows) cs))) (λ j less.
    let within : j < length cs = omega (arith, less, all.long, kept.tall) in
    let copy = get_or cs j 0 in
    let own = subst (λ k. AreCounted (row_in rows k).items (counts_in counts j)) (sym (place_at cs j kept.rising within)) (all.each j (omega (arith, within, kept.tall))) in
    counts_read cs rows copy (counts_in counts j) kept (copy_at cs j within) own ∙ sym (get_or-map (counts_of own_number (rel_in cs rows) cs) cs j 0 none within)))

-- each copy is Equal to itself in its row
pub rows_self_equal : (cs : List ℕ) (rows slice : List Relations) → IsKept cs rows → slice ≡ rows → AreSelfEqual slice
rows_self_equal cs rows slice kept same =
    subst AreSelfEqual (sym same) (λ i less.
    let within : i < length cs = omega (arith, less, kept.tall) in
    let at = place_at cs i kept.rising within in
    subst (λ k. get_or (row_in rows k).items k Equal ≡ Equal) at (kept.itself (get_or cs i 0) (copy_at cs i within)))

-- the test of the rows is the one of the pairs
pub split_read : (cs : List ℕ) (rows slice : List Relations) (room : ℕ) (now : Table) (test : Bool) → IsKept cs rows → table_of cs rows room ≡ now → slice ≡ rows
    → (test ≡ true) ↔ IsTorn slice → test ≡ is_split own_number (rel_of now) now.copies
split_read cs rows slice room now test kept view same says =
    at_table cs rows room now (λ copies rel. test ≡ is_split own_number rel copies) view (split_is cs rows test kept (subst (λ r. (test ≡ true) ↔ IsTorn r) same says))

-- one copy more was looked at
pub newest_more : (p : ℕ → Bool) (xs done : List ℕ) (i : ℕ) → i < length xs → p (get_or xs i 0) ≡ true → done ≡ filter p (take i xs)
    → done ++ get_or xs i 0 ∷ [] ≡ filter p (take (i + 1) xs)
newest_more p xs done i h test same =
    ap (λ l. l ++ get_or xs i 0 ∷ []) same ∙ sym (filter_more p xs i 0 h ∙ ap (λ t. filter p (take i xs) ++ (if t then get_or xs i 0 ∷ [] else [])) test)

pub newest_same : (p : ℕ → Bool) (xs done : List ℕ) (i : ℕ) → i < length xs → p (get_or xs i 0) ≡ false → done ≡ filter p (take i xs)
    → done ≡ filter p (take (i + 1) xs)
newest_same p xs done i h test same =
    same ∙ sym (append-nil (filter p (take i xs))) ∙ sym (filter_more p xs i 0 h ∙ ap (λ t. filter p (take i xs) ++ (if t then get_or xs i 0 ∷ [] else [])) test)
