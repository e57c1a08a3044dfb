-- What a table holds after each change.
use Rattle.std.proofs.Common.{◌≡◌, ℕ, zero, suc, ◌+◌, ◌<◌, ◌≤◌, List, [], ◌∷◌, length, get_or, refl, ap, ap₂, sym, subst, ◌∙◌, inl, inr, arith}
use std.Path.{fun_ext}
use Rattle.std.specs.Prelude.{slice_index_or, slice_set, Contains}
use Rattle.std.specs.List.{insert, remove}
use Rattle.std.proofs.lemmas.Bool.{cases_eq, eq-eqb, ne_eqb}
use Rattle.std.proofs.lemmas.List.{get_or-set_same, get_or-set_other, get_or_past}
use Rattle.std.proofs.lemmas.List.Edits.{length-remove, get_or-insert_at}
use Rattle.pana_event.specs.declared.rel.Rel.{Rel}
use Rattle.pana_event.specs.declared.rel.Rel.TheVariants.{Equal, Older, Newer, Conflict}
use Rattle.pana_event.specs.Relation.{reverse_of}
use Rattle.pana_rel.specs.Pairs.{Table, Holds, place_of, rel_at, rel_of, with_row}
use Rattle.pana_rel.specs.inner.Square.{Relations, items_of, rel_in, row_in, table_of, up, AreInserted, IsKept, IsRising, IsWide}
use Rattle.pana_rel.proofs.Orders.{contains_insert, contains_remove}
use Rattle.pana_rel.proofs.Places.{place_insert_other, place_insert_same, place_past, place_remove, place_within, same_place, up_insert, up_remove}

-- the rows hold these relations of the copies
abbrev pub HoldsIn : List ℕ → List Relations → (ℕ → ℕ → Rel) → Type 0
HoldsIn cs rows rel = (a b : ℕ) → Contains cs a → Contains cs b → rel_in cs rows a b ≡ rel a b

pub row_item : (rows : List Relations) (i : ℕ) → get_or (items_of rows) i [] ≡ (row_in rows i).items
row_item [] i = refl
row_item (r ∷ rows) zero = refl
row_item (r ∷ rows) (suc i) = row_item rows i

-- the relations of a table are those of its rows
pub rels_are : (cs : List ℕ) (rows : List Relations) (room : ℕ) → rel_of (table_of cs rows room) ≡ rel_in cs rows
unfolding rel_of
rels_are cs rows room = fun_ext (λ a. fun_ext (λ b. ap (λ r. get_or r (place_of b cs) Equal) (row_item rows (place_of a cs))))

-- tables of the same copies and relations have the same relations, whatever room there is
pub same_rels : (cs cs' : List ℕ) (rows final : List Relations) (room room' : ℕ) (now : Table) → table_of cs rows room ≡ now → cs' ≡ cs → items_of final ≡ items_of rows
    → (a b : ℕ) → rel_of (table_of cs' final room') a b ≡ rel_of now a b
unfolding rel_of
same_rels cs cs' rows final room room' now view copies items a b =
    ap₂ (λ c r. rel_at c (slice_index_or r (place_of a c) []) b) copies items ∙ ap (λ t. rel_at t.copies (slice_index_or t.rels (place_of a t.copies) []) b) view

-- what is said of copies and rows is said of their table
pub at_table : (cs : List ℕ) (rows : List Relations) (room : ℕ) (now : Table) (P : List ℕ → (ℕ → ℕ → Rel) → Type 0) → table_of cs rows room ≡ now → P cs (rel_in cs rows) → P now.copies (rel_of now)
at_table cs rows room now P view holds = subst (λ t. P t.copies (rel_of t)) view (subst (P cs) (sym (rels_are cs rows room)) holds)

pub holds_table : (cs : List ℕ) (rows : List Relations) (room : ℕ) (rel : ℕ → ℕ → Rel) → HoldsIn cs rows rel → Holds (table_of cs rows room) rel
holds_table cs rows room rel holds = subst (λ f. (a b : ℕ) → Contains cs a → Contains cs b → f a b ≡ rel a b) (sym (rels_are cs rows room)) holds

pub with_row_own : (c : ℕ) (row : ℕ → Rel) (rel : ℕ → ℕ → Rel) (a b : ℕ) → a ≡ c → with_row c row rel a b ≡ row b
with_row_own c row rel a b same = rw (eq-eqb a c same) refl

pub with_row_to : (c : ℕ) (row : ℕ → Rel) (rel : ℕ → ℕ → Rel) (a b : ℕ) → ¬ (a ≡ c) → b ≡ c → with_row c row rel a b ≡ reverse_of (row a)
with_row_to c row rel a b other same = rw (ne_eqb a c other, eq-eqb b c same) refl

pub with_row_else : (c : ℕ) (row : ℕ → Rel) (rel : ℕ → ℕ → Rel) (a b : ℕ) → ¬ (a ≡ c) → ¬ (b ≡ c) → with_row c row rel a b ≡ rel a b
with_row_else c row rel a b other apart = rw (ne_eqb a c other, ne_eqb b c apart) refl

pub reverse_twice : (rel : Rel) → reverse_of (reverse_of rel) ≡ rel
reverse_twice Equal = refl
reverse_twice Older = refl
reverse_twice Newer = refl
reverse_twice Conflict = refl

-- a copy's row is the given one, and each other row has its reverse in the copy's place
pub record AreMirrored (rows new : List Relations) (at : ℕ) (given : List Rel) : Type 0 where
  pub tall : length new ≡ length rows
  pub own : (row_in new at).items ≡ given
  pub others : (i : ℕ) → i < length rows → ¬ (i ≡ at) → (row_in new i).items ≡ slice_set (row_in rows i).items at (reverse_of (get_or given i Equal))

pub holds_mirrored : (cs : List ℕ) (rows new : List Relations) (copy : ℕ) (given : List Rel) → length rows ≡ length cs → IsWide rows → Contains cs copy
    → AreMirrored rows new (place_of copy cs) given → HoldsIn cs new (with_row copy (rel_at cs given) (rel_in cs rows))
holds_mirrored cs rows new copy given tall wide here m a b ina inb =
    let row = rel_at cs given in
    let old = rel_in cs rows in
    let at = place_of copy cs in
    let within : place_of a cs < length rows = omega (arith, tall, place_within cs a ina) in
    elim (cases_eq a copy) [
      | inl same ↦
          ap (λ c. get_or (row_in new (place_of c cs)).items (place_of b cs) Equal) same ∙ ap (λ r. get_or r (place_of b cs) Equal) m.own
          ∙ sym (with_row_own copy row old a b same)
      | inr other ↦
          let apart : ¬ (place_of a cs ≡ at) = λ p. other (same_place cs a copy ina here p) in
          let set_is = ap (λ r. get_or r (place_of b cs) Equal) (m.others (place_of a cs) within apart) in
          elim (cases_eq b copy) [
            | inl one ↦
                let long : at < length (row_in rows (place_of a cs)).items = omega (arith, wide (place_of a cs) within, tall, place_within cs copy here) in
                set_is ∙ ap (λ c. get_or (slice_set (row_in rows (place_of a cs)).items at (reverse_of (row a))) (place_of c cs) Equal) one
                ∙ get_or-set_same (row_in rows (place_of a cs)).items at (reverse_of (row a)) Equal long ∙ sym (with_row_to copy row old a b other one)
            | inr two ↦
                set_is ∙ get_or-set_other (row_in rows (place_of a cs)).items at (place_of b cs) (reverse_of (row a)) Equal (λ p. two (same_place cs b copy inb here p))
                ∙ sym (with_row_else copy row old a b other two)
          ]
    ]

-- where a copy stands once one more is put in
pub data Spot (cs : List ℕ) (n at a : ℕ) : Type 0 where
  is_new : n ≡ a → place_of a (insert cs at n) ≡ at → Spot cs n at a
  is_old : Contains cs a → ¬ (a ≡ n) → place_of a (insert cs at n) ≡ up at (place_of a cs) → Spot cs n at a

pub spot : (cs : List ℕ) (n at a : ℕ) → at ≤ length cs → ¬ Contains cs n → Contains (insert cs at n) a → Spot cs n at a
spot cs n at a within gone here =
    let fresh : Contains cs a → ¬ (n ≡ a) = λ there same. gone (subst (λ c. Contains cs c) (sym same) there) in
    elim (contains_insert cs at n a within here) [
      | inl same ↦ is_new same (ap (λ c. place_of c (insert cs at n)) (sym same) ∙ place_insert_same cs at n gone within)
      | inr there ↦ is_old there (λ same. fresh there (sym same)) (place_insert_other cs at n a (fresh there) within)
    ]

pub holds_inserted : (cs : List ℕ) (rows new : List Relations) (n at : ℕ) (given : List Rel) → length rows ≡ length cs → IsWide rows → length given ≡ length cs → at ≤ length cs
    → ¬ Contains cs n → AreInserted rows new at given → HoldsIn (insert cs at n) new (with_row n (rel_at cs given) (rel_in cs rows))
holds_inserted cs rows new n at given tall wide long within gone m a b ina inb =
    let row = rel_at cs given in
    let rel = rel_in cs rows in
    let from : (p q : ℕ) → place_of a (insert cs at n) ≡ p → place_of b (insert cs at n) ≡ q → rel_in (insert cs at n) new a b ≡ get_or (row_in new p).items q Equal =
    λ p q here there. ap (λ i. get_or (row_in new i).items (place_of b (insert cs at n)) Equal) here ∙ ap (λ j. get_or (row_in new p).items j Equal) there in
    elim (spot cs n at a within gone ina) [
      | is_new same here ↦ elim (spot cs n at b within gone inb) [
        | is_new one there ↦
            from at at here there ∙ ap (λ r. get_or r at Equal) m.own ∙ get_or-insert_at given at Equal Equal (omega (arith, long, within))
            ∙ sym (get_or_past given (place_of b cs) Equal (omega (arith, long, place_past cs b (λ inb'. gone (subst (λ c. Contains cs c) (sym one) inb')))))
            ∙ sym (with_row_own n row rel a b (sym same))
        | is_old inb' two there ↦
            from at (up at (place_of b cs)) here there ∙ ap (λ r. get_or r (up at (place_of b cs)) Equal) m.own
            ∙ up_insert given at (place_of b cs) Equal Equal (omega (arith, long, within)) ∙ sym (with_row_own n row rel a b (sym same))
      ]
      | is_old ina' other here ↦
          let inside : place_of a cs < length rows = omega (arith, tall, place_within cs a ina') in
          let room : at ≤ length (row_in rows (place_of a cs)).items = omega (arith, wide (place_of a cs) inside, tall, within) in
          let others = m.others (place_of a cs) inside in
          elim (spot cs n at b within gone inb) [
            | is_new one there ↦
                from (up at (place_of a cs)) at here there ∙ ap (λ r. get_or r at Equal) others
                ∙ get_or-insert_at (row_in rows (place_of a cs)).items at (reverse_of (row a)) Equal room ∙ sym (with_row_to n row rel a b other (sym one))
            | is_old inb' two there ↦
                from (up at (place_of a cs)) (up at (place_of b cs)) here there ∙ ap (λ r. get_or r (up at (place_of b cs)) Equal) others
                ∙ up_insert (row_in rows (place_of a cs)).items at (place_of b cs) (reverse_of (row a)) Equal room
                ∙ sym (with_row_else n row rel a b other two)
          ]
    ]

-- a row is gone, and in each other row what stood at its place
pub record AreDropped (rows new : List Relations) (at : ℕ) : Type 0 where
  pub tall : length new + 1 ≡ length rows
  pub others : (i : ℕ) → i < length new → (row_in new i).items ≡ remove (row_in rows (up at i)).items at

pub holds_dropped : (cs : List ℕ) (rows new : List Relations) (at : ℕ) → IsRising cs → length rows ≡ length cs → at < length cs → AreDropped rows new at
    → HoldsIn (remove cs at) new (rel_in cs rows)
holds_dropped cs rows new at rising tall within m a b ina inb =
    let less : length new ≡ length (remove cs at) = omega (arith, m.tall, tall, length-remove cs at within) in
    let ina' = contains_remove cs at a rising within ina in
    let inb' = contains_remove cs at b rising within inb in
    let p = place_of a (remove cs at) in
    let q = place_of b (remove cs at) in
    ap (λ r. get_or r q Equal) (m.others p (omega (arith, less, place_within (remove cs at) a ina)))
    ∙ up_remove (row_in rows (up at p)).items at q Equal
    ∙ ap (λ i. get_or (row_in rows i).items (up at q) Equal) (sym (place_remove cs at a within ina'.1))
    ∙ ap (λ j. get_or (row_in rows (place_of a cs)).items j Equal) (sym (place_remove cs at b within inb'.1))

-- relations with a copy's replaced are each other's reverse, and a copy's to itself Equal, where they were
pub with_row_mirrored : (c : ℕ) (row : ℕ → Rel) (rel : ℕ → ℕ → Rel) (cs : List ℕ) → row c ≡ Equal → ((a b : ℕ) → Contains cs a → Contains cs b → rel b a ≡ reverse_of (rel a b))
    → (a b : ℕ) → (¬ (a ≡ c) → Contains cs a) → (¬ (b ≡ c) → Contains cs b) → with_row c row rel b a ≡ reverse_of (with_row c row rel a b)
with_row_mirrored c row rel cs own mirrored a b ina inb =
    elim (cases_eq a c) [
      | inl same ↦ elim (cases_eq b c) [
        | inl one ↦
            with_row_own c row rel b a one ∙ ap row same ∙ own ∙ ap reverse_of (sym own ∙ ap row (sym one) ∙ sym (with_row_own c row rel a b same))
        | inr two ↦ with_row_to c row rel b a two same ∙ ap reverse_of (sym (with_row_own c row rel a b same))
      ]
      | inr other ↦ elim (cases_eq b c) [
        | inl one ↦ with_row_own c row rel b a one ∙ sym (reverse_twice (row a)) ∙ ap reverse_of (sym (with_row_to c row rel a b other one))
        | inr two ↦ with_row_else c row rel b a two other ∙ mirrored a b (ina other) (inb two) ∙ ap reverse_of (sym (with_row_else c row rel a b other two))
      ]
    ]

pub with_row_itself : (c : ℕ) (row : ℕ → Rel) (rel : ℕ → ℕ → Rel) (cs : List ℕ) → row c ≡ Equal → ((a : ℕ) → Contains cs a → rel a a ≡ Equal)
    → (a : ℕ) → (¬ (a ≡ c) → Contains cs a) → with_row c row rel a a ≡ Equal
with_row_itself c row rel cs own itself a ina =
    elim (cases_eq a c) [
      | inl same ↦ with_row_own c row rel a a same ∙ ap row same ∙ own
      | inr other ↦ with_row_else c row rel a a other other ∙ itself a (ina other)
    ]

-- what holds relations that are mirrored is kept
pub kept_from : (cs : List ℕ) (rows : List Relations) (rel : ℕ → ℕ → Rel) → IsRising cs → length rows ≡ length cs → IsWide rows → HoldsIn cs rows rel
    → ((a b : ℕ) → Contains cs a → Contains cs b → rel b a ≡ reverse_of (rel a b)) → ((a : ℕ) → Contains cs a → rel a a ≡ Equal) → IsKept cs rows
kept_from cs rows rel rising tall wide holds mirrored itself =
    record {
      rising = rising;
      tall = tall;
      wide = wide;
      mirrored = λ a b ina inb. holds b a inb ina ∙ mirrored a b ina inb ∙ ap reverse_of (sym (holds a b ina inb));
      itself = λ a ina. holds a a ina ina ∙ itself a ina;
    }
