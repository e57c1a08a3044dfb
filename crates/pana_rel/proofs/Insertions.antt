-- What a table is once a copy was put in.
use Rattle.std.proofs.Common.{◌≡◌, ℕ, zero, suc, ◌+◌, ◌<◌, ◌≤◌, List, [], ◌∷◌, length, get_or, refl, ap, ap₂, sym, subst, ◌∙◌, inl, inr, arith, Result, Ok, Err}
use Rattle.std.specs.Prelude.{if◌then◌else◌, Contains, OnErr, is_ok}
use Rattle.std.specs.List.{insert}
use Rattle.std.proofs.lemmas.List.{ext_get_or, get_or_past, get_or_read, length-map}
use Rattle.std.proofs.lemmas.List.Edits.{length-insert, get_or-insert_at}
use Rattle.pana_event.specs.declared.rel.Rel.{Rel}
use Rattle.pana_event.specs.declared.rel.Rel.TheVariants.{Equal}
use Rattle.pana_event.specs.Relation.{reverse_of}
use Rattle.pana_rel.specs.Pairs.{Table, place_of, rel_at, rel_of, with_copy, with_row}
use Rattle.pana_rel.specs.inner.Square.{Relations, items_of, rel_in, row_in, table_of, up, AreInserted, IsGap, IsKept, IsWide}
use Rattle.pana_rel.proofs.Changes.{holds_row}
use Rattle.pana_rel.proofs.Orders.{contains_insert, rising_insert, with_copy_is}
use Rattle.pana_rel.proofs.Places.{place_past, place_within, up_insert}
use Rattle.pana_rel.proofs.Tables.{HoldsIn, at_table, kept_from, rels_are, row_item, with_row_mirrored, with_row_itself, holds_inserted}

-- what each place has, each place has once one more is there that has it
pub all_insert : {X : Type 0} (P : X → Type 0) (xs : List X) (at : ℕ) (y d : X) → at ≤ length xs → ((i : ℕ) → i < length xs → P (get_or xs i d)) → P y
    → (i : ℕ) → i < length (insert xs at y) → P (get_or (insert xs at y) i d)
all_insert P xs zero y d fits all here zero h = here
all_insert P xs zero y d fits all here (suc i) h = all i (omega (arith, h))
all_insert P [] (suc at) y d fits all here i h = absurd (omega (arith, fits))
all_insert P (x ∷ xs) (suc at) y d fits all here zero h = all zero (omega arith)
all_insert P (x ∷ xs) (suc at) y d fits all here (suc i) h = all_insert P xs at y d (omega (arith, fits)) (λ k l. all (suc k) (omega (arith, l))) here i (omega (arith, h))

-- the columns were opened, and then the row was put in
pub inserted_rows : (rows slice new : List Relations) (at : ℕ) (row : Relations) (given : List Rel) → length given ≡ length rows → at ≤ length rows → IsWide rows → length slice ≡ length rows
    → ((i : ℕ) → i < length rows → (row_in slice i).items ≡ insert (row_in rows i).items at (reverse_of (get_or given i Equal)))
    → row.items ≡ insert given at Equal → new ≡ insert slice at row → AreInserted rows new at given
inserted_rows rows slice new at row given long within wide tall others own same =
    let none : Relations = record { items = []; room = 0 } in
    let fits : at ≤ length slice = omega (arith, within, tall) in
    let more : length new ≡ length rows + 1 = ap length same ∙ length-insert slice at row fits ∙ ap (λ n. n + 1) tall in
    let P : Relations → Type 0 = λ r. length r.items ≡ length rows + 1 in
    let each : (i : ℕ) → i < length slice → P (row_in slice i) = λ i h.
    let inside : i < length rows = omega (arith, h, tall) in
    ap length (others i inside) ∙ length-insert (row_in rows i).items at (reverse_of (get_or given i Equal)) (omega (arith, wide i inside, within)) ∙ ap (λ n. n + 1) (wide i inside) in
    let first : P row = ap length own ∙ length-insert given at Equal (omega (arith, long, within)) ∙ ap (λ n. n + 1) long in
    record {
      tall = more;
      wide = λ i h. ap (λ r. length (row_in r i).items) same ∙ all_insert P slice at row none fits each first i (subst (λ r. i < length r) same h) ∙ sym more;
      own = ap (λ r. (row_in r at).items) same ∙ ap (λ r. r.items) (get_or-insert_at slice at row none fits) ∙ own;
      others = λ i h. ap (λ r. (row_in r (up at i)).items) same ∙ ap (λ r. r.items) (up_insert slice at i row none fits) ∙ others i h;
    }

-- what a copy put in leaves
pub record IsPutIn (cs' : List ℕ) (final : List Relations) (n : ℕ) (row : ℕ → Rel) (copies : List ℕ) (rel : ℕ → ℕ → Rel) : Type 0 where
  pub kept : IsKept cs' final
  pub copies_are : cs' ≡ with_copy n copies
  pub holds : HoldsIn cs' final (with_row n row rel)

abbrev pub Inserts : List ℕ → List Relations → ℕ → ℕ → List Rel → List ℕ → (ℕ → ℕ → Rel) → Type 0
Inserts cs' final n at given copies rel = IsGap copies n at → ¬ Contains copies n → length given ≡ length copies → IsPutIn cs' final n (rel_at copies given) copies rel

pub inserted_call : (cs cs' : List ℕ) (rows final : List Relations) (room : ℕ) (now : Table) (n at : ℕ) (given : List Rel) → IsKept cs rows → table_of cs rows room ≡ now
    → cs' ≡ insert cs at n → AreInserted rows final at given → Inserts cs' final n at given now.copies (rel_of now)
inserted_call cs cs' rows final room now n at given kept view put m =
    at_table cs rows room now (Inserts cs' final n at given) view (λ gap gone long.
    let rel = rel_in cs rows in
    let row = rel_at cs given in
    let holds = holds_inserted cs rows final n at given kept.tall kept.wide long gap.within gone m in
    let itself : row n ≡ Equal = get_or_past given (place_of n cs) Equal (omega (arith, long, place_past cs n gone)) in
    let old : (a : ℕ) → Contains (insert cs at n) a → ¬ (a ≡ n) → Contains cs a = λ a here apart. (elim (contains_insert cs at n a gap.within here) [
      | inl same ↦ absurd (apart (sym same))
      | inr there ↦ there
    ]) in
    let all : length final ≡ length (insert cs at n) = omega (arith, m.tall, kept.tall, length-insert cs at n gap.within) in
    let kept' = kept_from (insert cs at n) final (with_row n row rel) (rising_insert cs n at kept.rising gap) all m.wide holds
    (λ a b ina inb. with_row_mirrored n row rel cs itself kept.mirrored a b (old a ina) (old b inb))
    (λ a ina. with_row_itself n row rel cs itself kept.itself a (old a ina)) in
    record {
      kept = subst (λ c. IsKept c final) (sym put) kept';
      copies_are = put ∙ sym (with_copy_is cs n at gap);
      holds = subst (λ c. HoldsIn c final (with_row n row rel)) (sym put) holds;
    })

-- what a copy put in like another leaves
abbrev pub Likes : List ℕ → List Relations → ℕ → ℕ → ℕ → ℕ → List ℕ → (ℕ → ℕ → Rel) → Type 0
Likes cs' final source n at p copies rel =
    IsGap copies n at → ¬ Contains copies n → Contains copies source → p ≡ place_of source copies → IsPutIn cs' final n (rel source) copies rel

pub liked_call : (cs cs' : List ℕ) (rows final : List Relations) (room : ℕ) (now : Table) (source n at p : ℕ) (row : Relations) (given : List Rel) → IsKept cs rows → table_of cs rows room ≡ now
    → row ≡ get_or rows p row → given ≡ row.items → cs' ≡ insert cs at n → AreInserted rows final at given → Likes cs' final source n at p now.copies (rel_of now)
liked_call cs cs' rows final room now source n at p row given kept view read same put m =
    at_table cs rows room now (Likes cs' final source n at p) view (λ gap gone here place.
    let within : p < length rows = omega (arith, place, kept.tall, place_within cs source here) in
    let row_is : given ≡ (row_in rows (place_of source cs)).items = same ∙ ap (λ r. r.items) (get_or_read rows p row within read _ ∙ ap (λ k. row_in rows k) place) in
    let long : length given ≡ length cs = ap length row_is ∙ kept.wide (place_of source cs) (omega (arith, within, place)) ∙ kept.tall in
    let done = inserted_call cs cs' rows final room (table_of cs rows room) n at given kept refl put m in
    let like = subst (λ f. IsPutIn cs' final n (rel_at cs given) cs f) (rels_are cs rows room) (done gap gone long) in
    record {
      kept = like.kept;
      copies_are = like.copies_are;
      holds = holds_row cs' final n (rel_at cs given) (rel_in cs rows source) (rel_in cs rows) like.holds (λ b there. ap (λ r. get_or r (place_of b cs) Equal) row_is);
    })

-- what a call that succeeded left
pub ok_left : {T E X : Type 0} (r : Result T E) (u : T) (new a b : X) → r ≡ Ok u → new ≡ (if is_ok r then a else b) → new ≡ a
ok_left r u new a b good left = left ∙ ap (λ q. if is_ok q then a else b) good

-- a fact holds after an error too
pub on_err : {T E : Type 0} (r : Result T E) (P : Type 0) → P → OnErr r P
on_err (Ok x) P p = tt
on_err (Err e) P p = p

-- rows that got room are kept, and have the same relations
pub record IsReserved (cs cs' : List ℕ) (rows final : List Relations) : Type 0 where
  pub kept : IsKept cs' final
  pub copies : cs' ≡ cs
  pub items : items_of final ≡ items_of rows

pub reserved_call : (cs cs' : List ℕ) (rows slice new : List Relations) → IsKept cs rows → cs' ≡ cs → slice ≡ rows
    → length new ≡ length slice → ((i : ℕ) → (row_in new i).items ≡ (row_in slice i).items) → IsReserved cs cs' rows new
reserved_call cs cs' rows slice new kept same_copies same tall items =
    let long : length new ≡ length rows = tall ∙ ap length same in
    let alike : (i : ℕ) → (row_in new i).items ≡ (row_in rows i).items = λ i. items i ∙ ap (λ r. (row_in r i).items) same in
    let holds : HoldsIn cs new (rel_in cs rows) = λ a b here there. ap (λ r. get_or r (place_of b cs) Equal) (alike (place_of a cs)) in
    let wide : IsWide new = λ i h. ap length (alike i) ∙ kept.wide i (omega (arith, h, long)) ∙ sym long in
    record {
      kept = subst (λ c. IsKept c new) (sym same_copies) (kept_from cs new (rel_in cs rows) kept.rising (long ∙ kept.tall) wide holds kept.mirrored kept.itself);
      copies = same_copies;
      items = ext_get_or [] (items_of new) (items_of rows) (length-map new (λ r. r.items) ∙ long ∙ sym (length-map rows (λ r. r.items))) (λ i h.
          row_item new i ∙ alike i ∙ sym (row_item rows i));
    }

-- a table of one copy
pub single_call : (cs : List ℕ) (rows : List Relations) (first : ℕ) (row : Relations) → cs ≡ first ∷ [] → rows ≡ row ∷ [] → row.items ≡ Equal ∷ [] → IsKept cs rows
single_call cs rows first row one rows_are own =
    subst (λ c. IsKept c rows) (sym one) (subst (λ r. IsKept (first ∷ []) r) (sym rows_are) single)
  where
    single : IsKept (first ∷ []) (row ∷ [])
    single =
        let cs = first ∷ [] in
        let rows = row ∷ [] in
        let place : (a : ℕ) → Contains cs a → place_of a cs ≡ 0 = λ a here. (let within = place_within cs a here in omega (arith, within)) in
        let equal : (a b : ℕ) → Contains cs a → Contains cs b → rel_in cs rows a b ≡ Equal = λ a b here there.
        ap₂ (λ i j. get_or (row_in rows i).items j Equal) (place a here) (place b there) ∙ ap (λ r. get_or r 0 Equal) own in
        record {
          rising = λ i j less h. absurd (omega (arith, less, h));
          tall = refl;
          wide = λ i h. (let zero_is : i ≡ 0 = omega (arith, h) in ap (λ k. length (row_in rows k).items) zero_is ∙ ap length own);
          mirrored = λ a b here there. equal b a there here ∙ ap reverse_of (sym (equal a b here there));
          itself = λ a here. equal a a here here;
        }
