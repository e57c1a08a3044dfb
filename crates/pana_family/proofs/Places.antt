-- Rows by their places, and rising rows after a change.
use Rattle.pana_family.proofs.Words.{◌≡◌, ◌≢◌, ℕ, ◌≤◌, ◌<◌, ◌+◌, Bool, true, false, ◌||◌, ◌==◌, cond, not, List, [], ◌∷◌, ◌++◌, length, Option, Some, None, position, insert, list_any, refl, sym, ap}
use Rattle.pana_family.proofs.Words.{subst, ◌∙◌, inl, inr, arith, get_or, zero, suc, ne_eqb, nat_tests, depth, StampRow, In, is_copy, IsRising, dropped, put_back, row_at, row_in, deepest, nat_le}
use Rattle.pana_family.proofs.Words.{remove, position_or_len, leb-false}
use Rattle.pana_family.proofs.Members.{above_low}

pub in_at : (rows : List StampRow) (i : ℕ) (d : StampRow) → i < length rows → In (get_or rows i d) rows
in_at (r ∷ rows) (suc i) d within = inr (in_at rows i d (omega arith))
in_at rows i d within = grind (arith, nat_tests)

pub in_read : (rows : List StampRow) (i : ℕ) (r : StampRow) → i < length rows → r ≡ get_or rows i r → In r rows
in_read rows i r within e = subst (λ (q : StampRow). In q rows) (sym e) (in_at rows i r within)

-- no row has the number
pub dropped_none : (c : ℕ) (rows : List StampRow) → ((q : StampRow) → In q rows → q.copy ≢ c) → dropped c rows ≡ rows
dropped_none c [] other = refl
dropped_none c (r ∷ rows) other = grind (arith, nat_tests, other r (inl refl), dropped_none c rows (λ q i. other q (inr i)))

pub remove_is : (low c i : ℕ) (d : StampRow) (rows : List StampRow) → IsRising low rows → i < length rows → (get_or rows i d).copy ≡ c → remove rows i ≡ dropped c rows
remove_is low c i d [] up within at = absurd (omega arith)
remove_is low c zero d (r ∷ rows) up within at = grind (arith, nat_tests, dropped_none c rows (λ q i e. omega (arith, above_low (r.copy + 1) rows q up.1 i, at, e)))
remove_is low c (suc i) d (r ∷ rows) up within at =
    let later : r.copy + 1 ≤ c = omega (arith, at, above_low (r.copy + 1) rows (get_or rows i d) up.1 (in_at rows i d (omega arith))) in
    grind (arith, nat_tests, remove_is (r.copy + 1) c i d rows up.1 (omega arith) at)

pub rising_lower : (low m : ℕ) (rows : List StampRow) → m ≤ low → IsRising low rows → IsRising m rows
rising_lower low m [] less up = tt
rising_lower low m (r ∷ rows) less up = (omega (arith, up.0), up.1)

pub rising_dropped : (low c : ℕ) (rows : List StampRow) → IsRising low rows → IsRising low (dropped c rows)
rising_dropped low c [] up = tt
rising_dropped low c (r ∷ rows) up = grind (arith, nat_tests, rising_dropped (r.copy + 1) c rows up.1, rising_lower)

pub rising_pushed : (low : ℕ) (y : StampRow) (rows : List StampRow) → IsRising low rows → low ≤ y.copy → ((r : StampRow) → In r rows → r.copy < y.copy) → IsRising low (rows ++ y ∷ [])
rising_pushed low y [] up least less = (least, tt)
rising_pushed low y (r ∷ rows) up least less =
    (up.0, rising_pushed (r.copy + 1) y rows up.1 (omega (arith, less r (inl refl))) (λ q i. less q (inr i)))

pub put_back_later : (x r : StampRow) (rows : List StampRow) → r.copy < x.copy → put_back x (r ∷ rows) ≡ r ∷ put_back x rows
put_back_later x r rows less = grind (arith, nat_tests)

-- where a row is or would be
abbrev pub index_from : ℕ → List StampRow → ℕ
index_from copy rows = position_or_len (λ row. nat_le copy row.copy) rows

pub put_back_insert : (x d : StampRow) (rows : List StampRow) → (index_from x.copy rows < length rows → (get_or rows (index_from x.copy rows) d).copy ≢ x.copy)
    → insert rows (index_from x.copy rows) x ≡ put_back x rows
put_back_insert x d [] other = refl
put_back_insert x d (r ∷ rows) other =
    let next : 1 + index_from x.copy rows ≡ suc (index_from x.copy rows) = omega arith in
    elim (nat_le x.copy r.copy) as (λ b. nat_le x.copy r.copy ≡ b
    → (cond (not b) (1 + index_from x.copy rows) 0 < suc (length rows) → (get_or (r ∷ rows) (cond (not b) (1 + index_from x.copy rows) 0) d).copy ≢ x.copy)
    → insert (r ∷ rows) (cond (not b) (1 + index_from x.copy rows) 0) x ≡ put_back x (r ∷ rows)) [
      | true ↦ grind (arith, nat_tests)
      | false ↦ λ w. rw next (λ o. ap (λ (l : List StampRow). r ∷ l) (put_back_insert x d rows (λ h. o (omega arith))) ∙ sym (put_back_later x r rows (leb-false x.copy r.copy w)))
    ] refl other

pub place_from_within : (copy : ℕ) (rows : List StampRow) → index_from copy rows ≤ length rows
place_from_within copy [] = omega arith
place_from_within copy (r ∷ rows) = grind (arith, nat_tests, place_from_within copy rows)

-- the first that passes the test
abbrev pub first_in : (StampRow → Bool) → List StampRow → ℕ
first_in test rows = position_or_len test rows

pub first_within : (test : StampRow → Bool) (rows : List StampRow) → list_any test rows ≡ true → first_in test rows < length rows
first_within test [] here = absurd (cc)
first_within test (r ∷ rows) here =
    elim (test r) as (λ b. (b || list_any test rows) ≡ true → cond (not b) (1 + first_in test rows) 0 < suc (length rows)) [
      | true ↦ λ h. omega arith
      | false ↦ λ h. grind (arith, nat_tests, first_within test rows h)
    ] here

pub first_found : (test : StampRow → Bool) (rows : List StampRow) → list_any test rows ≡ true → position test rows ≡ Some (first_in test rows)
first_found test rows here = grind (arith, nat_tests, first_within)

pub first_holds : (test : StampRow → Bool) (rows : List StampRow) (d : StampRow) → list_any test rows ≡ true → test (get_or rows (first_in test rows) d) ≡ true
first_holds test [] d here = absurd (cc)
first_holds test (r ∷ rows) d here =
    let next : 1 + first_in test rows ≡ suc (first_in test rows) = omega arith in
    elim (test r) as (λ b. test r ≡ b → (b || list_any test rows) ≡ true → test (get_or (r ∷ rows) (cond (not b) (1 + first_in test rows) 0) d) ≡ true) [
      | true ↦ λ w h. w
      | false ↦ λ w h. rw next (first_holds test rows d h)
    ] refl here

at_end : (test : StampRow → Bool) (rows : List StampRow) → list_any test rows ≡ false → length rows ≤ first_in test rows
at_end test [] none = omega arith
at_end test (r ∷ rows) none =
    elim (test r) as (λ b. (b || list_any test rows) ≡ false → suc (length rows) ≤ cond (not b) (1 + first_in test rows) 0) [
      | true ↦ λ h. absurd (cc)
      | false ↦ λ h. grind (arith, nat_tests, at_end test rows h)
    ] none

pub is_found : (copy at : ℕ) (rows : List StampRow) → position (λ row. row.copy == copy) rows ≡ Some at → (at < length rows) × ((d : StampRow) → (get_or rows at d).copy ≡ copy)
is_found copy at rows some = grind (arith, nat_tests, first_found, first_within, first_holds, at_end)

pub from_some : (copy at : ℕ) (rows : List StampRow) → position (λ row. nat_le copy row.copy) rows ≡ Some at → at ≡ index_from copy rows
from_some copy at rows some = grind (arith, nat_tests)

pub from_none : (copy : ℕ) (rows : List StampRow) → position (λ row. nat_le copy row.copy) rows ≡ None → length rows ≡ index_from copy rows
from_none copy rows none = grind (arith, nat_tests, place_from_within)

-- Depths.

pub deepest_in : (rows : List StampRow) (r : StampRow) → In r rows → depth r.stamp.id ≤ deepest rows
deepest_in [] r i = absurd i
deepest_in (q ∷ rows) r i = elim i [ inl e ↦ omega (arith, ap (λ (w : StampRow). depth w.stamp.id) e) | inr j ↦ omega (arith, deepest_in rows r j) ]

pub deepest_by : (m : ℕ) (rows : List StampRow) → ((r : StampRow) → In r rows → depth r.stamp.id ≤ m) → deepest rows ≤ m
deepest_by m [] all = omega arith
deepest_by m (r ∷ rows) all = omega (arith, all r (inl refl), deepest_by m rows (λ q i. all q (inr i)))

pub free_from : (o : Option ℕ) → is_copy o ≡ true → o ≡ None
free_from o e = grind (arith, nat_tests)

-- the row of a number
pub row_in_at : (low : ℕ) (r : StampRow) (rows : List StampRow) → IsRising low rows → In r rows → row_at rows r.copy ≡ Some r
row_in_at low r [] up i = absurd i
row_in_at low r (q ∷ rows) up i = elim i [
  | inl e ↦ grind (arith, nat_tests)
  | inr j ↦ ap (λ (b : Bool). cond b (Some q) (row_at rows r.copy)) (ne_eqb q.copy r.copy (λ e. omega (arith, above_low (q.copy + 1) rows r up.1 j, e))) ∙ row_in_at (q.copy + 1) r rows up.1 j
]

pub row_found : (r : StampRow) (rows : List StampRow) → IsRising 0 rows → In r rows → row_in rows r.copy ≡ r
row_found r rows up i = grind (arith, nat_tests, row_in_at)
