-- Rows that are put back.
use Rattle.pana_family.proofs.Words.{fold, ◌≡◌, ◌≢◌, ℕ, ◌≤◌, ◌+◌, true, false, ◌==◌, nat_lt, cond, List, [], ◌∷◌, length, refl, sym, ◌∙◌, inl, inr, arith, eqb-false, nat_tests, StampRow, In, is_copy}
use Rattle.pana_family.proofs.Words.{IsRising, put_back, copy_rows, count_by, ltb-true, ltb-false}
use Rattle.pana_family.proofs.Members.{above_low}

-- rising rows are one list where they have the same members
pub same_rows : (low : ℕ) (xs ys : List StampRow) → IsRising low xs → IsRising low ys → ((r : StampRow) → In r xs → In r ys) → ((r : StampRow) → In r ys → In r xs) → xs ≡ ys
same_rows low [] [] up down to from = refl
same_rows low [] (y ∷ ys) up down to from = absurd (from y (inl refl))
same_rows low (x ∷ xs) [] up down to from = absurd (to x (inl refl))
same_rows low (x ∷ xs) (y ∷ ys) up down to from =
    let head : x ≡ y = elim (to x (inl refl)) [
      | inl e ↦ e
      | inr i ↦ elim (from y (inl refl)) [
        | inl e ↦ sym e
        | inr j ↦ absurd (omega (arith, above_low (y.copy + 1) ys x down.1 i, above_low (x.copy + 1) xs y up.1 j))
      ]
    ] in
    let tail : xs ≡ ys = same_rows (x.copy + 1) xs ys up.1 (grind (arith, nat_tests))
    (λ r i. grind (arith, nat_tests, above_low))
    (λ r i. grind (arith, nat_tests, above_low)) in
    grind (arith, nat_tests)

pub rising_put : (low : ℕ) (x : StampRow) (rows : List StampRow) → IsRising low rows → low ≤ x.copy → IsRising low (put_back x rows)
rising_put low x [] up least = (least, tt)
rising_put low x (r ∷ rows) up least =
    elim (r.copy == x.copy) as (λ b. (r.copy == x.copy) ≡ b → IsRising low (cond b (x ∷ rows) (cond (nat_lt x.copy r.copy) (x ∷ (r ∷ rows)) (r ∷ put_back x rows)))) [
      | true ↦ λ w. grind (arith, nat_tests)
      | false ↦ λ w. elim (nat_lt x.copy r.copy) as (λ b. nat_lt x.copy r.copy ≡ b → IsRising low (cond b (x ∷ (r ∷ rows)) (r ∷ put_back x rows))) [
        | true ↦ λ v. (least, (omega (arith, ltb-true x.copy r.copy v), up.1))
        | false ↦ λ v. let ne : r.copy ≢ x.copy = eqb-false r.copy x.copy w in (up.0, rising_put (r.copy + 1) x rows up.1 (omega (arith, ltb-false x.copy r.copy v, ne)))
      ] refl
    ] refl

-- How many are copies.

count_from : (s : ℕ) (rows : List StampRow) → fold (λ a r. a + cond (is_copy r.holder) 1 0) s rows ≡ s + length (copy_rows rows)
count_from s [] = omega arith
count_from s (r ∷ rows) = grind (arith, nat_tests, count_from (s + cond (is_copy r.holder) 1 0) rows)

pub count_is : (rows : List StampRow) → count_by (λ r. is_copy r.holder) rows ≡ length (copy_rows rows)
count_is rows = count_from 0 rows ∙ omega arith
