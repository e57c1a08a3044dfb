-- The sum of two ids that own points of their own has more than one point, and so it can be divided.
use Rattle.std.specs.Prelude.{◌≡◌, ℕ, ◌≤◌, ◌-◌, Bool, true, false, ◌&&◌, ◌||◌, nat_lt, max, List, [], ◌∷◌, length}
use Rattle.std.proofs.Common.{refl, sym, ap, subst, ◌∙◌, inl, inr, arith}
use Rattle.std.proofs.lemmas.Bool.{and_parts, cases_Bool, eqb-true, ltb-true, both_ways, false_from_ne_true, or_left, or_right}
use Rattle.pana_id.specs.Id.{Id, zero_id, one_id, pair, has, is_zero, is_single, depth, parts, sum_of, are_disjoint, IsNormal, IsSum, SharesNoPoint, IsValid}
use Rattle.pana_id.proofs.Points.{zero_from_points, disjoint_from_apart, apart_from_disjoint}
use Rattle.pana_id.proofs.Parts.{depth-parts}
use Rattle.pana_id.proofs.Sums.{has-sum, depth-sum, summed-sum}

-- of the points of n choices the id owns at most one
pub record IsPoint (i : Id) (n : ℕ) : Type 0 where
  pub point : List Bool
  pub long : length point ≡ n
  pub only : (q : List Bool) → length q ≡ n → has i q ≡ true → q ≡ point

on_left : (i : Id) (n : ℕ) → nat_lt 0 n ≡ true → IsPoint i (n - 1) → IsPoint (pair i zero_id) n
on_left i n some p = record {
  point = false ∷ p.point;
  long = omega (arith, p.long, ltb-true 0 n some);
  only = only;
}
  where
    only : (q : List Bool) → length q ≡ n → has (pair i zero_id) q ≡ true → q ≡ false ∷ p.point
    only [] long owned = absurd (cc)
    only (false ∷ q) long owned = ap (λ (l : List Bool). false ∷ l) (p.only q (omega (arith, long)) owned)
    only (true ∷ q) long owned = absurd (cc)

on_right : (i : Id) (n : ℕ) → nat_lt 0 n ≡ true → IsPoint i (n - 1) → IsPoint (pair zero_id i) n
on_right i n some p = record {
  point = true ∷ p.point;
  long = omega (arith, p.long, ltb-true 0 n some);
  only = only;
}
  where
    only : (q : List Bool) → length q ≡ n → has (pair zero_id i) q ≡ true → q ≡ true ∷ p.point
    only [] long owned = absurd (cc)
    only (true ∷ q) long owned = ap (λ (l : List Bool). true ∷ l) (p.only q (omega (arith, long)) owned)
    only (false ∷ q) long owned = absurd (cc)

empty_point : (q : List Bool) → length q ≡ 0 → q ≡ []
empty_point [] long = refl
empty_point (b ∷ q) long = absurd (omega (arith, long))

-- a single 1 owns one point of as many choices as it is deep
single_point : (i : Id) (n : ℕ) → is_single i n ≡ true → IsPoint i n
single_point zero_id n s = absurd (cc)
single_point one_id n s = record {
  point = [];
  long = sym (eqb-true n 0 s);
  only = λ q long owned. empty_point q (long ∙ eqb-true n 0 s);
}
single_point (pair zero_id i) n s = let p = and_parts (nat_lt 0 n) (is_single i (n - 1)) s in on_right i n p.0 (single_point i (n - 1) p.1)
single_point (pair one_id zero_id) n s = let p = and_parts (nat_lt 0 n) (is_single one_id (n - 1)) s in on_left one_id n p.0 (single_point one_id (n - 1) p.1)
single_point (pair (pair a b) zero_id) n s = let p = and_parts (nat_lt 0 n) (is_single (pair a b) (n - 1)) s in on_left (pair a b) n p.0 (single_point (pair a b) (n - 1) p.1)
single_point (pair one_id one_id) n s = absurd (cc)
single_point (pair one_id (pair c d)) n s = absurd (cc)
single_point (pair (pair a b) one_id) n s = absurd (cc)
single_point (pair (pair a b) (pair c d)) n s = absurd (cc)

not_owned : (a b : Bool) → (a && b) ≡ false → a ≡ true → b ≡ false
not_owned true b e h = e
not_owned false b e h = absurd (cc)

-- an id that owns some point, all within an id of one point, owns that one
pointless : (n : ℕ) (m i : Id) → IsNormal i → depth i ≤ n → is_zero i ≡ false → ((q : List Bool) → length q ≡ n → has i q ≡ true → has m q ≡ true)
    → (p : IsPoint m n) → has i p.point ≡ false → ⊥
pointless n m i normal within some inside p none =
    both_ways (is_zero i) some
    (ap is_zero (zero_from_points i n normal within
    (λ point long. false_from_ne_true (has i point) (λ owned. both_ways (has i point) (subst (λ (l : List Bool). has i l ≡ false) (sym (p.only point long (inside point long owned))) none) owned))))

-- what owns what either of two ids does, which own points of their own, isn't a single 1 at their depth or below
not_single : (n : ℕ) (m i j : Id) → ((q : List Bool) → length q ≡ n → has m q ≡ (has i q || has j q))
    → ((q : List Bool) → length q ≡ n → (has i q && has j q) ≡ false)
    → IsNormal i → IsNormal j → depth i ≤ n → depth j ≤ n → is_zero i ≡ false → is_zero j ≡ false → is_single m n ≡ false
not_single n m i j sum apart normal normal' within within' some some' =
    false_from_ne_true (is_single m n) (λ s.
    let p : IsPoint m n = single_point m n s in
    elim (cases_Bool (has i p.point)) [
      | inl owned ↦ pointless n m j normal' within' some' (λ q long o. sum q long ∙ or_right (has i q) (has j q) o) p
          (not_owned (has i p.point) (has j p.point) (apart p.point p.long) owned)
      | inr none ↦ pointless n m i normal within some (λ q long o. sum q long ∙ or_left (has i q) (has j q) o) p none
    ])

-- the sum of two ids that own points of their own can be divided
pub sum_divides : (m i j : Id) → IsSum m i j → SharesNoPoint i j → IsValid i → IsValid j → is_zero i ≡ false → is_zero j ≡ false → is_single m 256 ≡ false
sum_divides m i j summed apart valid valid' some some' =
    not_single 256 m i j summed.owned apart valid.normal valid'.normal valid.within valid'.within some some'

-- the same of their sum as a tree
pub sum_of_divides : (i j : Id) → SharesNoPoint i j → IsValid i → IsValid j → is_zero i ≡ false → is_zero j ≡ false → is_single (sum_of i j) 256 ≡ false
sum_of_divides i j apart valid valid' some some' =
    sum_divides (sum_of i j) i j (summed-sum i j valid valid') apart valid valid' some some'

-- and its parts are no deeper than the deeper of the two
pub parts_of_sum : (i j : Id) → SharesNoPoint i j → IsValid i → IsValid j → is_zero i ≡ false → is_zero j ≡ false
    → (depth (parts (sum_of i j)).0 ≤ max (depth i) (depth j)) × (depth (parts (sum_of i j)).1 ≤ max (depth i) (depth j))
parts_of_sum i j apart valid valid' some some' =
    let n = max (depth i) (depth j) in
    let disjoint : are_disjoint i j ≡ true = disjoint_from_apart i j 256 valid.normal valid'.normal valid.within valid'.within apart in
    depth-parts (sum_of i j) n (depth-sum i j)
    (not_single n (sum_of i j) i j (λ q long. has-sum i j q (omega (arith, long)) (omega (arith, long))) (λ q long. apart_from_disjoint i j q disjoint) valid.normal valid'.normal (omega arith) (omega arith) some some')
