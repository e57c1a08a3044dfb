-- Sums over shares, and one of them changed.
use Rattle.std.specs.Prelude.{◌≡◌, ℕ, zero, suc, ◌+◌, ◌≤◌, List, [], ◌∷◌, ◌++◌, set, sum_by}
use Rattle.std.proofs.Common.{refl, sym, ap, arith}
use Rattle.std.proofs.lemmas.List.Sums.{sum_by-append, sum_by-cons}
use mathlib.Core.Option.{some, some-injective, some-ne-none}
use lib.ListN.{get_elem?}

module _ {V : Type 0} (f : V → ℕ) where
  pub sum_by-put : (vs : List V) (i : ℕ) (v w : V) → get_elem? vs i ≡ some v → sum_by f (set vs i w) + f v ≡ sum_by f vs + f w
  sum_by-put [] i v w at = absurd (some-ne-none v (sym at))
  sum_by-put (u ∷ vs) zero v w at =
      let same : f u ≡ f v = ap f (some-injective u v at) in
      omega (arith, sum_by-cons f w vs, sum_by-cons f u vs, same)
  sum_by-put (u ∷ vs) (suc i) v w at =
      omega (arith, sum_by-cons f u (set vs i w), sum_by-cons f u vs, sum_by-put vs i v w at)

  pub sum_by-push : (vs : List V) (w : V) → sum_by f (vs ++ w ∷ []) ≡ sum_by f vs + f w
  sum_by-push vs w = omega (arith, sum_by-append f vs (w ∷ []), sum_by-cons f w [])

  -- one counts no more than all
  pub sum_by-at : (vs : List V) (i : ℕ) (v : V) → get_elem? vs i ≡ some v → f v ≤ sum_by f vs
  sum_by-at [] i v at = absurd (some-ne-none v (sym at))
  sum_by-at (u ∷ vs) zero v at =
      let same : f u ≡ f v = ap f (some-injective u v at) in
      omega (arith, sum_by-cons f u vs, same)
  sum_by-at (u ∷ vs) (suc i) v at = omega (arith, sum_by-cons f u vs, sum_by-at vs i v at)

module _ {V : Type 0} (f g : V → ℕ) where
  -- where each counts no more, all count no more
  pub sum_by-below : (vs : List V) → ((i : ℕ) (v : V) → get_elem? vs i ≡ some v → f v ≤ g v) → sum_by f vs ≤ sum_by g vs
  sum_by-below [] each = omega arith
  sum_by-below (u ∷ vs) each =
      let first : f u ≤ g u = each zero u refl in
      let rest : sum_by f vs ≤ sum_by g vs = sum_by-below vs (λ i v at. each (suc i) v at) in
      omega (arith, sum_by-cons f u vs, sum_by-cons g u vs)

  -- where all count nothing by the one, and each that counts nothing by it counts nothing by the other, all count nothing
  pub sum_by-none : (vs : List V) → sum_by f vs ≡ 0 → ((i : ℕ) (v : V) → get_elem? vs i ≡ some v → f v ≡ 0 → g v ≡ 0) → sum_by g vs ≡ 0
  sum_by-none [] none each = refl
  sum_by-none (u ∷ vs) none each =
      let first : g u ≡ 0 = each zero u refl (omega (arith, sum_by-cons f u vs, none)) in
      let rest : sum_by g vs ≡ 0 = sum_by-none vs (omega (arith, sum_by-cons f u vs, none)) (λ i v at. each (suc i) v at) in
      omega (arith, sum_by-cons g u vs, first, rest)
