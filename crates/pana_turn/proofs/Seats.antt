-- Sums over seats, and one seat's view changed.
use Rattle.std.specs.Prelude.{◌≡◌, ℕ, zero, suc, ◌+◌, ◌≤◌, ◌<◌, ◌⊎◌, List, [], ◌∷◌, ◌++◌, length, set, sum_by}
use Rattle.std.proofs.Common.{refl, sym, ap, inl, inr, arith}
use Rattle.std.proofs.lemmas.List.Sums.{sum_by-append, sum_by-cons}
use mathlib.Core.Option.{some, some-injective, some-ne-none}
use lib.ListN.{get_elem?}

module _ {V : Type 0} (f : V → ℕ) where
  pub sum_by-put : (vs : List V) (i : ℕ) (v w : V) → get_elem? vs i ≡ some v → sum_by f (set vs i w) + f v ≡ sum_by f vs + f w
  sum_by-put [] i v w at = absurd (some-ne-none v (sym at))
  sum_by-put (u ∷ vs) zero v w at =
      let same : f u ≡ f v = ap f (some-injective u v at) in
      omega (arith, sum_by-cons f w vs, sum_by-cons f u vs, same)
  sum_by-put (u ∷ vs) (suc i) v w at =
      omega (arith, sum_by-cons f u (set vs i w), sum_by-cons f u vs, sum_by-put vs i v w at)

  pub sum_by-push : (vs : List V) (w : V) → sum_by f (vs ++ w ∷ []) ≡ sum_by f vs + f w
  sum_by-push vs w = omega (arith, sum_by-append f vs (w ∷ []), sum_by-cons f w [])

module _ {V : Type 0} (f g : V → ℕ) where
  -- where each counts no more, all count no more
  pub sum_by-below : (vs : List V) → ((i : ℕ) (v : V) → get_elem? vs i ≡ some v → f v ≤ g v) → sum_by f vs ≤ sum_by g vs
  sum_by-below [] each = omega arith
  sum_by-below (u ∷ vs) each =
      let first : f u ≤ g u = each zero u refl in
      let rest : sum_by f vs ≤ sum_by g vs = sum_by-below vs (λ i v at. each (suc i) v at) in
      omega (arith, sum_by-cons f u vs, sum_by-cons g u vs)

module _ {V : Type 0} where
  -- a seat that is there has the view that was put
  pub at_put : (vs : List V) (i : ℕ) (v w : V) → get_elem? vs i ≡ some v → get_elem? (set vs i w) i ≡ some w
  at_put [] i v w at = absurd (some-ne-none v (sym at))
  at_put (u ∷ vs) zero v w at = refl
  at_put (u ∷ vs) (suc i) v w at = at_put vs i v w at

  -- what stands in the list with one more stood in it, or is that one
  pub at_pushed : (vs : List V) (w u : V) (j : ℕ) → get_elem? (vs ++ w ∷ []) j ≡ some u → ((get_elem? vs j ≡ some u) × (j < length vs)) ⊎ ((j ≡ length vs) × (w ≡ u))
  at_pushed [] w u zero at = inr (refl, some-injective w u at)
  at_pushed [] w u (suc j) at = absurd (some-ne-none u (sym at))
  at_pushed (v ∷ vs) w u zero at = inl (at, omega arith)
  at_pushed (v ∷ vs) w u (suc j) at = elim (at_pushed vs w u j at) [ inl t ↦ inl (t.0, omega (arith, t.1)) | inr t ↦ inr (ap suc t.0, t.1) ]

  -- where each counts nothing, all count nothing
  pub sum_by-zero : (vs : List V) → sum_by (λ _. 0) vs ≡ 0
  sum_by-zero [] = refl
  sum_by-zero (u ∷ vs) = omega (arith, sum_by-cons (λ (v : V). 0) u vs, sum_by-zero vs)
