-- The relation of two sets, by their members.
use Rattle.pana_family.proofs.Words.{◌≡◌, ℕ, Bool, true, false, ◌&&◌, ◌||◌, ◌==◌, List, [], ◌∷◌, refl, arith, nat_tests, has, is_within, IsSubset, RelatesSets}

and_right : (a b : Bool) → (a && b) ≡ true → b ≡ true
and_right a b e = grind (arith, nat_tests)

-- a set within another is a subset of it
pub within_subset : (a b : List ℕ) → is_within a b ≡ true → IsSubset a b
within_subset [] b within update member = absurd (cc)
within_subset (x ∷ a) b within update member =
    elim (x == update) as (λ t. (x == update) ≡ t → (t || has a update) ≡ true → has b update ≡ true) [
      | true ↦ λ e m. grind (arith, nat_tests)
      | false ↦ λ e m. within_subset a b (and_right (has b x) (is_within a b) within) update m
    ] refl member

or_right : (a b : Bool) → b ≡ true → (a || b) ≡ true
or_right a b e = grind (arith, nat_tests)

-- and the other way round
pub subset_within : (a b : List ℕ) → IsSubset a b → is_within a b ≡ true
subset_within [] b subset = refl
subset_within (x ∷ a) b subset = grind (arith, nat_tests, subset_within a b (λ update member. grind (arith, nat_tests)))

pub relates : (a b : List ℕ) → RelatesSets a b
relates a b = grind (arith, nat_tests, within_subset, subset_within)
