-- What a search among the copies says.
use Rattle.std.proofs.Common.{◌≡◌, ◌↔◌, ℕ, ◌==◌, true, List, Result, Ok, Err, refl, ap, inl, inr, arith}
use Rattle.std.specs.Prelude.{Contains, is_ok}
use Rattle.std.specs.List.{list_any}
use Rattle.std.specs.Ordering.{nat_cmp}
use Rattle.std.specs.Result.{IsErr}
use Rattle.std.specs.List.Sorted.{IsBinarySearchResult}
use Rattle.std.proofs.lemmas.Bool.{both_ways, cases_Bool, eq-eqb}
use Rattle.std.proofs.lemmas.Bool.Decides.{nat_tests}
use Rattle.pana_rel.specs.inner.Square.{IsRising}
use Rattle.pana_rel.proofs.Boards.{any_at, found}
use Rattle.pana_rel.proofs.Orders.{finds_at, misses_at, is_missed}

-- a search finds just what is there
pub search_tells : (slice items copies : List ℕ) (a : ℕ) (r : Result ℕ ℕ) → slice ≡ items → items ≡ copies → IsRising items
    → IsBinarySearchResult (λ y. nat_cmp y a) slice r → (is_ok r ≡ true) ↔ Contains copies a
search_tells slice items copies a r e f rising by = (to, λ here. ap is_ok (finds_at slice items copies a r e f rising by here))
  where
    none : (s : Result ℕ ℕ) → IsErr s → is_ok s ≡ true → ⊥
    none (Ok i) failed is = absurd (cc)
    none (Err i) failed is = absurd (cc)

    to : is_ok r ≡ true → Contains copies a
    to is = elim (cases_Bool (list_any (λ m. m == a) copies)) [
      | inl some ↦ (let f = found (λ m. m == a) copies some in grind (arith, nat_tests))
      | inr gone ↦ absurd (none r (is_missed copies a r (misses_at slice items copies a r e f rising by (λ here. both_ways _ gone (any_at (λ m. m == a) copies a here (eq-eqb a a refl))))) is)
    ]
