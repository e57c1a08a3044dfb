-- The members of two sets together are those of either.
use Rattle.pana_family.proofs.Words.{◌≡◌, ℕ, not, ◌||◌, List, [], ◌∷◌, filter, refl, arith, nat_tests, has, union}
use Rattle.std.proofs.lemmas.List.Folds.{list_any-append}

abbrev pub missing : List ℕ → List ℕ → List ℕ
missing a b = filter (λ update. not (has a update)) b

in_either : (a b : List ℕ) (n : ℕ) → (has a n || has (missing a b) n) ≡ (has a n || has b n)
in_either a [] n = refl
in_either a (x ∷ b) n = grind (arith, nat_tests, in_either a b n)

pub union_members : (a b : List ℕ) (n : ℕ) → has (union a b) n ≡ (has a n || has b n)
union_members a b n = grind (arith, nat_tests, list_any-append, in_either)
