-- Holdings whose paths were all put into a set, and none was there.
use Rattle.std.specs.Prelude.{◌≡◌, ◌≢◌, ℕ, Bool, true, false, List, [], ◌∷◌, map}
use Rattle.std.specs.List.{AllByRecursion, IsDistinct}
use Rattle.std.specs.Str.{bytes_eq}
use Rattle.std.specs.Cmp.Lexicographic.{nat_list_eq_equiv}
use Rattle.std.proofs.Common.{Bor, sym, ◌∙◌, subst}
use Rattle.std.proofs.lemmas.Bool.{true≢false}
use Rattle.pana_calls.specs.declared.holding.Holding.{Holding}
use Rattle.pana_calls.specs.Holdings.{HaveOwnPaths}

-- a path that is lent
abbrev pub Key : Type 0
Key = Bor (List ℕ)

abbrev pub same : Key → Key → Bool
same one other = bytes_eq one.now other.now

-- no two of the paths are one
abbrev AreOwn : List (List ℕ) → Type 0
AreOwn [] = Unit {0}
AreOwn (path ∷ paths) = AllByRecursion (λ other. path ≢ other) paths × AreOwn paths

differ : (one other : List ℕ) → bytes_eq one other ≡ false → one ≢ other
differ one other not_same is = true≢false (sym (subst (λ path. bytes_eq one path ≡ true) is (nat_list_eq_equiv.refl one)) ∙ not_same)

others_differ : (key : Key) (keys : List Key) → AllByRecursion (λ other. same key other ≡ false) keys → AllByRecursion (λ other. key.now ≢ other) (map (λ k. k.now) keys)
others_differ key [] all = tt
others_differ key (other ∷ keys) all = (differ key.now other.now all.0, others_differ key keys all.1)

keys_own : (keys : List Key) → IsDistinct same keys → AreOwn (map (λ key. key.now) keys)
unfolding IsDistinct
keys_own [] distinct = tt
keys_own (key ∷ keys) distinct = (others_differ key keys distinct.0, keys_own keys distinct.1)

first_own : (path : List ℕ) (holdings : List Holding) → AllByRecursion (λ other. path ≢ other) (map (λ holding. holding.path) holdings) → AllByRecursion (λ other. path ≢ other.path) holdings
first_own path [] all = tt
first_own path (holding ∷ holdings) all = (all.0, first_own path holdings all.1)

paths_own : (holdings : List Holding) → AreOwn (map (λ holding. holding.path) holdings) → HaveOwnPaths holdings
paths_own [] own = tt
paths_own (holding ∷ holdings) own = (first_own holding.path holdings own.0, paths_own holdings own.1)

-- the set has the paths of the holdings, and no two keys are the same
pub own_paths : (keys : List Key) (holdings : List Holding) → map (λ key. key.now) keys ≡ map (λ holding. holding.path) holdings → IsDistinct same keys → HaveOwnPaths holdings
own_paths keys holdings is distinct = paths_own holdings (subst AreOwn is (keys_own keys distinct))
