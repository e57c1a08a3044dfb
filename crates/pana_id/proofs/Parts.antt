-- What the two parts of an id are.
use Rattle.std.proofs.Common.{◌≡◌, ℕ, ◌+◌, ◌-◌, ◌<◌, ◌≤◌, Bool, true, false, not, ◌&&◌, ◌||◌, nat_lt, List, [], ◌∷◌, length, refl, sym, ap, subst, ◌∙◌, arith}
use Rattle.std.proofs.Math.Bool.{and-false, or-false}
use Rattle.std.proofs.lemmas.Bool.{eqb-false, eqb-true, lt-ltb, ltb-true}
use Rattle.pana_id.specs.Id.{Id, zero_id, one_id, pair, has, depth, is_zero, IsOpen, IsNormal, IsValid, norm, parts, is_single, are_disjoint, sum_of, IsParted}
use Rattle.pana_id.proofs.Pairs.{both_true, norm-open}

-- the id owns what one of its parts owns
pub has-parts : (i : Id) (point : List Bool) → depth (parts i).0 ≤ length point → depth (parts i).1 ≤ length point
    → has i point ≡ (has (parts i).0 point || has (parts i).1 point)
has-parts zero_id point f s = refl
has-parts one_id [] f s = absurd (omega arith)
has-parts one_id (false ∷ point) f s = refl
has-parts one_id (true ∷ point) f s = refl
has-parts (pair zero_id i) [] f s = absurd (omega arith)
has-parts (pair zero_id i) (false ∷ point) f s = refl
has-parts (pair zero_id i) (true ∷ point) f s = has-parts i point (omega arith) (omega arith)
has-parts (pair i zero_id) [] f s = absurd (omega arith)
has-parts (pair i zero_id) (false ∷ point) f s = has-parts i point (omega arith) (omega arith)
has-parts (pair i zero_id) (true ∷ point) f s = refl
has-parts (pair l r) [] f s = absurd (omega arith)
has-parts (pair l r) (false ∷ point) f s = sym (or-false (has l point))
has-parts (pair l r) (true ∷ point) f s = refl

-- no point goes to both parts
pub apart-parts : (i : Id) (point : List Bool) → (has (parts i).0 point && has (parts i).1 point) ≡ false
apart-parts zero_id point = refl
apart-parts one_id [] = refl
apart-parts one_id (false ∷ point) = refl
apart-parts one_id (true ∷ point) = refl
apart-parts (pair zero_id i) [] = refl
apart-parts (pair zero_id i) (false ∷ point) = refl
apart-parts (pair zero_id i) (true ∷ point) = apart-parts i point
apart-parts (pair i zero_id) [] = refl
apart-parts (pair i zero_id) (false ∷ point) = apart-parts i point
apart-parts (pair i zero_id) (true ∷ point) = refl
apart-parts (pair l r) [] = refl
apart-parts (pair l r) (false ∷ point) = and-false (has l point)
apart-parts (pair l r) (true ∷ point) = refl

-- the parts pass the test of having no point in common
pub disjoint-parts : (i : Id) → are_disjoint (parts i).0 (parts i).1 ≡ true
disjoint-parts zero_id = refl
disjoint-parts one_id = refl
disjoint-parts (pair zero_id i) = disjoint-parts i
disjoint-parts (pair i zero_id) = ap (λ t. t && true) (disjoint-parts i)
disjoint-parts (pair l r) = refl

-- below the top of a single 1 there is a single 1, one level down
single_below : (n : ℕ) (b : Bool) → 0 < n → (nat_lt 0 n && b) ≡ false → b ≡ false
single_below n b deep test =
    let room : nat_lt 0 n ≡ true = lt-ltb 0 n deep in
    let P : Bool → Type 0 = λ t. (t && b) ≡ false in
    subst P room test

-- the parts stay within a limit at which the id has no single 1
pub depth-parts : (i : Id) (n : ℕ) → depth i ≤ n → is_single i n ≡ false → (depth (parts i).0 ≤ n) × (depth (parts i).1 ≤ n)
depth-parts zero_id n within test = (omega arith, omega arith)
depth-parts one_id n within test =
    let deep : n ≡ 0 → ⊥ = eqb-false n 0 test in (omega arith, omega arith)
depth-parts (pair zero_id i) n within test =
    let below = depth-parts i (n - 1) (omega arith) (single_below n _ (omega arith) test) in (omega arith, omega arith)
depth-parts (pair i zero_id) n within test =
    let below = depth-parts i (n - 1) (omega arith) (single_below n _ (omega arith) test) in (omega arith, omega arith)
depth-parts (pair l r) n within test = (omega arith, omega arith)

-- the parts are at most one deeper
pub depth-parts-le : (i : Id) → (depth (parts i).0 ≤ depth i + 1) × (depth (parts i).1 ≤ depth i + 1)
depth-parts-le zero_id = (omega arith, omega arith)
depth-parts-le one_id = (omega arith, omega arith)
depth-parts-le (pair zero_id i) = let below = depth-parts-le i in (omega arith, omega arith)
depth-parts-le (pair i zero_id) = let below = depth-parts-le i in (omega arith, omega arith)
depth-parts-le (pair l r) = (omega arith, omega arith)

-- a single 1 stands as deep as the id is
pub depth-single : (i : Id) (n : ℕ) → is_single i n ≡ true → depth i ≡ n
depth-single zero_id n test = absurd (cc)
depth-single one_id n test = sym (eqb-true n 0 test)
depth-single (pair zero_id i) n test =
    let both = both_true (nat_lt 0 n) (is_single i (n - 1)) test in
    let room : 0 < n = ltb-true 0 n both.0 in
    let below : depth i ≡ n - 1 = depth-single i (n - 1) both.1 in omega arith
depth-single (pair i zero_id) n test =
    let both = both_true (nat_lt 0 n) (is_single i (n - 1)) test in
    let room : 0 < n = ltb-true 0 n both.0 in
    let below : depth i ≡ n - 1 = depth-single i (n - 1) both.1 in omega arith
depth-single (pair l r) n test = absurd (cc)

-- no part of an id that isn't 0 is 0
pub is_zero-parts : (i : Id) → is_zero i ≡ false → (is_zero (parts i).0 ≡ false) × (is_zero (parts i).1 ≡ false)
is_zero-parts zero_id h = absurd (cc)
is_zero-parts one_id h = (refl, refl)
is_zero-parts (pair zero_id i) h = (refl, refl)
is_zero-parts (pair i zero_id) h = (refl, refl)
is_zero-parts (pair l r) h = (refl, refl)

open_after_zero : (i : Id) → IsOpen zero_id i → IsOpen zero_id (parts i).0 × IsOpen zero_id (parts i).1
open_after_zero zero_id h = absurd h
open_after_zero one_id h = (tt, tt)
open_after_zero (pair zero_id i) h = (tt, tt)
open_after_zero (pair i zero_id) h = (tt, tt)
open_after_zero (pair l r) h = (tt, tt)

open_before_zero : (i : Id) → IsOpen i zero_id → IsOpen (parts i).0 zero_id × IsOpen (parts i).1 zero_id
open_before_zero zero_id h = absurd h
open_before_zero one_id h = (tt, tt)
open_before_zero (pair zero_id i) h = (tt, tt)
open_before_zero (pair i zero_id) h = (tt, tt)
open_before_zero (pair l r) h = (tt, tt)

pub normal-parts : (i : Id) → IsNormal i → IsNormal (parts i).0 × IsNormal (parts i).1
normal-parts zero_id n = (tt, tt)
normal-parts one_id n = ((tt, tt, tt), (tt, tt, tt))
normal-parts (pair zero_id i) n =
    let below = normal-parts i n.1 in
    let opened = open_after_zero i n.2 in
    ((tt, below.0, opened.0), (tt, below.1, opened.1))
normal-parts (pair i zero_id) n =
    let below = normal-parts i n.0 in
    let opened = open_before_zero i n.2 in
    ((below.0, tt, opened.0), (below.1, tt, opened.1))
normal-parts (pair l r) n = ((n.0, tt, tt), (tt, n.1, tt))

-- the parts add up to the id
pub sum-parts : (i : Id) → IsNormal i → sum_of (parts i).0 (parts i).1 ≡ i
sum-parts zero_id n = refl
sum-parts one_id n = refl
sum-parts (pair zero_id i) n = ap (λ t. norm zero_id t) (sum-parts i n.1) ∙ norm-open zero_id i n.2
sum-parts (pair i zero_id) n = ap (λ t. norm t zero_id) (sum-parts i n.0) ∙ norm-open i zero_id n.2
sum-parts (pair l r) n = norm-open l r n.2

-- the parts of a valid id are valid, but for a single 1 at depth 256
pub valid-parts : (i : Id) → is_single i 256 ≡ false → IsValid i → IsValid (parts i).0 × IsValid (parts i).1
valid-parts i test v =
    let below = depth-parts i 256 v.within test in
    let kept = normal-parts i v.normal in
    (record { normal = kept.0; within = below.0 }, record { normal = kept.1; within = below.1 })

-- the parts divide the id
pub parted-parts : (i : Id) → is_single i 256 ≡ false → IsValid i → IsParted i (parts i).0 (parts i).1
parted-parts i test v =
    let below = depth-parts i 256 v.within test in
    record {
      owned = λ point e. has-parts i point (omega (arith, below.0, e)) (omega (arith, below.1, e));
      once = λ point e. apart-parts i point;
      first_owns = λ h. (is_zero-parts i h).0;
      second_owns = λ h. (is_zero-parts i h).1;
    }

-- the same of two trees that are the parts of a tree, whose value was tested
as_parts : (i value a b : Id) (P : Id × Id → Type 0) → i ≡ value → ◌≡◌ {A = Id × Id} (a, b) (parts i) → true ≡ not (is_single value 256)
    → (is_single i 256 ≡ false → P (parts i)) → P (a, b)
as_parts i value a b P same two test made =
    let single : is_single value 256 ≡ false = grind arith in
    let tested : is_single i 256 ≡ false = ap (λ t. is_single t 256) same ∙ single in
    subst P (sym two) (made tested)

pub valid_as_parts : (i value a b : Id) → i ≡ value → ◌≡◌ {A = Id × Id} (a, b) (parts i) → true ≡ not (is_single value 256) → IsValid i
    → IsValid a × IsValid b
valid_as_parts i value a b same two test v =
    as_parts i value a b (λ pair_of. IsValid pair_of.0 × IsValid pair_of.1) same two test (λ tested. valid-parts i tested v)

pub parted_as_parts : (i value a b : Id) → i ≡ value → ◌≡◌ {A = Id × Id} (a, b) (parts i) → true ≡ not (is_single value 256) → IsValid i
    → IsParted value a b
parted_as_parts i value a b same two test v =
    as_parts i value a b (λ pair_of. IsParted value pair_of.0 pair_of.1) same two test
    (λ tested. let P : Id → Type 0 = λ whole. IsParted whole (parts i).0 (parts i).1 in subst P same (parted-parts i tested v))
