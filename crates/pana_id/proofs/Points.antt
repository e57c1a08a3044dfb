-- What the points of an id say of its tree.
use Rattle.std.proofs.Common.{◌≡◌, ℕ, zero, suc, ◌≤◌, Bool, true, false, ◌&&◌, List, [], ◌∷◌, length, replicate, IsTrue, ◌↔◌, refl, sym, ap₂, subst, subst₂, ◌∙◌, arith}
use Rattle.std.proofs.Math.Bool.{and-false, and-true}
use Rattle.std.proofs.lemmas.List.{length-replicate}
use Rattle.pana_id.specs.Id.{Id, zero_id, one_id, pair, has, depth, AtPoints, IsOpen, IsNormal, IsValid, are_disjoint, SharesNoPoint}
use Rattle.pana_id.proofs.Pairs.{both_true}

-- a normal id that owns no point is 0
pub zero_from_points : (i : Id) (n : ℕ) → IsNormal i → depth i ≤ n → ((point : List Bool) → length point ≡ n → has i point ≡ false) → i ≡ zero_id
zero_from_points zero_id n normal within none = refl
zero_from_points one_id n normal within none =
    let odd : true ≡ false = none (replicate n false) (length-replicate n false) in absurd (cc)
zero_from_points (pair l r) zero normal within none = absurd (omega arith)
zero_from_points (pair l r) (suc n) normal within none =
    let left : l ≡ zero_id = zero_from_points l n normal.0 (omega arith) (λ point e. none (false ∷ point) (omega (arith, e))) in
    let right : r ≡ zero_id = zero_from_points r n normal.1 (omega arith) (λ point e. none (true ∷ point) (omega (arith, e))) in
    absurd (subst₂ IsOpen left right normal.2)

-- a normal id that owns all points is 1
pub one_from_points : (i : Id) (n : ℕ) → IsNormal i → depth i ≤ n → ((point : List Bool) → length point ≡ n → has i point ≡ true) → i ≡ one_id
one_from_points zero_id n normal within all =
    let odd : false ≡ true = all (replicate n false) (length-replicate n false) in absurd (cc)
one_from_points one_id n normal within all = refl
one_from_points (pair l r) zero normal within all = absurd (omega arith)
one_from_points (pair l r) (suc n) normal within all =
    let left : l ≡ one_id = one_from_points l n normal.0 (omega arith) (λ point e. all (false ∷ point) (omega (arith, e))) in
    let right : r ≡ one_id = one_from_points r n normal.1 (omega arith) (λ point e. all (true ∷ point) (omega (arith, e))) in
    absurd (subst₂ IsOpen left right normal.2)

-- two normal ids that own the same points are the same tree
pub same_from_points : (i j : Id) (n : ℕ) → IsNormal i → IsNormal j → depth i ≤ n → depth j ≤ n
    → ((point : List Bool) → length point ≡ n → has i point ≡ has j point) → i ≡ j
same_from_points zero_id j n ni nj di dj same = sym (zero_from_points j n nj dj (λ point e. sym (same point e)))
same_from_points i zero_id n ni nj di dj same = zero_from_points i n ni di same
same_from_points one_id j n ni nj di dj same = sym (one_from_points j n nj dj (λ point e. sym (same point e)))
same_from_points i one_id n ni nj di dj same = one_from_points i n ni di same
same_from_points (pair a b) (pair c d) zero ni nj di dj same = absurd (omega arith)
same_from_points (pair a b) (pair c d) (suc n) ni nj di dj same =
    ap₂ pair
    (same_from_points a c n ni.0 nj.0 (omega arith) (omega arith) (λ point e. same (false ∷ point) (omega (arith, e))))
    (same_from_points b d n ni.1 nj.1 (omega arith) (omega arith) (λ point e. same (true ∷ point) (omega (arith, e))))

-- ids that pass the test have no point in common
pub apart_from_disjoint : (i j : Id) (point : List Bool) → are_disjoint i j ≡ true → (has i point && has j point) ≡ false
apart_from_disjoint zero_id j point test = refl
apart_from_disjoint i zero_id point test = and-false (has i point)
apart_from_disjoint (pair a b) (pair c d) [] test = refl
apart_from_disjoint (pair a b) (pair c d) (false ∷ point) test = apart_from_disjoint a c point (both_true _ _ test).0
apart_from_disjoint (pair a b) (pair c d) (true ∷ point) test = apart_from_disjoint b d point (both_true _ _ test).1
apart_from_disjoint i j point test = absurd (cc)

-- normal ids with no point in common pass the test
pub disjoint_from_apart : (i j : Id) (n : ℕ) → IsNormal i → IsNormal j → depth i ≤ n → depth j ≤ n
    → ((point : List Bool) → length point ≡ n → (has i point && has j point) ≡ false) → are_disjoint i j ≡ true
disjoint_from_apart zero_id j n ni nj di dj apart = refl
disjoint_from_apart i zero_id n ni nj di dj apart = refl
disjoint_from_apart (pair a b) (pair c d) zero ni nj di dj apart = absurd (omega arith)
disjoint_from_apart (pair a b) (pair c d) (suc n) ni nj di dj apart =
    ap₂ (λ s t. s && t)
    (disjoint_from_apart a c n ni.0 nj.0 (omega arith) (omega arith) (λ point e. apart (false ∷ point) (omega (arith, e))))
    (disjoint_from_apart b d n ni.1 nj.1 (omega arith) (omega arith) (λ point e. apart (true ∷ point) (omega (arith, e))))
disjoint_from_apart one_id j n ni nj di dj apart =
    let odd : j ≡ zero_id = zero_from_points j n nj dj apart in absurd (cc)
disjoint_from_apart i one_id n ni nj di dj apart =
    let odd : i ≡ zero_id = zero_from_points i n ni di (λ point e. sym (and-true (has i point)) ∙ apart point e) in absurd (cc)

-- two ids within the limit that own the same points are the same tree
pub same_tree : (i j : Id) → IsValid i → IsValid j → AtPoints (λ point. has i point ≡ has j point) → i ≡ j
same_tree i j v w same = same_from_points i j 256 v.normal w.normal v.within w.within same

-- the test and the points say the same
pub disjoint_iff_apart : (i j : Id) → IsValid i → IsValid j → IsTrue (are_disjoint i j) ↔ SharesNoPoint i j
disjoint_iff_apart i j v w = (
  (λ test point e. apart_from_disjoint i j point test),
  (λ apart. disjoint_from_apart i j 256 v.normal w.normal v.within w.within apart),
)

-- the same of a test that was made
pub apart_as_test : (i j : Id) (test : Bool) → test ≡ are_disjoint i j → IsValid i → IsValid j → IsTrue test ↔ SharesNoPoint i j
apart_as_test i j test same v w =
    let P : Bool → Type 0 = λ t. IsTrue t ↔ SharesNoPoint i j in subst P (sym same) (disjoint_iff_apart i j v w)
