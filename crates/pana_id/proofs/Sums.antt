-- What the sum of two ids is.
use Rattle.std.proofs.Common.{◌≡◌, ◌≤◌, max, Bool, true, false, ◌&&◌, ◌||◌, List, [], ◌∷◌, length, refl, sym, ap₂, subst, ◌∙◌, arith}
use Rattle.std.proofs.Math.Bool.{and-false, or-false, or-true}
use Rattle.pana_id.specs.Id.{Id, zero_id, one_id, pair, has, depth, is_zero, IsNormal, IsValid, sum_of, IsSum}
use Rattle.pana_id.proofs.Pairs.{depth-norm, normal-norm, has-norm, is_zero-norm, is_zero-open}

-- the sum is no deeper than the deeper of the two
pub depth-sum : (i j : Id) → depth (sum_of i j) ≤ max (depth i) (depth j)
depth-sum zero_id j = omega arith
depth-sum i zero_id = omega arith
depth-sum (pair a b) (pair c d) =
    omega (arith, depth-norm (sum_of a c) (sum_of b d), depth-sum a c, depth-sum b d)
depth-sum i j = omega arith

pub normal-sum : (i j : Id) → IsNormal i → IsNormal j → IsNormal (sum_of i j)
normal-sum zero_id j m n = n
normal-sum i zero_id m n = m
normal-sum (pair a b) (pair c d) m n = normal-norm (sum_of a c) (sum_of b d) (normal-sum a c m.0 n.0) (normal-sum b d m.1 n.1)
normal-sum i j m n = tt

-- the sum owns what either owns
pub has-sum : (i j : Id) (point : List Bool) → depth i ≤ length point → depth j ≤ length point
    → has (sum_of i j) point ≡ (has i point || has j point)
has-sum zero_id j point di dj = refl
has-sum i zero_id point di dj = sym (or-false (has i point))
has-sum (pair a b) (pair c d) [] di dj = absurd (omega arith)
has-sum (pair a b) (pair c d) (false ∷ point) di dj =
    has-norm (sum_of a c) (sum_of b d) false point ∙ has-sum a c point (omega arith) (omega arith)
has-sum (pair a b) (pair c d) (true ∷ point) di dj =
    has-norm (sum_of a c) (sum_of b d) true point ∙ has-sum b d point (omega arith) (omega arith)
has-sum one_id j point di dj = refl
has-sum i one_id point di dj = sym (or-true (has i point))

-- halves of two pairs, of which the first aren't both 0, aren't all 0
crosswise : (a b c d : Bool) → (a && b) ≡ false → ((a && c) && (b && d)) ≡ false
crosswise true true c d h = absurd (cc)
crosswise true false c d h = and-false c
crosswise false b c d h = refl

-- the sum is 0 only where both are
pub is_zero-sum : (i j : Id) → IsNormal i → is_zero (sum_of i j) ≡ (is_zero i && is_zero j)
is_zero-sum zero_id j n = refl
is_zero-sum one_id zero_id n = refl
is_zero-sum (pair a b) zero_id n = refl
is_zero-sum (pair a b) (pair c d) n =
    is_zero-norm (sum_of a c) (sum_of b d)
    ∙ ap₂ (λ s t. s && t) (is_zero-sum a c n.0) (is_zero-sum b d n.1)
    ∙ crosswise (is_zero a) (is_zero b) (is_zero c) (is_zero d) (is_zero-open a b n.2)
is_zero-sum one_id j n = refl
is_zero-sum i one_id n = refl

-- the sum of valid ids is valid
pub valid-sum : (i j : Id) → IsValid i → IsValid j → IsValid (sum_of i j)
valid-sum i j v w =
    record { normal = normal-sum i j v.normal w.normal; within = omega (arith, depth-sum i j, v.within, w.within) }

-- the sum adds up the two
pub summed-sum : (i j : Id) → IsValid i → IsValid j → IsSum (sum_of i j) i j
summed-sum i j v w =
    record {
      owned = λ point e. has-sum i j point (omega (arith, v.within, e)) (omega (arith, w.within, e));
      zero_only = is_zero-sum i j v.normal;
    }

-- the same of a tree that is the sum
pub valid_as_sum : (i j whole : Id) → whole ≡ sum_of i j → IsValid i → IsValid j → IsValid whole
valid_as_sum i j whole same v w = subst IsValid (sym same) (valid-sum i j v w)

pub summed_as_sum : (i j whole : Id) → whole ≡ sum_of i j → IsValid i → IsValid j → IsSum whole i j
summed_as_sum i j whole same v w =
    let P : Id → Type 0 = λ t. IsSum t i j in subst P (sym same) (summed-sum i j v w)
