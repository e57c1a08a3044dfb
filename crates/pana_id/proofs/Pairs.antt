-- What norm and the tests of one pair give.
use Rattle.std.proofs.Common.{◌≡◌, ◌+◌, ◌≤◌, max, Bool, true, false, ◌&&◌, List, ◌∷◌, refl, arith}
use Rattle.pana_id.specs.Id.{Id, zero_id, one_id, pair, has, depth, is_zero, IsOpen, IsNormal, norm}

pub depth-norm : (l r : Id) → depth (norm l r) ≤ max (depth l) (depth r) + 1
depth-norm zero_id zero_id = omega arith
depth-norm one_id one_id = omega arith
depth-norm l r = omega arith

pub normal-norm : (l r : Id) → IsNormal l → IsNormal r → IsNormal (norm l r)
normal-norm zero_id zero_id m n = tt
normal-norm one_id one_id m n = tt
normal-norm l r m n = (m, n, tt)

-- the two ways to write a pair own the same points
pub has-norm : (l r : Id) (choice : Bool) (point : List Bool) → has (norm l r) (choice ∷ point) ≡ has (pair l r) (choice ∷ point)
has-norm zero_id zero_id false point = refl
has-norm zero_id zero_id true point = refl
has-norm one_id one_id false point = refl
has-norm one_id one_id true point = refl
has-norm l r choice point = refl

pub is_zero-norm : (l r : Id) → is_zero (norm l r) ≡ (is_zero l && is_zero r)
is_zero-norm zero_id zero_id = refl
is_zero-norm one_id one_id = refl
is_zero-norm zero_id r = refl
is_zero-norm l r = refl

pub norm-open : (l r : Id) → IsOpen l r → norm l r ≡ pair l r
norm-open zero_id zero_id open_pair = absurd open_pair
norm-open one_id one_id open_pair = absurd open_pair
norm-open l r open_pair = refl

-- an open pair isn't of two 0
pub is_zero-open : (l r : Id) → IsOpen l r → (is_zero l && is_zero r) ≡ false
is_zero-open zero_id zero_id open_pair = absurd open_pair
is_zero-open zero_id r open_pair = refl
is_zero-open l r open_pair = refl

pub both_true : (a b : Bool) → (a && b) ≡ true → (a ≡ true) × (b ≡ true)
both_true true true h = (refl, refl)
both_true true false h = absurd (cc)
both_true false b h = absurd (cc)
