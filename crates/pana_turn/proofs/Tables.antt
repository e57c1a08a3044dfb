-- A function changed at one number.
use Rattle.std.specs.Prelude.{◌≡◌, ℕ, ◌==◌, cond}
use Rattle.std.proofs.Common.{◌≢◌, ap, eq-eqb, ne_eqb}

pub change_at : (ℕ → ℕ) → ℕ → ℕ → ℕ → ℕ
change_at f k y i = cond (i == k) y (f i)

pub change_here : (f : ℕ → ℕ) (k y i : ℕ) → i ≡ k → change_at f k y i ≡ y
unfolding change_at
change_here f k y i is = ap (λ b. cond b y (f i)) (eq-eqb i k is)

pub change_else : (f : ℕ → ℕ) (k y i : ℕ) → i ≢ k → change_at f k y i ≡ f i
unfolding change_at
change_else f k y i not = ap (λ b. cond b y (f i)) (ne_eqb i k not)
