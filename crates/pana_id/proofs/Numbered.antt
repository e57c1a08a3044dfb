-- What the number of a place says of its half.
use Rattle.std.proofs.Common.{◌≡◌, ℕ, zero, suc, ◌+◌, ◌*◌, ◌/◌, ◌%◌, ◌^◌, ◌<◌, ◌≤◌, ◌==◌, if◌then◌else◌, Bool, true, false, refl, ap, ◌∙◌, arith}
use Rattle.std.proofs.lemmas.Bool.{eq-eqb, ne_eqb}
use Rattle.std.proofs.Math.Nat.{pow-suc}
use Rattle.pana_id.specs.Id.{Id, zero_id, pair, is_zero, is_one, depth}
use Rattle.pana_id.specs.Node.{single}

-- where the choices are enough, one more says nothing
longer : (most n : ℕ) → n < 2 ^ most → single most n ≡ single (suc most) n
longer most zero few = refl
longer zero (suc n) few = absurd (omega (arith, few))
longer (suc most) (suc n) few =
    ap (λ (half : Id). if n % 2 == 0 then pair half zero_id else pair zero_id half)
    (longer most (n / 2) (omega (arith, few, pow-suc 2 most)))

-- a place is that of its half, on the left where the number below it is even, and else on the right
pub half_single : (n : ℕ) → n < 2 ^ 64 → single 64 (suc n) ≡ (if n % 2 == 0 then pair (single 64 (n / 2)) zero_id else pair zero_id (single 64 (n / 2)))
half_single n few =
    ap (λ (half : Id). if n % 2 == 0 then pair half zero_id else pair zero_id half)
    (longer 63 (n / 2) (omega (arith, few)))

pub left_single : (n : ℕ) → n < 2 ^ 64 → n % 2 ≡ 0 → single 64 (suc n) ≡ pair (single 64 (n / 2)) zero_id
left_single n few even =
    half_single n few ∙ ap (λ b. if b then pair (single 64 (n / 2)) zero_id else pair zero_id (single 64 (n / 2))) (eq-eqb _ _ even)

pub right_single : (n : ℕ) → n < 2 ^ 64 → (n % 2 ≡ 0 → ⊥) → single 64 (suc n) ≡ pair zero_id (single 64 (n / 2))
right_single n few odd =
    half_single n few ∙ ap (λ b. if b then pair (single 64 (n / 2)) zero_id else pair zero_id (single 64 (n / 2))) (ne_eqb _ _ odd)

-- a place is never empty
pub is_zero-single : (most n : ℕ) → is_zero (single most n) ≡ false
is_zero-single most zero = refl
is_zero-single zero (suc n) = refl
is_zero-single (suc most) (suc n) = by_parity (n % 2 == 0) (single most (n / 2))
  where
    by_parity : (b : Bool) (half : Id) → is_zero (if b then pair half zero_id else pair zero_id half) ≡ false
    by_parity true half = refl
    by_parity false half = refl

pub is_one-single : (n : ℕ) → is_one (single 64 (suc n)) ≡ false
is_one-single n = by_parity (n % 2 == 0) (single 63 (n / 2))
  where
    by_parity : (b : Bool) (half : Id) → is_one (if b then pair half zero_id else pair zero_id half) ≡ false
    by_parity true half = refl
    by_parity false half = refl

-- the numbers of the places below a place
pub left_number : (n : ℕ) → n < 2 ^ 62 → single 64 (suc (2 * n + 2)) ≡ pair (single 64 (suc n)) zero_id
left_number n few =
    let half : (2 * n + 2) / 2 ≡ suc n = omega arith in
    left_single (2 * n + 2) (omega (arith, few)) (omega arith) ∙ ap (λ k. pair (single 64 k) zero_id) half

pub right_number : (n : ℕ) → n < 2 ^ 62 → single 64 (suc (2 * n + 3)) ≡ pair zero_id (single 64 (suc n))
right_number n few =
    let half : (2 * n + 3) / 2 ≡ suc n = omega arith in
    right_single (2 * n + 3) (omega (arith, few)) (λ even. omega (arith, even)) ∙ ap (λ k. pair zero_id (single 64 k)) half

-- a place is no deeper than the choices that are counted
pub depth-single_at : (most n : ℕ) → depth (single most n) ≤ most
depth-single_at most zero = omega arith
depth-single_at zero (suc n) = omega arith
depth-single_at (suc most) (suc n) = by_parity (n % 2 == 0) (single most (n / 2)) (depth-single_at most (n / 2))
  where
    by_parity : (b : Bool) (half : Id) → depth half ≤ most → depth (if b then pair half zero_id else pair zero_id half) ≤ suc most
    by_parity true half deep = omega (arith, deep)
    by_parity false half deep = omega (arith, deep)
