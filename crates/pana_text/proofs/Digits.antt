-- Digits read one by one, with None above the limit.
use Rattle.std.proofs.Common.{◌≡◌, ℕ, ◌+◌, ◌-◌, ◌*◌, ◌^◌, ◌<◌, ◌≤◌, Bool, true, false, cond, leb, ◌&&◌, length, get_or, List, [], ◌∷◌, Option, Some, None, refl, ap, ◌∙◌, arith, inl, inr}
use Rattle.std.proofs.lemmas.Bool.{cases_lt, le-ltb, lt-ltb, lt-leb}
use Rattle.pana_text.specs.Grammar.{is_digit}
use Rattle.pana_text.specs.inner.Reading.{digits_from}
use Rattle.pana_text.specs.inner.Limits.{fitted, with_digit}

-- the number so far with the digits that the text begins with after it, and what follows them
abbrev pub fitted_digits : Option ℕ → List ℕ → Option ℕ × List ℕ
fitted_digits n [] = (n, [])
fitted_digits n (b ∷ rest) = cond (is_digit b) (fitted_digits (with_digit n (b - 48)) rest) (n, b ∷ rest)

pub fitted-at : (n : ℕ) → n < 2 ^ 64 → fitted n ≡ Some n
fitted-at n h = rw (lt-ltb n (2 ^ 64) h) refl

pub fitted-past : (n : ℕ) → 2 ^ 64 ≤ n → fitted n ≡ None
fitted-past n h = rw (le-ltb n (2 ^ 64) h) refl

with_digit-fitted : (n d : ℕ) → with_digit (fitted n) d ≡ fitted (n * 10 + d)
with_digit-fitted n d =
    elim (cases_lt n (2 ^ 64)) [
      | inl lt ↦ rw (fitted-at n lt) refl
      | inr le ↦ rw (fitted-past n le, fitted-past (n * 10 + d) (omega arith)) refl
    ]

pub fitted_digits-fitted : (n : ℕ) (text : List ℕ) → fitted_digits (fitted n) text ≡ (fitted (digits_from n text).0, (digits_from n text).1)
fitted_digits-fitted n [] = refl
fitted_digits-fitted n (b ∷ rest) =
    elim (is_digit b) as (λ t. cond t (fitted_digits (with_digit (fitted n) (b - 48)) rest) (fitted n, b ∷ rest) ≡ (fitted (cond t (digits_from (n * 10 + (b - 48)) rest) (n, b ∷ rest)).0, (cond t (digits_from (n * 10 + (b - 48)) rest) (n, b ∷ rest)).1)) [
      | true ↦ ap (λ (m : Option ℕ). fitted_digits m rest) (with_digit-fitted n (b - 48)) ∙ fitted_digits-fitted (n * 10 + (b - 48)) rest
      | false ↦ refl
    ]

pub fitted_digits_start : (text : List ℕ) → fitted_digits (Some 0) text ≡ (fitted (digits_from 0 text).0, (digits_from 0 text).1)
fitted_digits_start text = fitted_digits-fitted 0 text

and-false : (t : Bool) (n : Option ℕ) (b : ℕ) (rest : List ℕ) → cond (t && false) (fitted_digits (with_digit n (b - 48)) rest) (n, b ∷ rest) ≡ (n, b ∷ rest)
and-false true n b rest = refl
and-false false n b rest = refl

-- the text begins with no digit
pub stop_empty : (n : Option ℕ) (text : List ℕ) → length text < 1 → fitted_digits n text ≡ (n, text)
stop_empty n [] h = refl
stop_empty n (b ∷ rest) h = absurd (omega arith)

pub stop_low : (n : Option ℕ) (text : List ℕ) → get_or text 0 0 < 48 → fitted_digits n text ≡ (n, text)
stop_low n [] h = refl
stop_low n (b ∷ rest) h = rw (lt-leb 48 b h) refl

pub stop_high : (n : Option ℕ) (text : List ℕ) → 57 < get_or text 0 0 → fitted_digits n text ≡ (n, text)
stop_high n [] h = refl
stop_high n (b ∷ rest) h = rw (lt-leb b 57 h) (and-false (leb 48 b) n b rest)

pub ruleset start = (fitted_digits_start)
