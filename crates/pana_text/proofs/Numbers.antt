-- A number that is read is the number that was written.
use Rattle.std.proofs.Common.{◌≡◌, ℕ, zero, suc, ◌+◌, ◌-◌, ◌*◌, ◌^◌, ◌<◌, ◌≤◌, Bool, true, false, leb, List, [], ◌∷◌, ◌++◌, length, get_or, refl, ap, ◌∙◌, arith, Ok, inl, inr, ◌⊎◌}
use Rattle.std.specs.Prelude.{decimal}
use Rattle.std.proofs.lemmas.Bool.{le-leb, leb-true, ne_eqb}
use Rattle.std.proofs.lemmas.Str.Parse.{IsNumeralModel, IsDigitsTest, FoldsDigits, numerals_by_fold}
use Rattle.std.proofs.lemmas.Fmt.{decimal_digit, decimal-digits_value, digits_decimal, digits_value-decimal, decimal_nonempty, first_decimal}
use Rattle.pana_text.specs.inner.Reading.{digits_from, number_at}
use Rattle.pana_text.specs.Grammar.{is_digit, all_digits, number_from, IsNumber}
use Rattle.pana_text.proofs.Kept.{split_and}

abbrev pub AreDigits : List ℕ → Type 0
AreDigits ds = all_digits ds ≡ true

pub digit-from : (b : ℕ) → 48 ≤ b → b ≤ 57 → is_digit b ≡ true
digit-from b low high = rw (le-leb 48 b low) (le-leb b 57 high)

pub digits-parts : (b : ℕ) (rest : List ℕ) → AreDigits (b ∷ rest) → (48 ≤ b) × (b ≤ 57) × AreDigits rest
digits-parts b rest h =
    let outer = split_and (is_digit b) (all_digits rest) h in
    let inner = split_and (leb 48 b) (leb b 57) outer.0 in
    (leb-true 48 b inner.0, leb-true b 57 inner.1, outer.1)

digits-more : (b : ℕ) (rest : List ℕ) → 48 ≤ b → b ≤ 57 → AreDigits rest → AreDigits (b ∷ rest)
digits-more b rest low high h = rw (digit-from b low high) h

own_test : IsDigitsTest AreDigits
own_test = record {
  empty = refl;
  parts = λ b rest h. let p = digits-parts b rest h in ((p.0, p.1), p.2);
  more = λ b rest r h. digits-more b rest r.0 r.1 h;
}

own_fold : FoldsDigits number_from
own_fold = record { empty = λ n. refl; more = λ n b rest r. refl }

pub own : IsNumeralModel AreDigits (number_from 0)
own = numerals_by_fold AreDigits own_test number_from own_fold

pub test_cases : (t : Bool) → (t ≡ true) ⊎ (t ≡ false)
test_cases true = inl refl
test_cases false = inr refl

pub digits_from-is : (n b : ℕ) (rest : List ℕ) → is_digit b ≡ true → digits_from n (b ∷ rest) ≡ digits_from (n * 10 + (b - 48)) rest
digits_from-is n b rest h = rw h refl

pub digits_from-none : (n b : ℕ) (rest : List ℕ) → is_digit b ≡ false → digits_from n (b ∷ rest) ≡ (n, b ∷ rest)
digits_from-none n b rest h = rw h refl

-- a number below 2 ^ 64 is spelled in decimal
pub number-decimal : (ds : List ℕ) → IsNumber ds → number_from 0 ds < 2 ^ 64 → decimal (number_from 0 ds) ≡ ds
number-decimal [] h fits = absurd h
number-decimal (b ∷ rest) (inl h) fits = rw (h.0, h.1) (decimal_digit 0 (omega arith))
number-decimal (b ∷ rest) (inr h) fits =
    decimal-digits_value own (b ∷ rest) (digits-more b rest (omega (arith, h.0)) h.1 h.2) (omega arith) (λ z. absurd (omega (arith, h.0, z))) fits

-- ---- what was written is read again

more-digits : (n : ℕ) (ds rest : List ℕ) (b : ℕ) → AreDigits ds → is_digit b ≡ false → digits_from n (ds ++ (b ∷ rest)) ≡ (number_from n ds, b ∷ rest)
more-digits n [] rest b h stops = digits_from-none n b rest stops
more-digits n (c ∷ ds) rest b h stops =
    let p = digits-parts c ds h in
    digits_from-is n c (ds ++ (b ∷ rest)) (digit-from c p.0 p.1) ∙ more-digits (n * 10 + (c - 48)) ds rest b p.2 stops

pub number-again : {N : Type 0} (num : ℕ → N) (total b : ℕ) (ds rest : List ℕ) → IsNumber ds → is_digit b ≡ false → number_at num total (ds ++ (b ∷ rest)) ≡ Ok (num (number_from 0 ds), b ∷ rest)
unfolding number_at
number-again num total b [] rest h stops = absurd h
number-again num total b (d ∷ ds) rest (inl h) stops = rw (h.0, h.1) refl
number-again num total b (d ∷ ds) rest (inr (low, high, is)) stops =
    rw (ne_eqb d 48 (λ e. omega arith), digit-from d (omega arith) high) (ap (λ (x : ℕ × List ℕ). Ok (num x.0, x.1)) (more-digits (0 * 10 + (d - 48)) ds rest b is stops))

pub number-digits : (ds : List ℕ) → IsNumber ds → AreDigits ds
number-digits [] h = absurd h
number-digits (d ∷ ds) (inl h) = rw (h.0, h.1) refl
number-digits (d ∷ ds) (inr (low, high, is)) = digits-more d ds (omega arith) high is

from_first : (ds : List ℕ) → AreDigits ds → 0 < length ds → 48 < get_or ds 0 0 → IsNumber ds
from_first [] h long first = absurd (omega arith)
from_first (d ∷ ds) h long first = let p = digits-parts d ds h in inr (omega arith, p.1, p.2)

-- a number begins with a digit
pub digit_or_zero : (ds rest : List ℕ) → IsNumber ds → 48 ≤ get_or (ds ++ rest) 0 0
digit_or_zero [] rest h = absurd h
digit_or_zero (d ∷ ds) rest (inl h) = omega (arith, h.0)
digit_or_zero (d ∷ ds) rest (inr h) = omega (arith, h.0)

-- the decimal text of a number is its spelling
pub decimal-number : (n : ℕ) → n < 2 ^ 64 → IsNumber (decimal n)
decimal-number zero h = rw (decimal_digit 0 (omega arith)) (inl (refl, refl))
decimal-number (suc n) h = from_first (decimal (suc n)) (digits_decimal own (suc n) h) (decimal_nonempty (suc n) h) (first_decimal (suc n) (omega arith) h)

pub decimal-value : (n : ℕ) → n < 2 ^ 64 → number_from 0 (decimal n) ≡ n
decimal-value n h = digits_value-decimal own n h
