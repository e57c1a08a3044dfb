-- The digits of a sum are ASCII, so they are a text.
use Rattle.std.proofs.Common.{◌≡◌, true, ℕ, ◌<◌, List, [], ◌∷◌, arith}
use Rattle.std.specs.List.{list_all}
use Rattle.std.specs.Str.{IsAscii, IsUtf8}
use Rattle.std.proofs.lemmas.Bool.{and_parts}
use Rattle.std.proofs.lemmas.Str.{IsUtf8-from_ascii}
use Rattle.std.proofs.lemmas.Str.Ascii.{IsAscii-nil, IsAscii-cons}
use Rattle.pana_copies.specs.Sums.{is_sum, is_sum_digit}

ascii_digit : (b : ℕ) → is_sum_digit b ≡ true → b < 128
ascii_digit b h = grind arith

ascii_digits : (digits : List ℕ) → list_all is_sum_digit digits ≡ true → IsAscii digits
ascii_digits [] h = IsAscii-nil
ascii_digits (b ∷ digits) h =
    let both = and_parts _ _ h in
    IsAscii-cons b digits (ascii_digit b both.0) (ascii_digits digits both.1)

pub IsUtf8-from_is_sum : (text : List ℕ) → is_sum text ≡ true → IsUtf8 text
IsUtf8-from_is_sum text h = IsUtf8-from_ascii text (ascii_digits text (and_parts _ _ h).1)
