-- The name of a device is ASCII, so it is a text, and the zeros that stand after it are no part of it.
use Rattle.std.proofs.Common.{◌≡◌, Bool, true, false, cond, not, ◌==◌, ltb, ℕ, zero, suc, ◌<◌, ◌-◌, List, [], ◌∷◌, ◌++◌, length, drop, replicate, Option, Some, None, refl, sym, ap, ◌∙◌, arith}
use Rattle.std.specs.List.{list_all, position_or_len, prefix_len}
use Rattle.std.specs.Option.{unwrap_or}
use Rattle.std.specs.Str.{IsAscii, IsUtf8}
use Rattle.std.proofs.lemmas.Bool.{and_parts, ltb-false}
use Rattle.std.proofs.lemmas.List.{drop-replicate}
use Rattle.std.proofs.lemmas.List.Folds.{length-prefix_len}
use Rattle.std.proofs.lemmas.List.Sums.{take_while-cons, prefix_len-le-length}
use Rattle.std.proofs.lemmas.Str.{IsUtf8-from_ascii}
use Rattle.std.proofs.lemmas.Str.Ascii.{IsAscii-nil, IsAscii-cons}
use Rattle.pana_copies.specs.Names.{is_device, is_device_byte, before_zeros}

ascii_byte : (b : ℕ) → is_device_byte b ≡ true → b < 128
ascii_byte b h = grind arith

ascii_bytes : (bytes : List ℕ) → list_all is_device_byte bytes ≡ true → IsAscii bytes
ascii_bytes [] h = IsAscii-nil
ascii_bytes (b ∷ bytes) h =
    let both = and_parts _ _ h in
    IsAscii-cons b bytes (ascii_byte b both.0) (ascii_bytes bytes both.1)

pub IsUtf8-from_is_device : (bytes : List ℕ) → is_device bytes ≡ true → IsUtf8 bytes
IsUtf8-from_is_device bytes h = IsUtf8-from_ascii bytes (ascii_bytes bytes (and_parts _ _ h).1)

abbrev is_zero : ℕ → Bool
is_zero b = b == 0

no_zero : (b : ℕ) → is_device_byte b ≡ true → not (is_zero b) ≡ true
no_zero b h = grind arith

-- zeros after the bytes of a name are no part of it
with_zeros : (bytes : List ℕ) (n : ℕ) → list_all is_device_byte bytes ≡ true → before_zeros (bytes ++ replicate n 0) ≡ bytes
with_zeros [] zero h = refl
with_zeros [] (suc n) h = refl
with_zeros (b ∷ bytes) n h =
    let both = and_parts _ _ h in
    let rest = bytes ++ replicate n 0 in
    take_while-cons (λ x. not (is_zero x)) b rest
    ∙ ap (λ t. cond t (b ∷ before_zeros rest) []) (no_zero b both.0)
    ∙ ap (λ r. b ∷ r) (with_zeros bytes n both.1)

-- a name that was copied over the first of n zeros
pub before_zeros-copied : (bytes : List ℕ) (n : ℕ) → is_device bytes ≡ true → before_zeros (bytes ++ drop (length bytes) (replicate n 0)) ≡ bytes
before_zeros-copied bytes n h =
    ap (λ rest. before_zeros (bytes ++ rest)) (drop-replicate (length bytes) n 0)
    ∙ with_zeros bytes (n - length bytes) (and_parts _ _ h).1

-- the place of the first zero, or else the length, is how many bytes stand before it
pub length-before_zeros : (bytes : List ℕ) (r : Option ℕ)
    → r ≡ cond (ltb (position_or_len is_zero bytes) (length bytes)) (Some (position_or_len is_zero bytes)) None
    → unwrap_or r (length bytes) ≡ length (before_zeros bytes)
length-before_zeros bytes r h =
    elim (ltb (position_or_len is_zero bytes) (length bytes)) as (λ t. ltb (position_or_len is_zero bytes) (length bytes) ≡ t
    → r ≡ cond t (Some (position_or_len is_zero bytes)) None → unwrap_or r (length bytes) ≡ length (before_zeros bytes)) [
      | true ↦ λ e found. ap (λ o. unwrap_or o (length bytes)) found ∙ sym (length-prefix_len (λ b. not (is_zero b)) bytes)
      | false ↦ λ e found. ap (λ o. unwrap_or o (length bytes)) found ∙ whole (λ b. not (is_zero b)) e ∙ sym (length-prefix_len (λ b. not (is_zero b)) bytes)
    ] refl h
  where
    whole : (p : ℕ → Bool) → ltb (prefix_len p bytes) (length bytes) ≡ false → length bytes ≡ prefix_len p bytes
    whole p e = omega (arith, prefix_len-le-length p bytes, ltb-false (prefix_len p bytes) (length bytes) e)
