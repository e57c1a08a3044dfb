-- The bytes that the digits of a sum stand for.
use Rattle.std.proofs.Common.{◌≡◌, ℕ, zero, suc, ◌+◌, ◌*◌, ◌/◌, ◌%◌, ◌<◌, ◌==◌, Bool, true, false, not, ◌&&◌, ◌||◌, List, [], ◌∷◌, length, slice_index, Option, Some, None, Ok, Err, inl, inr, Result, refl, sym, ap, ◌∙◌, subst, arith}
use Rattle.std.specs.Prelude.{nat_lt, if◌then◌else◌}
use Rattle.std.specs.List.{list_all}
use Rattle.std.proofs.lemmas.Bool.{and_parts, cases_lt, eqb-true, ltb-true}
use Rattle.std.proofs.lemmas.Bool.Decides.{nat_tests}
use Rattle.std.specs.Str.{bytes_eq}
use Rattle.std.proofs.lemmas.Slice.Eq.{bytes_eq-Decides}
use Rattle.hex.specs.Hex.{IsBytes, decode_pairs, decode_sized, encode_with, encode_lower, hex_digit_value, lower_digits, pair_value, value_at, digit_or_error}
use Rattle.hex.specs.declared.error.FromHexError.{FromHexError}
use Rattle.hex.specs.declared.error.FromHexError.TheVariants.{InvalidStringLength, OddLength}
use Rattle.hex.proofs.HexLemmas.{decode_sized-encode_lower, length-encode_with}
use Rattle.hex.proofs.Pairs.{cons_byte, decode_pairs-ok_pair}
use Rattle.pana_copies.specs.inner.SumBytes.{AreSumBytes}
use Rattle.pana_copies.proofs.SumOrder.{AreSmall, texts_compare}
use Rattle.std.specs.Ordering.{nat_cmp}
use Rattle.std.specs.Cmp.Lexicographic.{slice_cmp}
use Rattle.pana_copies.specs.Sums.{is_sum, is_sum_digit}

-- the value of a digit, and the digit of that value
pub record IsDigitOf (c : ℕ) : Type 0 where
  pub value : ℕ
  pub reads : hex_digit_value c ≡ Some value
  pub low : value < 16
  pub back : slice_index lower_digits value ≡ c

abbrev value_of : ℕ → Option ℕ → Bool
value_of c None = false
value_of c (Some v) = nat_lt v 16 && slice_index lower_digits v == c

abbrev reads_back : ℕ → Bool
reads_back c = not (is_sum_digit c) || value_of c (hex_digit_value c)

abbrev all_read_back : ℕ → Bool
all_read_back zero = true
all_read_back (suc n) = reads_back n && all_read_back n

read_back : (n c : ℕ) → all_read_back n ≡ true → c < n → reads_back c ≡ true
read_back zero c h lt = absurd (omega arith)
read_back (suc n) c h lt =
    let parts = and_parts (reads_back n) (all_read_back n) h in
    elim (cases_lt c n) [
      | inl below ↦ read_back n c parts.1 below
      | inr top ↦ let e : c ≡ n = omega arith in rw e parts.0
    ]

by_value : (c : ℕ) (o : Option ℕ) → hex_digit_value c ≡ o → value_of c o ≡ true → IsDigitOf c
by_value c None reads is = absurd (cc)
by_value c (Some v) reads is =
    let parts = and_parts (nat_lt v 16) (slice_index lower_digits v == c) is in
    record { value = v; reads = reads; low = ltb-true v 16 parts.0; back = eqb-true _ c parts.1 }

digit : (c : ℕ) → is_sum_digit c ≡ true → IsDigitOf c
digit c is =
    let small : c < 103 = grind (arith, nat_tests) in
    let test : reads_back c ≡ true = read_back 103 c refl small in
    by_value c (hex_digit_value c) refl (ap (λ b. not b || value_of c (hex_digit_value c)) (sym is) ∙ test)

-- the bytes of a text of such digits, of which the text is written again
pub record IsDecoded (i : ℕ) (text : List ℕ) : Type 0 where
  pub bytes : List ℕ
  pub decoded : decode_pairs i text ≡ Ok bytes
  pub back : encode_lower bytes ≡ text
  pub small : AreSmall bytes

decoded : (i : ℕ) (text : List ℕ) (n : ℕ) → length text ≡ n + n → list_all is_sum_digit text ≡ true → IsDecoded i text
unfolding decode_pairs encode_with
decoded i [] n even all = record { bytes = []; decoded = refl; back = refl; small = tt }
decoded i (c ∷ []) n even all = absurd (omega arith)
decoded i (c ∷ d ∷ rest) zero even all = absurd (omega arith)
decoded i (c ∷ d ∷ rest) (suc n) even all =
    let parts = and_parts (is_sum_digit c) (list_all is_sum_digit (d ∷ rest)) all in
    let more = and_parts (is_sum_digit d) (list_all is_sum_digit rest) parts.1 in
    let high = digit c parts.0 in
    let low = digit d more.0 in
    let rest_is = decoded (i + 2) rest n (omega arith) more.1 in
    let byte = high.value * 16 + low.value in
    let small = low.low in
    let ha : value_at c i ≡ Ok high.value = ap (digit_or_error c i) high.reads in
    let hb : value_at d (i + 1) ≡ Ok low.value = ap (digit_or_error d (i + 1)) low.reads in
    let pair : pair_value c d i ≡ Ok byte = rw (ha, hb) refl in
    let upper : byte / 16 ≡ high.value = omega arith in
    let lower : byte % 16 ≡ low.value = omega arith in
    record {
      bytes = byte ∷ rest_is.bytes;
      decoded = decode_pairs-ok_pair i c d byte rest pair ∙ ap (cons_byte byte) rest_is.decoded;
      back = ap (λ v. slice_index lower_digits v ∷ slice_index lower_digits (byte % 16) ∷ encode_lower rest_is.bytes) upper
          ∙ ap (λ v. slice_index lower_digits high.value ∷ slice_index lower_digits v ∷ encode_lower rest_is.bytes) lower
          ∙ ap (λ x. x ∷ slice_index lower_digits low.value ∷ encode_lower rest_is.bytes) high.back
          ∙ ap (λ x. c ∷ x ∷ encode_lower rest_is.bytes) low.back
          ∙ ap (λ l. c ∷ d ∷ l) rest_is.back;
      small = (omega arith, rest_is.small);
    }

sized : (text : List ℕ) (r : Result (List ℕ) FromHexError) → length text ≡ 64 → decode_pairs 0 text ≡ r → decode_sized text 32 ≡ r
sized text r long is = ap (λ n. if n % 2 == 1 then Err OddLength else if n / 2 == 32 then decode_pairs 0 text else Err InvalidStringLength) long ∙ is

-- a sum is decoded into 32 bytes
pub sum_decoded : (text : List ℕ) → is_sum text ≡ true → (bytes : List ℕ) × (decode_sized text 32 ≡ Ok bytes) × (encode_lower bytes ≡ text)
sum_decoded text is =
    let parts = and_parts (length text == 64) (list_all is_sum_digit text) is in
    let long : length text ≡ 64 = eqb-true (length text) 64 parts.0 in
    let it = decoded 0 text 32 long parts.1 in
    (it.bytes, sized text (Ok it.bytes) long it.decoded, it.back)

-- the bytes of a sum are small
are_small : (bytes : List ℕ) → AreSumBytes bytes → AreSmall bytes
are_small bytes are =
    let parts = and_parts (length (encode_lower bytes) == 64) (list_all is_sum_digit (encode_lower bytes)) are.sum in
    let long : length (encode_lower bytes) ≡ 64 = eqb-true (length (encode_lower bytes)) 64 parts.0 in
    let it = decoded 0 (encode_lower bytes) 32 long parts.1 in
    let both : Ok it.bytes ≡ Ok bytes = sym (sized (encode_lower bytes) (Ok it.bytes) long it.decoded) ∙ are.back in
    let same : it.bytes ≡ bytes = cc in
    subst AreSmall same it.small

-- sums compare as their bytes do
pub sums_compare : (xs ys : List ℕ) → AreSumBytes xs → AreSumBytes ys → slice_cmp nat_cmp xs ys ≡ slice_cmp nat_cmp (encode_lower xs) (encode_lower ys)
sums_compare xs ys first second = texts_compare xs ys (are_small xs first) (are_small ys second)

-- the bytes are those of the text alone
pub same_bytes : (xs ys : List ℕ) → AreSumBytes xs → AreSumBytes ys → bytes_eq xs ys ≡ bytes_eq (encode_lower xs) (encode_lower ys)
same_bytes xs ys first second = grind (arith, nat_tests, bytes_eq-Decides, first.back, second.back)

pub are_sum_bytes : (text bytes : List ℕ) → is_sum text ≡ true → decode_sized text 32 ≡ Ok bytes → encode_lower bytes ≡ text → AreSumBytes bytes
are_sum_bytes text bytes is decoded written = record { sum = ap is_sum written ∙ is; back = ap (λ t. decode_sized t 32) written ∙ decoded }

-- ---- the text of 32 bytes is a sum

abbrev all_digits : ℕ → Bool
all_digits zero = true
all_digits (suc n) = is_sum_digit (slice_index lower_digits n) && all_digits n

digit_written : (n v : ℕ) → all_digits n ≡ true → v < n → is_sum_digit (slice_index lower_digits v) ≡ true
digit_written zero v h lt = absurd (omega arith)
digit_written (suc n) v h lt =
    let parts = and_parts (is_sum_digit (slice_index lower_digits n)) (all_digits n) h in
    elim (cases_lt v n) [
      | inl below ↦ digit_written n v parts.1 below
      | inr top ↦ let e : v ≡ n = omega arith in rw e parts.0
    ]

digits_written : (bytes : List ℕ) → IsBytes bytes → list_all is_sum_digit (encode_lower bytes) ≡ true
unfolding encode_with
digits_written [] small = refl
digits_written (byte ∷ bytes) small =
    let fits : byte < 256 = small 0 in
    (λ i. digit_written 16 (byte / 16) refl (omega arith) i && (digit_written 16 (byte % 16) refl (omega arith) i && digits_written bytes (λ k. small (suc k)) i))

pub bytes_written : (bytes : List ℕ) → length bytes ≡ 32 → IsBytes bytes → AreSumBytes bytes
bytes_written bytes long small =
    let text_long : length (encode_lower bytes) ≡ 64 = omega (arith, length-encode_with lower_digits bytes, long) in
    record { sum = λ i. text_long i == 64 && digits_written bytes small i; back = decode_sized-encode_lower bytes 32 long small }
