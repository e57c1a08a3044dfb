-- Sums compare as the bytes that their digits stand for do.
use Rattle.std.proofs.Common.{◌≡◌, ℕ, zero, suc, ◌/◌, ◌%◌, ◌<◌, ◌==◌, Bool, true, ◌&&◌, List, [], ◌∷◌, slice_index, inl, inr, refl, sym, ap, ◌∙◌, arith}
use Rattle.std.specs.List.{AllByRecursion}
use Rattle.std.specs.declared.cmp.Ordering.{Ordering}
use Rattle.std.specs.declared.cmp.Ordering.TheVariants.{Less, Equal, Greater}
use Rattle.std.specs.Ordering.{nat_cmp, ordering_index, ordering_then}
use Rattle.std.specs.Cmp.Lexicographic.{slice_cmp}
use Rattle.std.proofs.lemmas.Bool.{and_parts, cases_lt, cases_order, eqb-true}
use Rattle.std.proofs.lemmas.Bool.Decides.{nat_tests}
use Rattle.hex.specs.Hex.{encode_lower, encode_with, lower_digits}

abbrev digit : ℕ → ℕ
digit value = slice_index lower_digits value

-- ---- digits compare as their values

abbrev alike : ℕ → ℕ → Bool
alike a b = ordering_index (nat_cmp (digit a) (digit b)) == ordering_index (nat_cmp a b)

abbrev row_alike : ℕ → ℕ → Bool
row_alike a zero = true
row_alike a (suc n) = alike a n && row_alike a n

abbrev all_alike : ℕ → Bool
all_alike zero = true
all_alike (suc n) = row_alike n 16 && all_alike n

in_row : (a n b : ℕ) → row_alike a n ≡ true → b < n → alike a b ≡ true
in_row a zero b h lt = absurd (omega arith)
in_row a (suc n) b h lt =
    let parts = and_parts (alike a n) (row_alike a n) h in
    elim (cases_lt b n) [
      | inl below ↦ in_row a n b parts.1 below
      | inr top ↦ let e : b ≡ n = omega arith in rw e parts.0
    ]

in_all : (n a : ℕ) → all_alike n ≡ true → a < n → row_alike a 16 ≡ true
in_all zero a h lt = absurd (omega arith)
in_all (suc n) a h lt =
    let parts = and_parts (row_alike n 16) (all_alike n) h in
    elim (cases_lt a n) [
      | inl below ↦ in_all n a parts.1 below
      | inr top ↦ let e : a ≡ n = omega arith in rw e parts.0
    ]

by_index : (o p : Ordering) → ordering_index o ≡ ordering_index p → o ≡ p
by_index Less Less is = refl
by_index Less Equal is = absurd (omega (arith, is))
by_index Less Greater is = absurd (omega (arith, is))
by_index Equal Less is = absurd (omega (arith, is))
by_index Equal Equal is = refl
by_index Equal Greater is = absurd (omega (arith, is))
by_index Greater Less is = absurd (omega (arith, is))
by_index Greater Equal is = absurd (omega (arith, is))
by_index Greater Greater is = refl

digits_compare : (a b : ℕ) → a < 16 → b < 16 → nat_cmp (digit a) (digit b) ≡ nat_cmp a b
digits_compare a b la lb =
    by_index (nat_cmp (digit a) (digit b)) (nat_cmp a b)
    (eqb-true (ordering_index (nat_cmp (digit a) (digit b))) (ordering_index (nat_cmp a b)) (in_row a 16 b (in_all 16 a refl la) lb))

-- ---- two digits compare as the byte

is_less : (a b : ℕ) → a < b → nat_cmp a b ≡ Less
is_less a b lt = grind (arith, nat_tests)

is_equal : (a b : ℕ) → a ≡ b → nat_cmp a b ≡ Equal
is_equal a b e = grind (arith, nat_tests)

is_greater : (a b : ℕ) → b < a → nat_cmp a b ≡ Greater
is_greater a b lt = grind (arith, nat_tests)

halves_compare : (x y : ℕ) → ordering_then (nat_cmp (x / 16) (y / 16)) (nat_cmp (x % 16) (y % 16)) ≡ nat_cmp x y
halves_compare x y =
    elim (cases_order (x / 16) (y / 16)) [
      | inl same ↦
          ap (λ o. ordering_then o (nat_cmp (x % 16) (y % 16))) (is_equal (x / 16) (y / 16) same)
          ∙ elim (cases_order (x % 16) (y % 16)) [
            | inl alike ↦ is_equal (x % 16) (y % 16) alike ∙ sym (is_equal x y (omega arith))
            | inr differ ↦ elim differ [
              | inl low ↦ is_less (x % 16) (y % 16) low ∙ sym (is_less x y (omega arith))
              | inr high ↦ is_greater (x % 16) (y % 16) high ∙ sym (is_greater x y (omega arith))
            ]
          ]
      | inr differ ↦ elim differ [
        | inl low ↦ ap (λ o. ordering_then o (nat_cmp (x % 16) (y % 16))) (is_less (x / 16) (y / 16) low) ∙ sym (is_less x y (omega arith))
        | inr high ↦ ap (λ o. ordering_then o (nat_cmp (x % 16) (y % 16))) (is_greater (x / 16) (y / 16) high) ∙ sym (is_greater x y (omega arith))
      ]
    ]

-- ---- and so do all

then_assoc : (a b c : Ordering) → ordering_then a (ordering_then b c) ≡ ordering_then (ordering_then a b) c
then_assoc Less b c = refl
then_assoc Equal b c = refl
then_assoc Greater b c = refl

abbrev pub AreSmall : List ℕ → Type 0
AreSmall bytes = AllByRecursion (λ byte. byte < 256) bytes

pub texts_compare : (xs ys : List ℕ) → AreSmall xs → AreSmall ys → slice_cmp nat_cmp xs ys ≡ slice_cmp nat_cmp (encode_lower xs) (encode_lower ys)
unfolding encode_with
texts_compare [] [] sx sy = refl
texts_compare [] (y ∷ ys) sx sy = refl
texts_compare (x ∷ xs) [] sx sy = refl
texts_compare (x ∷ xs) (y ∷ ys) sx sy =
    let lx = sx.0 in
    let ly = sy.0 in
    let high : nat_cmp (digit (x / 16)) (digit (y / 16)) ≡ nat_cmp (x / 16) (y / 16) = digits_compare (x / 16) (y / 16) (omega arith) (omega arith) in
    let low : nat_cmp (digit (x % 16)) (digit (y % 16)) ≡ nat_cmp (x % 16) (y % 16) = digits_compare (x % 16) (y % 16) (omega arith) (omega arith) in
    let more = texts_compare xs ys sx.1 sy.1 in
    (λ i. ordering_then (sym (halves_compare x y) i) (more i))
    ∙ sym (then_assoc (nat_cmp (x / 16) (y / 16)) (nat_cmp (x % 16) (y % 16)) (slice_cmp nat_cmp (encode_lower xs) (encode_lower ys)))
    ∙ (λ i. ordering_then (sym high i) (ordering_then (sym low i) (slice_cmp nat_cmp (encode_lower xs) (encode_lower ys))))
