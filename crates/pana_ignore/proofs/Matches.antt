-- Matching from one wild unit to the next: the first place where the units between them match is as good as any later one.
use Rattle.std.specs.Prelude.{length, ◌==◌, Bool, true, false, ◌&&◌, List, [], ◌∷◌}
use Rattle.std.proofs.Common.{◌≡◌, refl, sym, ◌∙◌, ap, inl, inr, arith}
use Rattle.std.proofs.lemmas.Bool.Decides.{nat_tests}
use Rattle.std.proofs.lemmas.Bool.{or_cases, or_left, or_right, and_parts, cond-true, cond-false, false_from_ne_true, both_ways}
use Rattle.pana_ignore.specs.Match.{some_rest, is_match, first_and_rest, is_nothing}

pub some_rest_here : {B : Type 0} (test : List B → Bool) (items : List B) → test items ≡ true → some_rest test items ≡ true
some_rest_here test [] h = h
some_rest_here test (item ∷ items) h = or_left (test (item ∷ items)) (some_rest test items) h

-- a unit that isn't wild matches one item
pub match_one : {A B : Type 0} (wild : A → Bool) (fits : A → B → Bool) (unit : A) (units : List A) (item : B) (items : List B)
    → wild unit ≡ false → fits unit item ≡ true → is_match wild fits (unit ∷ units) (item ∷ items) ≡ is_match wild fits units items
match_one wild fits unit units item items tame fit =
    cond-false (wild unit) (some_rest (is_match wild fits units) (item ∷ items)) (fits unit item && is_match wild fits units items) tame
    ∙ ap (λ b. b && is_match wild fits units items) fit

-- where it doesn't fit the first item, or there is none, they don't match
pub match_none : {A B : Type 0} (wild : A → Bool) (fits : A → B → Bool) (unit : A) (units : List A)
    → wild unit ≡ false → is_match wild fits (unit ∷ units) [] ≡ false
match_none wild fits unit units tame = cond-false (wild unit) (some_rest (is_match wild fits units) []) false tame

pub match_other : {A B : Type 0} (wild : A → Bool) (fits : A → B → Bool) (unit : A) (units : List A) (item : B) (items : List B)
    → wild unit ≡ false → fits unit item ≡ false → is_match wild fits (unit ∷ units) (item ∷ items) ≡ false
match_other wild fits unit units item items tame unfit =
    cond-false (wild unit) (some_rest (is_match wild fits units) (item ∷ items)) (fits unit item && is_match wild fits units items) tame
    ∙ ap (λ b. b && is_match wild fits units items) unfit

-- a wild unit matches any number of items
pub match_wild : {A B : Type 0} (wild : A → Bool) (fits : A → B → Bool) (unit : A) (units : List A) (items : List B)
    → wild unit ≡ true → is_match wild fits (unit ∷ units) items ≡ some_rest (is_match wild fits units) items
match_wild wild fits unit units items is_wild =
    cond-true (wild unit) (some_rest (is_match wild fits units) items) (first_and_rest (fits unit) (is_match wild fits units) items) is_wild

-- where a unit that isn't wild, and those behind it, match some rest of items, those behind it match a later one
pub later_among : {A B : Type 0} (wild : A → Bool) (fits : A → B → Bool) (unit : A) (units : List A) (items : List B)
    → wild unit ≡ false → some_rest (is_match wild fits (unit ∷ units)) items ≡ true → some_rest (is_match wild fits units) items ≡ true
later_among wild fits unit units [] tame h = absurd (both_ways _ (match_none wild fits unit units tame) h)
later_among wild fits unit units (item ∷ items) tame h =
    or_right (is_match wild fits units (item ∷ items)) (some_rest (is_match wild fits units) items)
    (elim (or_cases (is_match wild fits (unit ∷ units) (item ∷ items)) (some_rest (is_match wild fits (unit ∷ units)) items) h) [
      | inl here ↦ some_rest_here (is_match wild fits units) items
          (and_parts (fits unit item) (is_match wild fits units items)
          (sym (cond-false (wild unit) (some_rest (is_match wild fits units) (item ∷ items)) (fits unit item && is_match wild fits units items) tame) ∙ here)).1
      | inr later ↦ later_among wild fits unit units items tame later
    ])

-- the same where the first item is left behind
pub later_behind : {A B : Type 0} (wild : A → Bool) (fits : A → B → Bool) (unit : A) (units : List A) (item : B) (items : List B)
    → wild unit ≡ false → some_rest (is_match wild fits (unit ∷ units)) (item ∷ items) ≡ true → some_rest (is_match wild fits units) items ≡ true
later_behind wild fits unit units item items tame h =
    elim (or_cases (is_match wild fits (unit ∷ units) (item ∷ items)) (some_rest (is_match wild fits (unit ∷ units)) items) h) [
      | inl here ↦ some_rest_here (is_match wild fits units) items
          (and_parts (fits unit item) (is_match wild fits units items)
          (sym (cond-false (wild unit) (some_rest (is_match wild fits units) (item ∷ items)) (fits unit item && is_match wild fits units items) tame) ∙ here)).1
      | inr later ↦ later_among wild fits unit units items tame later
    ]

-- the same at a wild unit, behind which nothing has to be left
pub later_at_wild : {A B : Type 0} (wild : A → Bool) (fits : A → B → Bool) (unit : A) (units : List A) (items : List B)
    → wild unit ≡ true → some_rest (is_match wild fits (unit ∷ units)) items ≡ true → some_rest (is_match wild fits units) items ≡ true
later_at_wild wild fits unit units [] is_wild h = sym (match_wild wild fits unit units [] is_wild) ∙ h
later_at_wild wild fits unit units (item ∷ items) is_wild h =
    elim (or_cases (is_match wild fits (unit ∷ units) (item ∷ items)) (some_rest (is_match wild fits (unit ∷ units)) items) h) [
      | inl here ↦ sym (match_wild wild fits unit units (item ∷ items) is_wild) ∙ here
      | inr later ↦ or_right (is_match wild fits units (item ∷ items)) (some_rest (is_match wild fits units) items)
          (later_at_wild wild fits unit units items is_wild later)
    ]

-- what the test says of all items, where a yes of some rest is a yes of these
pub some_rest_first : {B : Type 0} (test : List B → Bool) (items : List B) (met : Bool) → met ≡ test items
    → (some_rest test items ≡ true → met ≡ true) → some_rest test items ≡ met
some_rest_first test items true same later = some_rest_here test items (sym same)
some_rest_first test items false same later = false_from_ne_true (some_rest test items) (λ h. both_ways false refl (later h))

-- ---- the same where units and items are known to begin so

pub one_at : {A B : Type 0} (wild : A → Bool) (fits : A → B → Bool) (us : List A) (xs : List B) (unit : A) (units : List A) (item : B) (items : List B)
    → us ≡ unit ∷ units → xs ≡ item ∷ items → wild unit ≡ false → fits unit item ≡ true → is_match wild fits us xs ≡ is_match wild fits units items
one_at wild fits us xs unit units item items e f tame fit = rw e (rw f (match_one wild fits unit units item items tame fit))

pub none_at : {A B : Type 0} (wild : A → Bool) (fits : A → B → Bool) (us : List A) (xs : List B) (unit : A) (units : List A)
    → us ≡ unit ∷ units → xs ≡ [] → wild unit ≡ false → is_match wild fits us xs ≡ false
none_at wild fits us xs unit units e f tame = rw e (rw f (match_none wild fits unit units tame))

pub other_at : {A B : Type 0} (wild : A → Bool) (fits : A → B → Bool) (us : List A) (xs : List B) (unit : A) (units : List A) (item : B) (items : List B)
    → us ≡ unit ∷ units → xs ≡ item ∷ items → wild unit ≡ false → fits unit item ≡ false → is_match wild fits us xs ≡ false
other_at wild fits us xs unit units item items e f tame unfit = rw e (rw f (match_other wild fits unit units item items tame unfit))

pub wild_at : {A B : Type 0} (wild : A → Bool) (fits : A → B → Bool) (us : List A) (xs : List B) (unit : A) (units : List A)
    → us ≡ unit ∷ units → wild unit ≡ true → is_match wild fits us xs ≡ some_rest (is_match wild fits units) xs
wild_at wild fits us xs unit units e is_wild = rw e (match_wild wild fits unit units xs is_wild)

pub later_one_at : {A B : Type 0} (wild : A → Bool) (fits : A → B → Bool) (us : List A) (xs : List B) (unit : A) (units : List A) (item : B) (items : List B)
    → us ≡ unit ∷ units → xs ≡ item ∷ items → wild unit ≡ false
    → some_rest (is_match wild fits us) xs ≡ true → some_rest (is_match wild fits units) items ≡ true
later_one_at wild fits us xs unit units item items e f tame =
    rw e (rw f (later_behind wild fits unit units item items tame))

pub later_wild_at : {A B : Type 0} (wild : A → Bool) (fits : A → B → Bool) (us : List A) (xs : List B) (unit : A) (units : List A)
    → us ≡ unit ∷ units → wild unit ≡ true → some_rest (is_match wild fits us) xs ≡ true → some_rest (is_match wild fits units) xs ≡ true
later_wild_at wild fits us xs unit units e is_wild = rw e (later_at_wild wild fits unit units xs is_wild)

-- at the end of the units
pub end_at : {A B : Type 0} (wild : A → Bool) (fits : A → B → Bool) (us : List A) (xs : List B) → us ≡ [] → is_match wild fits us xs ≡ is_nothing xs
end_at wild fits us xs e = ap (λ units. is_match wild fits units xs) e

pub is_nothing-length : {B : Type 0} (xs : List B) → is_nothing xs ≡ (length xs == 0)
is_nothing-length [] = refl
is_nothing-length (x ∷ xs) = grind (arith, nat_tests)
