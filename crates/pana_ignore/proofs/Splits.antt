-- A text from one separator to the next.
use Rattle.std.specs.Prelude.{ℕ, ◌+◌, ◌-◌, ◌==◌, ◌<◌, ◌≤◌, Bool, true, false, cond, List, [], ◌∷◌, ◌++◌, None, Some, suc, length, take, drop}
use Rattle.std.specs.List.{position_from}
use Rattle.std.proofs.Common.{◌≡◌, refl, sym, ◌∙◌, ap, arith, inl, inr, get_or}
use Rattle.std.proofs.Math.Seq.{drop-cons}
use Rattle.std.proofs.lemmas.List.{take-append-drop}
use Rattle.std.proofs.lemmas.Bool.{cond-true, cond-false, cases_Bool, eq-eqb, ne_eqb}
use Rattle.pana_ignore.specs.Match.{split, onto_first, is_nothing}

-- no separator is found
pub split-none : {A : Type 0} (test : A → Bool) (n : ℕ) (items : List A) → position_from test n items ≡ None → split test items ≡ items ∷ []
split-none test n [] h = refl
split-none test n (item ∷ items) h =
    elim (cases_Bool (test item)) [
      | inl is ↦ absurd (let e : Some n ≡ None = sym (cond-true (test item) (Some n) (position_from test (n + 1) items) is) ∙ h in cc)
      | inr isnt ↦
          let rest : position_from test (n + 1) items ≡ None = sym (cond-false (test item) (Some n) (position_from test (n + 1) items) isnt) ∙ h in
          cond-false (test item) ([] ∷ split test items) (onto_first item (split test items)) isnt ∙ ap (onto_first item) (split-none test (n + 1) items rest)
    ]

-- the first separator is found
pub split-some : {A : Type 0} (test : A → Bool) (n : ℕ) (items : List A) (at : ℕ) → position_from test n items ≡ Some at
    → (n ≤ at) × (split test items ≡ take (at - n) items ∷ split test (drop (at - n + 1) items))
split-some test n [] at h = absurd (cc)
split-some test n (item ∷ items) at h =
    elim (cases_Bool (test item)) [
      | inl is ↦
          let e : Some n ≡ Some at = sym (cond-true (test item) (Some n) (position_from test (n + 1) items) is) ∙ h in
          let same : n ≡ at = cc in
          let none : at - n ≡ 0 = omega arith in
          let one : at - n + 1 ≡ suc 0 = omega arith in
          (omega arith, cond-true (test item) ([] ∷ split test items) (onto_first item (split test items)) is ∙ rw one (rw none refl))
      | inr isnt ↦
          let rest : position_from test (n + 1) items ≡ Some at = sym (cond-false (test item) (Some n) (position_from test (n + 1) items) isnt) ∙ h in
          let later = split-some test (n + 1) items at rest in
          let one : at - n ≡ suc (at - (n + 1)) = omega (arith, later.0) in
          let two : at - n + 1 ≡ suc (at - (n + 1) + 1) = omega (arith, later.0) in
          (omega (arith, later.0), cond-false (test item) ([] ∷ split test items) (onto_first item (split test items)) isnt ∙ ap (onto_first item) later.1 ∙ rw two (rw one refl))
    ]

-- one list at least
pub is_nothing-onto_first : {A : Type 0} (item : A) (lists : List (List A)) → is_nothing (onto_first item lists) ≡ false
is_nothing-onto_first item [] = refl
is_nothing-onto_first item (first ∷ others) = refl

pub is_nothing-split : {A : Type 0} (test : A → Bool) (items : List A) → is_nothing (split test items) ≡ false
is_nothing-split test [] = refl
is_nothing-split test (item ∷ items) =
    elim (test item) as (λ b. is_nothing (cond b ([] ∷ split test items) (onto_first item (split test items))) ≡ false) [
      | true ↦ refl
      | false ↦ is_nothing-onto_first item (split test items)
    ]

-- at most one list more than items
length-onto_first : {A : Type 0} (item : A) (lists : List (List A)) → is_nothing lists ≡ false → length (onto_first item lists) ≡ length lists
length-onto_first item [] h = absurd (cc)
length-onto_first item (first ∷ others) h = refl

pub length-split : {A : Type 0} (test : A → Bool) (items : List A) → length (split test items) ≤ length items + 1
length-split test [] = omega arith
length-split test (item ∷ items) =
    let later = length-split test items in
    let same = length-onto_first item (split test items) (is_nothing-split test items) in
    elim (test item) as (λ b. length (cond b ([] ∷ split test items) (onto_first item (split test items))) ≤ length (item ∷ items) + 1) [
      | true ↦ omega (arith, later)
      | false ↦ omega (arith, later, same)
    ]

-- ---- from the end

onto_first-append : {A : Type 0} (item : A) (lists more : List (List A)) → is_nothing lists ≡ false → onto_first item (lists ++ more) ≡ onto_first item lists ++ more
onto_first-append item [] more h = absurd (cc)
onto_first-append item (first ∷ others) more h = refl

-- what stands before a separator and what stands behind it are split each by itself
pub split-append : {A : Type 0} (test : A → Bool) (before : List A) (separator : A) (behind : List A) → test separator ≡ true
    → split test (before ++ separator ∷ behind) ≡ split test before ++ split test behind
split-append test [] separator behind h = cond-true (test separator) ([] ∷ split test behind) (onto_first separator (split test behind)) h
split-append test (item ∷ before) separator behind h =
    let later = split-append test before separator behind h in
    elim (test item) as (λ b. cond b ([] ∷ split test (before ++ separator ∷ behind)) (onto_first item (split test (before ++ separator ∷ behind)))
    ≡ cond b ([] ∷ split test before) (onto_first item (split test before)) ++ split test behind) [
      | true ↦ ap (λ lists. [] ∷ lists) later
      | false ↦ ap (onto_first item) later ∙ onto_first-append item (split test before) (split test behind) (is_nothing-split test before)
    ]

-- one item more before a list without a separator
pub split-apart : {A : Type 0} (test : A → Bool) (item : A) (items : List A) → test item ≡ false → split test items ≡ items ∷ []
    → split test (item ∷ items) ≡ (item ∷ items) ∷ []
split-apart test item items isnt apart =
    cond-false (test item) ([] ∷ split test items) (onto_first item (split test items)) isnt ∙ ap (onto_first item) apart

cut-at : (text : List ℕ) (start : ℕ) → 0 < start → start ≤ length text → drop (start - 1) text ≡ get_or text (start - 1) 0 ∷ drop start text
cut-at text start some within =
    let next : suc (start - 1) ≡ start = omega arith in
    drop-cons text (start - 1) 0 (omega arith) ∙ ap (λ n. get_or text (start - 1) 0 ∷ drop n text) next

-- the last separator stands before `start`
pub split-at : (separator : ℕ) (text : List ℕ) (start : ℕ) → 0 < start → start ≤ length text → get_or text (start - 1) 0 ≡ separator
    → split (λ b. b == separator) text ≡ split (λ b. b == separator) (take (start - 1) text) ++ split (λ b. b == separator) (drop start text)
split-at separator text start some within is =
    let cut = cut-at text start some within ∙ ap (λ b. b ∷ drop start text) is in
    ap (split (λ b. b == separator)) (sym (take-append-drop (start - 1) text) ∙ ap (λ rest. take (start - 1) text ++ rest) cut)
    ∙ split-append (λ b. b == separator) (take (start - 1) text) separator (drop start text) (eq-eqb separator separator refl)

-- no separator stands there either
pub apart-at : (separator : ℕ) (text : List ℕ) (start : ℕ) → 0 < start → start ≤ length text → (get_or text (start - 1) 0 ≡ separator → ⊥)
    → split (λ b. b == separator) (drop start text) ≡ drop start text ∷ []
    → split (λ b. b == separator) (drop (start - 1) text) ≡ drop (start - 1) text ∷ []
apart-at separator text start some within isnt apart =
    rw (cut-at text start some within) (split-apart (λ b. b == separator) (get_or text (start - 1) 0) (drop start text) (ne_eqb (get_or text (start - 1) 0) separator isnt) apart)
