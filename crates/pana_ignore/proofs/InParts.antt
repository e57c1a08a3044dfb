-- Units match items where the items are parts in a row, one for each unit.
use Rattle.std.specs.Prelude.{Bool, true, false, List, [], ◌∷◌, ◌++◌}
use Rattle.std.proofs.Common.{◌≡◌, refl, sym, ◌∙◌, ap, inl, inr}
use Rattle.std.proofs.lemmas.Bool.{or_cases, or_right, and_parts, cond-false, cases_Bool, both_ways}
use Rattle.pana_ignore.specs.Match.{some_rest, first_and_rest, is_match, is_nothing}
use Rattle.pana_ignore.specs.laws.InParts.{InParts}
use Rattle.pana_ignore.proofs.Matches.{some_rest_here, match_wild, match_one}

-- a yes of some rest is one behind some items
behind_some : {B : Type 0} (test : List B → Bool) (items : List B) → some_rest test items ≡ true
    → (part : List B) × (rest : List B) × (items ≡ part ++ rest) × (test rest ≡ true)
behind_some test [] h = ([], [], refl, h)
behind_some test (item ∷ items) h =
    elim (or_cases (test (item ∷ items)) (some_rest test items) h) [
      | inl here ↦ ([], item ∷ items, refl, here)
      | inr later ↦
          let found = behind_some test items later in
          (item ∷ found.0, found.1, ap (λ all. item ∷ all) found.2, found.3)
    ]

some_behind : {B : Type 0} (test : List B → Bool) (part rest : List B) → test rest ≡ true → some_rest test (part ++ rest) ≡ true
some_behind test [] rest h = some_rest_here test rest h
some_behind test (item ∷ part) rest h = or_right (test (item ∷ (part ++ rest))) (some_rest test (part ++ rest)) (some_behind test part rest h)

nothing_is : {B : Type 0} (items : List B) → is_nothing items ≡ true → items ≡ []
nothing_is [] h = refl
nothing_is (item ∷ items) h = absurd (both_ways false refl h)

first_is : {B : Type 0} (fit : B → Bool) (test : List B → Bool) (items : List B) → first_and_rest fit test items ≡ true
    → (item : B) × (rest : List B) × (items ≡ item ∷ rest) × (fit item ≡ true) × (test rest ≡ true)
first_is fit test [] h = absurd (both_ways false refl h)
first_is fit test (item ∷ items) h = let both = and_parts (fit item) (test items) h in (item, items, refl, both.0, both.1)

pub parts_of_match : {A B : Type 0} (wild : A → Bool) (fits : A → B → Bool) (units : List A) (items : List B)
    → is_match wild fits units items ≡ true → InParts wild fits units items
parts_of_match wild fits [] items h = nothing_is items h
parts_of_match wild fits (unit ∷ units) items h =
    elim (cases_Bool (wild unit)) [
      | inl is_wild ↦
          let found = behind_some (is_match wild fits units) items (sym (match_wild wild fits unit units items is_wild) ∙ h) in
          (found.0, found.1, found.2, inl is_wild, parts_of_match wild fits units found.1 found.3)
      | inr tame ↦
          let found = first_is (fits unit) (is_match wild fits units) items
          (sym (cond-false (wild unit) (some_rest (is_match wild fits units) items) (first_and_rest (fits unit) (is_match wild fits units) items) tame) ∙ h) in
          (found.0 ∷ [], found.1, found.2, inr (tame, (found.0, refl, found.3)), parts_of_match wild fits units found.1 found.4)
    ]

pub match_of_parts : {A B : Type 0} (wild : A → Bool) (fits : A → B → Bool) (units : List A) (items : List B)
    → InParts wild fits units items → is_match wild fits units items ≡ true
match_of_parts wild fits [] items e = ap is_nothing e
match_of_parts wild fits (unit ∷ units) items (part, rest, e, stands, others) =
    let later = match_of_parts wild fits units rest others in
    ap (is_match wild fits (unit ∷ units)) e
    ∙ elim stands [
      | inl is_wild ↦ match_wild wild fits unit units (part ++ rest) is_wild ∙ some_behind (is_match wild fits units) part rest later
      | inr one ↦
          ap (λ p. is_match wild fits (unit ∷ units) (p ++ rest)) one.1.1
          ∙ match_one wild fits unit units one.1.0 rest one.0 one.1.2 ∙ later
    ]
