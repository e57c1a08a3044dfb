-- Matching from the end: the last unit, where that isn't wild, is for the last item.
use Rattle.std.specs.Prelude.{Bool, true, false, ◌&&◌, ◌||◌, List, [], ◌∷◌, ◌++◌}
use Rattle.std.proofs.Common.{◌≡◌, refl, sym, ◌∙◌, ap, inl, inr}
use Rattle.std.proofs.lemmas.Bool.{cases_Bool, cond-false}
use Rattle.pana_ignore.specs.Match.{some_rest, is_match, first_and_rest, is_nothing}
use Rattle.pana_ignore.proofs.Matches.{match_none, match_wild}

and-false : (a : Bool) → (a && false) ≡ false
and-false true = refl
and-false false = refl

and-swap : (a b c : Bool) → (a && (b && c)) ≡ (b && (a && c))
and-swap true b c = refl
and-swap false true c = refl
and-swap false false c = refl

or-false : (a b : Bool) → a ≡ b → (a || false) ≡ b
or-false true b e = e
or-false false b e = e

and-or : (fit a b : Bool) → ((fit && a) || (fit && b)) ≡ (fit && (a || b))
and-or true a b = refl
and-or false a b = refl

is_nothing-push : {B : Type 0} (items : List B) (item : B) → is_nothing (items ++ item ∷ []) ≡ false
is_nothing-push [] item = refl
is_nothing-push (first ∷ items) item = refl

-- there is no last item
pub no_last : {A B : Type 0} (wild : A → Bool) (fits : A → B → Bool) (units : List A) (unit : A)
    → wild unit ≡ false → is_match wild fits (units ++ unit ∷ []) [] ≡ false
no_last wild fits [] unit tame = match_none wild fits unit [] tame
no_last wild fits (first ∷ units) unit tame =
    elim (cases_Bool (wild first)) [
      | inl is_wild ↦ match_wild wild fits first (units ++ unit ∷ []) [] is_wild ∙ no_last wild fits units unit tame
      | inr isnt ↦ match_none wild fits first (units ++ unit ∷ []) isnt
    ]

some_rest-last : {B : Type 0} (test before : List B → Bool) (fit : Bool) (items : List B) (item : B)
    → ((others : List B) → test (others ++ item ∷ []) ≡ (fit && before others)) → test [] ≡ false
    → some_rest test (items ++ item ∷ []) ≡ (fit && some_rest before items)
some_rest-last test before fit [] item each none = ap (λ b. test (item ∷ []) || b) none ∙ or-false (test (item ∷ [])) (fit && before []) (each [])
some_rest-last test before fit (first ∷ items) item each none =
    ap (λ b. b || some_rest test (items ++ item ∷ [])) (each (first ∷ items))
    ∙ ap (λ b. (fit && before (first ∷ items)) || b) (some_rest-last test before fit items item each none)
    ∙ and-or fit (before (first ∷ items)) (some_rest before items)

-- what isn't wild is for the first item
match_tame : {A B : Type 0} (wild : A → Bool) (fits : A → B → Bool) (unit : A) (units : List A) (items : List B)
    → wild unit ≡ false → is_match wild fits (unit ∷ units) items ≡ first_and_rest (fits unit) (is_match wild fits units) items
match_tame wild fits unit units items tame =
    cond-false (wild unit) (some_rest (is_match wild fits units) items) (first_and_rest (fits unit) (is_match wild fits units) items) tame

-- the last unit is for the last item, where that is so of the units behind the first, whatever items there are
wild_last : {A B : Type 0} (wild : A → Bool) (fits : A → B → Bool) (first : A) (units : List A) (unit : A) (items : List B) (item : B)
    → wild first ≡ true → wild unit ≡ false
    → ((others : List B) → is_match wild fits (units ++ unit ∷ []) (others ++ item ∷ []) ≡ (fits unit item && is_match wild fits units others))
    → is_match wild fits (first ∷ (units ++ unit ∷ [])) (items ++ item ∷ []) ≡ (fits unit item && is_match wild fits (first ∷ units) items)
wild_last wild fits first units unit items item is_wild tame each =
    match_wild wild fits first (units ++ unit ∷ []) (items ++ item ∷ []) is_wild
    ∙ some_rest-last (is_match wild fits (units ++ unit ∷ [])) (is_match wild fits units) (fits unit item) items item each (no_last wild fits units unit tame)
    ∙ ap (λ b. fits unit item && b) (sym (match_wild wild fits first units items is_wild))

match_last : {A B : Type 0} (wild : A → Bool) (fits : A → B → Bool) (units : List A) (unit : A) (items : List B) (item : B)
    → wild unit ≡ false → is_match wild fits (units ++ unit ∷ []) (items ++ item ∷ []) ≡ (fits unit item && is_match wild fits units items)
match_last wild fits [] unit [] item tame = match_tame wild fits unit [] (item ∷ []) tame
match_last wild fits [] unit (first ∷ items) item tame =
    match_tame wild fits unit [] (first ∷ (items ++ item ∷ [])) tame
    ∙ ap (λ b. fits unit first && b) (is_nothing-push items item) ∙ and-false (fits unit first) ∙ sym (and-false (fits unit item))
match_last wild fits (first ∷ units) unit [] item tame =
    elim (cases_Bool (wild first)) [
      | inl is_wild ↦ wild_last wild fits first units unit [] item is_wild tame (λ others. match_last wild fits units unit others item tame)
      | inr isnt ↦
          match_tame wild fits first (units ++ unit ∷ []) (item ∷ []) isnt
          ∙ ap (λ b. fits first item && b) (no_last wild fits units unit tame) ∙ and-false (fits first item)
          ∙ sym (ap (λ b. fits unit item && b) (match_none wild fits first units isnt) ∙ and-false (fits unit item))
    ]
match_last wild fits (first ∷ units) unit (one ∷ items) item tame =
    elim (cases_Bool (wild first)) [
      | inl is_wild ↦ wild_last wild fits first units unit (one ∷ items) item is_wild tame (λ others. match_last wild fits units unit others item tame)
      | inr isnt ↦
          match_tame wild fits first (units ++ unit ∷ []) (one ∷ (items ++ item ∷ [])) isnt
          ∙ ap (λ b. fits first one && b) (match_last wild fits units unit items item tame)
          ∙ and-swap (fits first one) (fits unit item) (is_match wild fits units items)
          ∙ ap (λ b. fits unit item && b) (sym (match_tame wild fits first units (one ∷ items) isnt))
    ]

-- ---- the same where units and items are known to end so

pub last_at : {A B : Type 0} (wild : A → Bool) (fits : A → B → Bool) (us : List A) (xs : List B) (units : List A) (unit : A) (items : List B) (item : B)
    → us ≡ units ++ unit ∷ [] → xs ≡ items ++ item ∷ [] → wild unit ≡ false → is_match wild fits us xs ≡ (fits unit item && is_match wild fits units items)
last_at wild fits us xs units unit items item e f tame = rw e (rw f (match_last wild fits units unit items item tame))

pub no_last_at : {A B : Type 0} (wild : A → Bool) (fits : A → B → Bool) (us : List A) (xs : List B) (units : List A) (unit : A)
    → us ≡ units ++ unit ∷ [] → xs ≡ [] → wild unit ≡ false → is_match wild fits us xs ≡ false
no_last_at wild fits us xs units unit e f tame = rw e (rw f (no_last wild fits units unit tame))
