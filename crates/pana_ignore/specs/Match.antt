-- When units match items: the pieces of a name its bytes, and the parts of a pattern the names of a path.
use Rattle.std.specs.Prelude.{Bool, true, false, ◌&&◌, ◌||◌, if◌then◌else◌, List, [], ◌∷◌}

-- the test holds of these items, or of those that are left behind some of the first
abbrev pub some_rest : {B : Type 0} → (List B → Bool) → List B → Bool
some_rest test [] = test []
some_rest test (item ∷ items) = test (item ∷ items) || some_rest test items

-- there is a first item, it passes the one test, and those behind it pass the other
abbrev pub first_and_rest : {B : Type 0} → (B → Bool) → (List B → Bool) → List B → Bool
first_and_rest fits test [] = false
first_and_rest fits test (item ∷ items) = fits item && test items

-- nothing is left
abbrev pub is_nothing : {B : Type 0} → List B → Bool
is_nothing [] = true
is_nothing (item ∷ items) = false

-- the items are those of each unit in turn: of a wild one any number of them, of any other one that fits it
abbrev pub is_match : {A B : Type 0} → (A → Bool) → (A → B → Bool) → List A → List B → Bool
is_match wild fits [] items = is_nothing items
is_match wild fits (unit ∷ units) items =
    if wild unit then some_rest (is_match wild fits units) items else first_and_rest (fits unit) (is_match wild fits units) items

-- the item at the head of the first list
abbrev pub onto_first : {A : Type 0} → A → List (List A) → List (List A)
onto_first item [] = (item ∷ []) ∷ []
onto_first item (first ∷ others) = (item ∷ first) ∷ others

-- the items before the first that the test holds of, those between it and the next, and so on up to the last
abbrev pub split : {A : Type 0} → (A → Bool) → List A → List (List A)
split test [] = [] ∷ []
split test (item ∷ items) = if test item then [] ∷ split test items else onto_first item (split test items)
