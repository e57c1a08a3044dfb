-- When units match items, as a relation on the whole of them.
use Rattle.std.specs.Prelude.{◌≡◌, ◌⊎◌, ◌↔◌, ℕ, Bool, true, false, List, [], ◌∷◌, ◌++◌}
use Rattle.pana_ignore.specs.declared.piece.Piece.{Piece}
use Rattle.pana_ignore.specs.declared.part.Part.{Part}
use Rattle.pana_ignore.specs.Pattern.{is_star, fits_byte, is_name_match, is_folders, fits_name, is_path_match}

-- what stands for a unit: any items for a wild one, and for another one item that fits it
abbrev pub StandsFor : {A B : Type 0} → (A → Bool) → (A → B → Bool) → A → List B → Type 0
StandsFor {B = B} wild fits unit part = (wild unit ≡ true) ⊎ ((wild unit ≡ false) × ((item : B) × (part ≡ item ∷ []) × (fits unit item ≡ true)))

-- the items are parts in a row, one for each unit
abbrev pub InParts : {A B : Type 0} → (A → Bool) → (A → B → Bool) → List A → List B → Type 0
InParts wild fits [] items = items ≡ []
InParts {B = B} wild fits (unit ∷ units) items =
    (part : List B) × (rest : List B) × (items ≡ part ++ rest) × StandsFor wild fits unit part × InParts wild fits units rest

-- a name matches pieces where its bytes are parts in a row, one for each piece: any bytes for a star, and for another
-- piece one byte that fits it
abbrev pub NamesMatchInParts : Type 0
NamesMatchInParts = (pieces : List Piece) (name : List ℕ) → (is_name_match pieces name ≡ true) ↔ InParts is_star fits_byte pieces name

-- names match the parts of a pattern where they are parts in a row: any names for `**`, and for another part one name
-- that fits it
abbrev pub PathsMatchInParts : Type 0
PathsMatchInParts = (parts : List Part) (names : List (List ℕ)) → (is_path_match parts names ≡ true) ↔ InParts is_folders fits_name parts names
