-- Items of a list that are moved to another one by one, and the room that there is for them.
use Rattle.std.proofs.Common.{◌≡◌, ◌≤◌, ◌+◌, ℕ, suc, List, [], ◌∷◌, ◌++◌, length, length-append, map, arith, ap, sym, ◌∙◌, append_assoc, append-nil}
use Rattle.std.proofs.lemmas.List.{map-append, nil_from_length}

module _ {X Y : Type 0} (f : X → Y) where
  -- what was taken of the items so far, and what those have that are left: before the first one, behind one more, and once none is left
  pub taken_none : (old : List Y) (left whole : List X) → length old ≡ 0 → left ≡ whole → old ++ map f left ≡ map f whole
  taken_none old left whole none is = ap (λ (ys : List Y). ys ++ map f left) (nil_from_length old none) ∙ ap (map f) is

  pub taken_one : (x : X) (y : Y) (left rest whole : List X) (old new : List Y) → old ++ map f left ≡ map f whole → left ≡ x ∷ rest → new ≡ old ++ y ∷ [] → y ≡ f x → new ++ map f rest ≡ map f whole
  taken_one x y left rest whole old new so first more is =
      ap (λ (ys : List Y). ys ++ map f rest) more ∙ append_assoc old (y ∷ []) (map f rest) ∙ ap (λ (z : Y). old ++ z ∷ map f rest) is ∙ ap (λ (xs : List X). old ++ map f xs) (sym first) ∙ so

  pub taken_all : (left whole : List X) (old : List Y) → old ++ map f left ≡ map f whole → length left ≡ 0 → old ≡ map f whole
  taken_all left whole old so none = sym (append-nil old) ∙ ap (λ (xs : List X). old ++ map f xs) (sym (nil_from_length left none)) ∙ so

  -- what the items have that were made so far, and what is left: before the first one, behind one more, and once none is left
  pub made_none : (old : List X) (left whole : List Y) → length old ≡ 0 → left ≡ whole → map f old ++ left ≡ whole
  made_none old left whole none is = ap (λ (xs : List X). map f xs ++ left) (nil_from_length old none) ∙ is

  pub made_one : (x : X) (y : Y) (old new : List X) (left rest whole : List Y) → map f old ++ left ≡ whole → left ≡ y ∷ rest → new ≡ old ++ x ∷ [] → f x ≡ y → map f new ++ rest ≡ whole
  made_one x y old new left rest whole so first more is =
      ap (λ (xs : List X). map f xs ++ rest) more ∙ ap (λ (ys : List Y). ys ++ rest) (map-append f old (x ∷ [])) ∙ append_assoc (map f old) (f x ∷ []) rest
      ∙ ap (λ (z : Y). map f old ++ z ∷ rest) is ∙ ap (λ (ys : List Y). map f old ++ ys) (sym first) ∙ so

  pub made_all : (old : List X) (left whole : List Y) → map f old ++ left ≡ whole → length left ≡ 0 → map f old ≡ whole
  made_all old left whole so none = sym (append-nil (map f old)) ∙ ap (λ (ys : List Y). map f old ++ ys) (sym (nil_from_length left none)) ∙ so

-- there is room for all that are left: before the first one, and behind one more
pub room_first : {X Y : Type 0} (left whole : List X) (old : List Y) (room : ℕ) → length old ≡ 0 → left ≡ whole → length whole ≤ room → length old + length left ≤ room
room_first left whole old room none is fits = let same : length left ≡ length whole = ap length is in omega (arith, none, same, fits)

pub room_left : {X Y : Type 0} (x : X) (y : Y) (left rest : List X) (old new : List Y) (room kept : ℕ) → length old + length left ≤ room → left ≡ x ∷ rest → new ≡ old ++ y ∷ [] → kept ≡ room → length new + length rest ≤ kept
room_left x y left rest old new room kept fits first more same =
    let shorter : length left ≡ suc (length rest) = ap length first in
    let longer : length new ≡ length old + 1 = ap length more ∙ length-append old (y ∷ []) in
    omega (arith, fits, shorter, longer, same)
