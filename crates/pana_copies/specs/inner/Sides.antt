-- Two lists side by side as one list of spots.
use Rattle.std.specs.Prelude.{◌≡◌, ℕ, ◌+◌, nat_eq, nat_le, ◌&&◌, List, [], ◌∷◌, ◌++◌, length, drop, filter_map, slice_get, Option, Some, None, option_and_then, if◌then◌else◌}
use Rattle.std.specs.List.{IsDistinct}
use Rattle.std.specs.Map.{keys_of}
use Rattle.std.specs.Option.{option_to_list}
use Rattle.std.specs.Str.{bytes_eq}
use Rattle.pana_copies.specs.declared.place.Place.{Place}
use Rattle.pana_copies.specs.Places.{same_place}
use Rattle.pana_copies.specs.Spots.{Spot}

-- the spots of copies with their families, the place of each at the same index
abbrev pub spots_of : List (ℕ × ℕ) → List Place → List (ℕ × Spot)
spots_of [] places = []
spots_of (e ∷ families) [] = []
spots_of (e ∷ families) (place ∷ places) = (e.0, record { family = e.1; place = place }) ∷ spots_of families places

-- as many places as copies, and neither a copy nor a place twice
pub record IsEven (families : List (ℕ × ℕ)) (places : List Place) : Type 0 where
  pub long : length places ≡ length families
  pub copies_apart : IsDistinct nat_eq (keys_of families)
  pub places_apart : IsDistinct same_place places

-- the number of a copy, where it is kept on the device and isn't below this one
abbrev pub number_on : List ℕ → ℕ → ℕ × Spot → Option ℕ
number_on device from x = if bytes_eq x.1.place.device device && nat_le from x.0 then Some x.0 else None

-- the numbers of the copies on the device from an index on
abbrev pub numbers_behind : List ℕ → ℕ → List (ℕ × Spot) → ℕ → List ℕ
numbers_behind device from spots at = filter_map (number_on device from) (drop at spots)

-- from the one index up to the other stands no copy on the device
abbrev pub IsNextOn : List ℕ → ℕ → List (ℕ × Spot) → ℕ → ℕ → Type 0
IsNextOn device from spots at index = numbers_behind device from spots at ≡ option_to_list (option_and_then (number_on device from) (slice_get spots index)) ++ numbers_behind device from spots (index + 1)
