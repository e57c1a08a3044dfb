-- Where copies are kept.
use Rattle.std.specs.Prelude.{◌≡◌, ◌↔◌, ℕ, ◌==◌, ◌<◌, ◌≤◌, true, List, [], ◌∷◌, length, Option, Some, option_map}
use Rattle.std.specs.List.{AllByRecursion, IsDistinct, list_any}
use Rattle.std.specs.Map.{lookup}
use Rattle.std.specs.Str.{bytes_eq}
use Rattle.pana_copies.specs.declared.place.Place.{Place}

-- the family of a copy, and the place where it is kept
pub record Spot : Type 0 where
  pub family : ℕ
  pub place : Place

-- a table of copies: the spot of each by its number, in no order that counts, and how many more copies need no memory
pub record Table : Type 0 where
  pub spots : List (ℕ × Spot)
  pub room : ℕ

-- the spot of the copy with this number, if it is kept
unfoldable pub kept : Table → ℕ → Option Spot
kept table copy = lookup (λ number. copy == number) table.spots

-- the place where the copy with this number is kept
abbrev pub place_of : Table → ℕ → Option Place
place_of table copy = option_map (λ spot. spot.place) (kept table copy)

-- the same spot at another place
abbrev pub placed : Place → Option Spot → Option Spot
placed place spot = option_map (λ s. record { family = s.family; place = place }) spot

-- the copy is kept at this path, on some device
abbrev pub HasPath : Table → List ℕ → ℕ → Type 0
HasPath table path copy = (place : Place) × (place_of table copy ≡ Some place) × (place.path ≡ path)

-- the copy is kept on this device, and its number isn't below this one
abbrev pub IsOnDevice : Table → List ℕ → ℕ → ℕ → Type 0
IsOnDevice table device from copy = (place : Place) × (place_of table copy ≡ Some place) × (place.device ≡ device) × (from ≤ copy)

-- a copy is kept on the device
abbrev pub HasDevice : Table → List ℕ → Type 0
HasDevice table device = (copy : ℕ) × (place : Place) × (place_of table copy ≡ Some place) × (place.device ≡ device)

-- these are the devices on which a copy is kept, none twice
pub record AreDevices (table : Table) (devices : List (List ℕ)) : Type 0 where
  pub once : IsDistinct bytes_eq devices
  pub those : (device : List ℕ) → (list_any (bytes_eq device) devices ≡ true) ↔ HasDevice table device

-- on so many devices a copy is kept
abbrev pub CountsDevices : Table → ℕ → Type 0
CountsDevices table count = (devices : List (List ℕ)) × AreDevices table devices × (count ≡ length devices)

-- each number is below all behind it
abbrev pub AreRising : List ℕ → Type 0
AreRising [] = Unit {0}
AreRising (x ∷ xs) = AllByRecursion (λ y. x < y) xs × AreRising xs
