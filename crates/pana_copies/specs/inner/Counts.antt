-- How many copies each device has.
use Rattle.std.specs.Prelude.{◌≡◌, ℕ, ◌==◌, List, Option, None, Some, if◌then◌else◌, count_by}
use Rattle.std.specs.Map.{lookup}
use Rattle.std.specs.Option.{unwrap_or}
use Rattle.std.specs.Str.{bytes_eq}
use Rattle.pana_copies.specs.declared.place.Place.{Place}

-- the count that is kept for a device, or 0 where none is kept
abbrev pub counted : List (List ℕ × ℕ) → List ℕ → ℕ
counted counts device = unwrap_or (lookup (bytes_eq device) counts) 0

-- a count as it is kept: 0 is not kept
abbrev pub unless_zero : ℕ → Option ℕ
unless_zero count = if count == 0 then None else Some count

-- how many of the places are on the device
abbrev pub places_on : List ℕ → List Place → ℕ
places_on device places = count_by (λ place. bytes_eq device place.device) places

-- each device that has a place is kept with the number of its places, and no other device is kept
abbrev pub AreCounted : List (List ℕ × ℕ) → List Place → Type 0
AreCounted counts places = (device : List ℕ) → lookup (bytes_eq device) counts ≡ unless_zero (places_on device places)
