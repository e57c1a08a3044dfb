-- Bytes by which the copies of a device are found.
use Rattle.std.specs.Prelude.{◌≡◌, ℕ, ◌+◌, ◌*◌, ◌%◌, List, fold, map}
use Rattle.pana_copies.specs.declared.place.Place.{Place}

-- a byte that depends on all bytes of a device's name
unfoldable pub mark_of : List ℕ → ℕ
mark_of device = fold (λ mark byte. (mark * 31 % 256 + byte) % 256) 0 device

-- the byte of each place's device
abbrev pub AreMarks : List ℕ → List Place → Type 0
AreMarks marks places = marks ≡ map (λ place. mark_of place.device) places
