-- Places as they are named.
use Rattle.std.specs.Prelude.{ℕ, ◌==◌, ◌&&◌, Bool, List, ◌++◌, codes}
use Rattle.std.specs.List.{after_first, before_first}
use Rattle.pana_copies.specs.Names.{is_device, is_path}
use Rattle.pana_copies.specs.declared.place.Place.{Place}

-- a place as it is named: its device, a colon, its path
abbrev pub place_name : Place → List ℕ
place_name place = place.device ++ (codes ":" ++ place.path)

-- whether a text names a place: a device stands before its first colon, and a path behind that
abbrev pub is_place : List ℕ → Bool
is_place text = is_device (before_first (λ byte. byte == 58) text) && is_path (after_first (λ byte. byte == 58) text)

-- the line where no copy is at a place
abbrev pub unknown_line : Place → List ℕ
unknown_line place = codes "unknown: no copy is at " ++ (place_name place ++ codes "\n")
