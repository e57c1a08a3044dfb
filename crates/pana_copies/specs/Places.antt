-- Whether two places are one.
use Rattle.std.specs.Prelude.{Bool, ◌&&◌}
use Rattle.std.specs.Str.{bytes_eq}
use Rattle.pana_copies.specs.declared.place.Place.{Place}

-- one device, and one path on it
abbrev pub same_place : Place → Place → Bool
same_place a b = bytes_eq a.device b.device && bytes_eq a.path b.path
