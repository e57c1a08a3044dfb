-- Which copies a hall says may be overwritten.
use Rattle.std.specs.Prelude.{◌≡◌, find, true, List, Option, Some}
use Rattle.pana_copies.specs.Places.{same_place}
use Rattle.pana_copies.specs.declared.place.Place.{Place}
use Rattle.pana_family.specs.Updates.{is_within}
use Rattle.pana_hall.specs.Living.{Copy}

-- the living copy at a place
abbrev pub copy_at : List Copy → Place → Option Copy
copy_at copies place = find (λ copy. same_place copy.place place) copies

-- the copy at a place is of one file with the one at another, and knows no change that this one doesn't know
pub record LosesNothing (copies : List Copy) (target source : Place) : Type 0 where
  pub copy : Copy
  pub other : Copy
  pub is_there : copy_at copies target ≡ Some copy
  pub other_there : copy_at copies source ≡ Some other
  pub one_file : copy.family ≡ other.family
  pub within : is_within copy.known.set other.known.set ≡ true
