-- Where the living copies are kept, and how reports change it.
use Rattle.std.specs.Prelude.{◌≡◌, ◌↔◌, ℕ, ◌==◌, List, Option, Some, None, IsSome, option_map, if◌then◌else◌}
use Rattle.pana_copies.specs.declared.place.Place.{Place}
use Rattle.pana_copies.specs.Spots.{Spot, Table, kept, place_of, placed}
use Rattle.pana_journal.specs.declared.report.Report.{Report}
use Rattle.pana_journal.specs.declared.report.Report.TheVariants.{Register, Duplicate, Relocate, Remove}
use Rattle.pana_calls.specs.declared.cause.Cause.{Cause}
use Rattle.pana_calls.specs.declared.cause.Cause.TheVariants.{PlaceTaken}
use Rattle.pana_hall.specs.Living.{Copy, copy_in}
use Rattle.pana_hall.specs.Refusal.{displaced}

abbrev pub spot_of : Copy → Spot
spot_of copy = record { family = copy.family; place = copy.place }

-- where the copy with this number is kept, if it lives
abbrev pub spot_in : List Copy → ℕ → Option Spot
spot_in copies number = option_map spot_of (copy_in copies number)

-- the number of the copy that entry n's report makes, moves or removes
abbrev pub mover : ℕ → Report → Option ℕ
mover n (Register place sum) = Some n
mover n (Duplicate source place sum) = Some n
mover n report = displaced report

-- where the report puts it, where it puts it somewhere
abbrev pub spot_to : ℕ → Report → (ℕ → Option Spot) → Option Spot
spot_to n (Register place sum) spots = Some (record { family = n; place = place })
spot_to n (Duplicate source place sum) spots = placed place (spots source)
spot_to n (Relocate copy place) spots = placed place (spots copy)
spot_to n _ spots = None

-- the spots, with another one for this number, if there is one
abbrev pub put : Option ℕ → Option Spot → (ℕ → Option Spot) → ℕ → Option Spot
put None spot spots number = spots number
put (Some copy) spot spots number = if number == copy then spot else spots number

-- where each copy is kept once entry n's report is accepted
abbrev pub spot_after : ℕ → Report → (ℕ → Option Spot) → ℕ → Option Spot
spot_after n report spots = put (mover n report) (spot_to n report spots) spots

-- no copy is kept at the place
abbrev pub IsFree : Place → Table → Type 0
IsFree place table = (number : ℕ) → ¬ (place_of table number ≡ Some place)

-- no other copy is kept at the place
abbrev pub IsFreeFor : ℕ → Place → Table → Type 0
IsFreeFor copy place table = (number : ℕ) → place_of table number ≡ Some place → number ≡ copy

-- the place that a report gives a copy, if it does
abbrev pub place_in : Report → Option Place
place_in (Register place sum) = Some place
place_in (Duplicate source place sum) = Some place
place_in (Relocate copy place) = Some place
place_in _ = None

-- the copy that entry n's report makes, moves or removes can be kept as it says, in this family
abbrev pub CanPlace : ℕ → Report → ℕ → Table → Type 0
CanPlace n (Register place sum) family table = (kept table n ≡ None) × IsFree place table × (family ≡ n)
CanPlace n (Duplicate source place sum) family table = (kept table n ≡ None) × IsFree place table × (Some (record { family = family; place = place }) ≡ placed place (kept table source))
CanPlace n (Relocate copy place) family table = IsSome (kept table copy) × IsFreeFor copy place table
CanPlace n (Remove copy heir) family table = IsSome (kept table copy)
CanPlace n _ family table = Unit {0}

-- where each copy is kept once entry n's report is undone: its copy goes back to the old place, in its family
abbrev pub undone_spot : ℕ → Report → ℕ → Option Place → Table → ℕ → Option Spot
undone_spot n report family back table = put (mover n report) (option_map (λ p. record { family = family; place = p }) back) (kept table)

-- a copy that is moved back: it is kept in the family, and no other copy has the old place
pub record CanMove (family : ℕ) (copy : ℕ) (back : Option Place) (table : Table) : Type 0 where
  pub place : Place
  pub back_is : back ≡ Some place
  pub from : Place
  pub lives : kept table copy ≡ Some (record { family = family; place = from })
  pub free : IsFreeFor copy place table

-- a copy that is put back: it isn't kept, and no copy has the old place
pub record CanReturn (copy : ℕ) (back : Option Place) (table : Table) : Type 0 where
  pub place : Place
  pub back_is : back ≡ Some place
  pub gone : kept table copy ≡ None
  pub free : IsFree place table

-- entry n's report can be undone
abbrev pub CanUndo : ℕ → Report → ℕ → Option Place → Table → Type 0
CanUndo n (Register place sum) family back table = (back ≡ None) × IsSome (kept table n)
CanUndo n (Duplicate source place sum) family back table = (back ≡ None) × IsSome (kept table n)
CanUndo n (Relocate copy place) family back table = CanMove family copy back table
CanUndo n (Remove copy heir) family back table = CanReturn copy back table
CanUndo n _ family back table = Unit {0}

-- the copy that is kept at a place
abbrev pub IsThere : Table → Place → Option ℕ → Type 0
IsThere table place found = (copy : ℕ) → (found ≡ Some copy) ↔ (place_of table copy ≡ Some place)

-- another copy than this one is there
abbrev pub other_there : ℕ → Option ℕ → Option Cause
other_there copy None = None
other_there copy (Some number) = if number == copy then None else Some (PlaceTaken number)
