-- That the names in reports, entries and replies are names of devices, paths and sums, as those of a program are by their types.
use Rattle.std.specs.Prelude.{◌≡◌, ℕ, List, Option, Some, None, true}
use Rattle.pana_copies.specs.Names.{is_device, is_path}
use Rattle.pana_copies.specs.Sums.{is_sum}
use Rattle.pana_copies.specs.declared.place.Place.{Place}
use Rattle.pana_journal.specs.declared.entry.Entry.{Entry}
use Rattle.pana_journal.specs.declared.report.Report.{Report}
use Rattle.pana_journal.specs.declared.report.Report.TheVariants.{Register, Duplicate, Edit, Reconcile, Merge, Relocate, Note}

-- of a place
abbrev pub HasPlaceNames : Place → Type 0
HasPlaceNames place = (is_device place.device ≡ true) × (is_path place.path ≡ true)

-- of a sum that may be given
abbrev pub IsSumOrNone : Option (List ℕ) → Type 0
IsSumOrNone None = Unit {0}
IsSumOrNone (Some sum) = is_sum sum ≡ true

-- of a report
abbrev pub HasNames : Report → Type 0
HasNames (Register place sum) = HasPlaceNames place × IsSumOrNone sum
HasNames (Duplicate copy place sum) = HasPlaceNames place × IsSumOrNone sum
HasNames (Edit copy sum) = IsSumOrNone sum
HasNames (Reconcile a b sum) = IsSumOrNone sum
HasNames (Merge a b sum) = IsSumOrNone sum
HasNames (Relocate copy place) = HasPlaceNames place
HasNames (Note copy sum) = is_sum sum ≡ true
HasNames _ = Unit {0}

-- of an entry
abbrev pub HasEntryNames : Entry → Type 0
HasEntryNames entry = (is_device entry.by ≡ true) × HasNames entry.report
