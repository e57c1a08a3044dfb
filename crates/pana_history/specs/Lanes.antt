-- The lanes of a file's history: one for each of its copies.
use Rattle.std.specs.Prelude.{ℕ, nat_lt, Bool, true, false, List, filter, find, map, Option, option_map}
use Rattle.pana_copies.specs.declared.place.Place.{Place}
use Rattle.pana_journal.specs.declared.entry.Entry.{Entry}
use Rattle.pana_journal.specs.declared.report.Report.{Report}
use Rattle.pana_journal.specs.declared.report.Report.TheVariants.{Duplicate, Register}
use Rattle.pana_hall.specs.Effective.{effective, withdraws}
use Rattle.pana_hall.specs.Family.{entries_of, families}
use Rattle.pana_hall.specs.Living.{Copy, copies_of, copy_in}
use Rattle.pana_history.specs.declared.lane.Lane.{Lane}

-- the entries of a file, also those that are withdrawn
abbrev pub own_entries : List Entry → ℕ → List Entry
own_entries journal family = entries_of family (families journal) journal

-- whether a report makes a copy
abbrev pub makes_copy : Report → Bool
makes_copy (Register place sum) = true
makes_copy (Duplicate source place sum) = true
makes_copy _ = false

-- the numbers of the copies that these entries make, also where one is withdrawn
abbrev pub made_by : List Entry → List ℕ
made_by entries = map (λ entry. entry.number) (filter (λ entry. makes_copy entry.report) entries)

-- where the copy with this number is, if it is one of these
abbrev pub place_in : List Copy → ℕ → Option Place
place_in copies number = option_map (λ copy. copy.place) (copy_in copies number)

-- the lane of a copy, where these live
abbrev pub lane_in : List Copy → ℕ → Lane
lane_in copies number = record { copy = number; place = place_in copies number }

-- the lanes of a file, where these copies live
abbrev pub lanes_in : List Copy → List Entry → List Lane
lanes_in copies entries = map (lane_in copies) (made_by entries)

-- the copies that live before entry n, by the entries that count
abbrev pub copies_before : List Entry → ℕ → List Copy
copies_before journal n = copies_of (filter (λ entry. nat_lt entry.number n) (effective journal))

-- the number of the entry that withdraws entry n, where one does
abbrev pub withdrawal_of : List Entry → ℕ → Option ℕ
withdrawal_of entries n = option_map (λ entry. entry.number) (find (λ entry. withdraws n entry.report) entries)
