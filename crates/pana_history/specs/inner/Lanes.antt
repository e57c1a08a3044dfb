-- Lanes, as entries come.
use Rattle.std.specs.Prelude.{ℕ, ◌==◌, List, map, Option, Some, None, if◌then◌else◌}
use Rattle.pana_copies.specs.declared.place.Place.{Place}
use Rattle.pana_journal.specs.declared.report.Report.{Report}
use Rattle.pana_journal.specs.declared.report.Report.TheVariants.{Duplicate, Register, Relocate, Remove}
use Rattle.pana_history.specs.declared.lane.Lane.{Lane}

abbrev pub empty_lane : ℕ → Lane
empty_lane number = record { copy = number; place = None }

-- the lane, where the copy with this number is put at a place or taken away
abbrev pub put : ℕ → Option Place → Lane → Lane
put number place lane = if lane.copy == number then record { copy = number; place = place } else lane

-- the lanes behind entry n's report, which counts
abbrev pub lanes_after : ℕ → Report → List Lane → List Lane
lanes_after n (Register place sum) lanes = map (put n (Some place)) lanes
lanes_after n (Duplicate source place sum) lanes = map (put n (Some place)) lanes
lanes_after n (Relocate copy place) lanes = map (put copy (Some place)) lanes
lanes_after n (Remove copy heir) lanes = map (put copy None) lanes
lanes_after n _ lanes = lanes
