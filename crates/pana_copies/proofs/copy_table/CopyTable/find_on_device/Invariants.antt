use Rattle.std.proofs.Common.{◌≡◌, ◌++◌, ◌-◌, length, filter_map}
use Rattle.pana_copies.specs.inner.Sides.{number_on, numbers_behind}
use Rattle.pana_copies.proofs.copy_table.CopyTable.find_on_device.Given as goal

abbrev pub invariant-loop-index : goal.invariant-loop-index
invariant-loop-index l = l.copies.items ++ numbers_behind l.device l.from l.self.spots l.at ≡ filter_map (number_on l.device l.from) l.self.spots

abbrev pub decreases-loop-index : goal.decreases-loop-index
decreases-loop-index l = length l.self.spots - l.at
