use Rattle.std.proofs.Common.{◌≡◌, take}
use Rattle.std.specs.Prelude.{filter}
use Rattle.pana_rel.specs.Pairs.{rel_of}
use Rattle.pana_rel.proofs.Boards.{none_newer}
use Rattle.pana_rel.proofs.pair_table.PairTable.newest.Given as goal

-- the newest copies before the place of the loop were found
abbrev pub invariant-loop-at : goal.invariant-loop-at
invariant-loop-at l = l.newest.items ≡ filter (none_newer (rel_of l.fn.self) l.fn.self.copies) (take l.at l.fn.self.copies)
