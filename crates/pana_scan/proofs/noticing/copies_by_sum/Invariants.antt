use Rattle.std.proofs.Common.{◌≡◌, false, map, take}
use Rattle.std.specs.List.{All}
use Rattle.pana_scan.specs.inner.Takers.{CopiesWait}
use Rattle.pana_scan.proofs.noticing.copies_by_sum.Given as goal

abbrev pub invariant-loop-copy : goal.invariant-loop-copy
invariant-loop-copy l = CopiesWait l.rows.items (map (λ copy. copy.now) (take l.copy-index l.copies)) × All (λ row. row.is_taken ≡ false) l.rows.items
