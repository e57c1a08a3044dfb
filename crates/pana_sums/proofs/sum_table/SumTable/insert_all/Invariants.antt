use Rattle.std.proofs.Common.{◌≡◌, map}
use Rattle.std.specs.Map.Iter.{deref_pair}
use Rattle.pana_sums.specs.Table.{all_inserted}
use Rattle.pana_sums.proofs.sum_table.SumTable.insert_all.Given as goal

abbrev pub invariant-loop-signature : goal.invariant-loop-signature
invariant-loop-signature l = l.self ≡ all_inserted l.fn.self (map deref_pair l.yielded)
