use Rattle.std.proofs.Common.{◌≡◌, ◌++◌, map}
use Rattle.std.specs.List.{flat_map}
use Rattle.std.specs.Map.Iter.{deref_pair}
use Rattle.pana_sums.specs.File.{head, record_of}
use Rattle.pana_sums.proofs.sum_table.SumTable.to_bytes.Given as goal

abbrev pub invariant-loop-signature : goal.invariant-loop-signature
invariant-loop-signature l = l.bytes.items ≡ head ++ flat_map record_of (map deref_pair l.yielded)
