use Rattle.std.proofs.Common.{◌≡◌, map, take}
use Rattle.std.specs.List.{IsDistinct}
use Rattle.std.specs.Map.{keys_of}
use Rattle.pana_sums.specs.Table.{same_signature}
use Rattle.pana_sums.specs.inner.Records.{row_in}
use Rattle.pana_sums.proofs.sum_table.SumTable.from_records.Given as goal

abbrev pub invariant-loop-record : goal.invariant-loop-record
invariant-loop-record l = record {
  rows : l.sums.entries ≡ map row_in (take l.record-index l.chunks);
  once : IsDistinct same_signature (keys_of l.sums.entries);
}
