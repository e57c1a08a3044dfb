-- The values say the records so far.
use Rattle.std.proofs.Common.{◌≡◌, length, map, take, Some}
use Rattle.pana_etcd.specs.Value.{value_says}
use Rattle.pana_etcd.proofs.request.values_of.Given as goal

abbrev pub invariant-loop-record : goal.invariant-loop-record
invariant-loop-record l = record {
  says : map value_says (map (λ value. value.items) l.values.items) ≡ map Some (take l.record-index l.group);
  length : length l.values.items ≡ l.record-index;
}
