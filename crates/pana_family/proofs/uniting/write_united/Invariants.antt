use Rattle.pana_family.proofs.Words.{◌≡◌, length, map, filter, take, is_other, row_relation}
use Rattle.pana_family.proofs.uniting.write_united.Given as goal

abbrev pub invariant-loop-other : goal.invariant-loop-other
invariant-loop-other l = record {
  count_is : l.count ≡ length (filter (is_other l.row.copy) (take l.other-index l.rows));
  rels_are : take l.count l.rels ≡ map (row_relation l.row) (filter (is_other l.row.copy) (take l.other-index l.rows));
}
