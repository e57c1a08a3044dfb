-- The records are those of the keys so far.
use Rattle.std.proofs.Common.{◌≡◌, map, take, Ok}
use Rattle.serde_json.specs.View.{view}
use Rattle.pana_etcd.specs.Answer.{records_from}
use Rattle.pana_etcd.proofs.answer.push_records.Given as goal

abbrev pub invariant-loop-index : goal.invariant-loop-index
invariant-loop-index l = records_from l.name l.number (map view (take l.index l.kvs)) ≡ Ok l.records.items
