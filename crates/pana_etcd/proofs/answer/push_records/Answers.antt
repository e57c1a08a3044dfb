use Rattle.std.proofs.Common.{◌≡◌, ◌+◌, ◌<◌, [], ◌∷◌, ◌++◌, length, map, take, drop, refl, ap, sym, ◌∙◌, arith, None}
use Rattle.std.proofs.lemmas.Grind.{common_steps}
use Rattle.std.proofs.lemmas.List.{take_more, map-append}
use Rattle.serde_json.specs.View.{view}
use Rattle.pana_wire.proofs.DumpBack.{parted}
use Rattle.pana_etcd.specs.Answer.{record_at}
use Rattle.pana_etcd.proofs.Pages.{records_end, records_more}
use Rattle.pana_etcd.proofs.answer.push_records.Goals as goal

pub returns-in-Err-Other-clause-err : goal.returns-in-Err-Other-clause-err
returns-in-Err-Other-clause-err c =
    let kvs = c.args.kvs.now in
    let i = c.loop-index.index in
    let x = c.index-kvs-index.result in
    let within : i < length kvs = omega arith in
    let at : length (map view (take i kvs)) ≡ i = grind (arith, common_steps) in
    let split : map view kvs ≡ map view (take i kvs) ++ view x ∷ map view (drop (i + 1) kvs) = parted view kvs i x within ∙ rw (sym c.index-kvs-index.is) refl in
    let none : record_at c.args.name.now (c.args.number + i) (view x) ≡ None = rw c.in-Err-Other.field-0-is at c.in-Err-Other.ensures in
    rw split (records_end c.args.name.now c.args.number (map view (take i kvs)) (view x) (map view (drop (i + 1) kvs)) i c.loop-index.records.items at c.loop-index.invariant none)

pub loop-index-preserved : goal.loop-index-preserved
loop-index-preserved c =
    let kvs = c.args.kvs.now in
    let i = c.loop-index.index in
    let x = c.index-kvs-index.result in
    let within : i < length kvs = omega arith in
    let at : length (map view (take i kvs)) ≡ i = grind (arith, common_steps) in
    let items : c.push.new.self.items ≡ c.loop-index.records.items ++ c.in-Ok.record ∷ [] = grind (arith, common_steps) in
    let split : map view (take (i + 1) kvs) ≡ map view (take i kvs) ++ view x ∷ [] =
    ap (map view) (take_more kvs i x within) ∙ rw (sym c.index-kvs-index.is) (map-append view (take i kvs) (x ∷ [])) in
    rw (split, items) (records_more c.args.name.now c.args.number (map view (take i kvs)) (view x) i c.loop-index.records.items c.in-Ok.record at c.loop-index.invariant c.in-Ok.ensures)
