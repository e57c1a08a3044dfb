use Rattle.std.proofs.Common.{◌≡◌, ◌+◌, ◌<◌, [], ◌∷◌, ◌++◌, length, map, take, drop, refl, ap, sym, ◌∙◌, arith}
use Rattle.std.proofs.lemmas.Grind.{common_steps}
use Rattle.std.proofs.lemmas.List.{take_more, map-append}
use Rattle.std.proofs.lemmas.Result.{err_from_is_err_and}
use Rattle.serde_json.specs.View.{view}
use Rattle.pana_wire.proofs.DumpBack.{entries_more, entries_fail, parted}
use Rattle.pana_wire.proofs.dump.entries_in.Goals as goal

pub returns-in_err-entry : goal.returns-in_err-entry
returns-in_err-entry c =
    let p = err_from_is_err_and c.from_residual.result c.from_residual.ensures.1 in
    let objects = c.args.objects.now in
    let i = c.loop-object.object-index in
    let x = c.object-item.result in
    let within : i < length objects = omega arith in
    let split : map view objects ≡ map view (take i objects) ++ view x ∷ map view (drop (i + 1) objects) = parted view objects i x within ∙ rw (sym c.object-item.is) refl in
    rw (p.1, p.2, split) (entries_fail (map view (take i objects)) (view x) (map view (drop (i + 1) objects)) c.loop-object.entries.items c.in_err-entry.field-0.0 c.loop-object.invariant c.in_err-entry.ensures)

pub loop-object-preserved : goal.loop-object-preserved
loop-object-preserved c =
    let objects = c.args.objects.now in
    let i = c.loop-object.object-index in
    let x = c.object-item.result in
    let within : i < length objects = omega arith in
    let items : c.push.new.self.items ≡ c.loop-object.entries.items ++ c.in_ok-entry.entry ∷ [] = grind (arith, common_steps) in
    let split : map view (take (i + 1) objects) ≡ map view (take i objects) ++ view x ∷ [] =
    ap (map view) (take_more objects i x within) ∙ rw (sym c.object-item.is) (map-append view (take i objects) (x ∷ [])) in
    rw (split, items) (entries_more (map view (take i objects)) (view x) c.loop-object.entries.items c.in_ok-entry.entry c.loop-object.invariant c.in_ok-entry.ensures)
