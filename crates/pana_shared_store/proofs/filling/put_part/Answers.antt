use Rattle.std.proofs.Common.{refl}
use Rattle.pana_shared_store.specs.declared.placing.Placed.TheVariants.{Ours, Others, Full}
use Rattle.pana_shared_store.proofs.Filled.{may_fill, new_fill, only_read, others_there, put_there, unread_there, unused_fill}
use Rattle.pana_shared_store.proofs.Made.{placed_as}
use Rattle.pana_shared_store.proofs.filling.put_part.Goals as goal

pub place-requires-clause-may : goal.place-requires-clause-may
place-requires-clause-may g c known =
    let (start, done, before, even, next, filled) = c.requires.filled known in
    may_fill start done before _ filled _ _ c.writer.result even next c.args.part.now c.requires.some _ c.in-Ok.ensures (c.writer.ensures known)

pub place-requires-clause-other : goal.place-requires-clause-other
place-requires-clause-other g c known =
    let (start, done, before, even, next, filled) = c.requires.filled known in
    new_fill start done before _ filled _ _ c.writer.result even next c.args.part.now c.requires.some _ c.in-Ok.ensures (c.writer.ensures known)

pub place-requires-clause-unused : goal.place-requires-clause-unused
place-requires-clause-unused g c known =
    let (start, done, before, even, next, filled) = c.requires.filled known in
    unused_fill start done before _ filled _ _ c.writer.result even next c.args.part.now c.requires.some _ c.in-Ok.ensures (c.writer.ensures known)

pub returns-in-Ok-Ours-clause-ok : goal.returns-in-Ok-Ours-clause-ok
returns-in-Ok-Ours-clause-ok g c known start done before even next filled =
    put_there start done before _ filled _ _ c.writer.result even next c.args.part.now c.requires.some c.in-Ok.group.items c.in-Ok.ensures _
    (placed_as _ _ c.args.at c.in-Ok.group.items _ Ours c.in-Ok-Ours.field-0-is (c.in-Ok-Ours.ensures.ok known))

pub returns-in-Ok-Others-clause-err : goal.returns-in-Ok-Others-clause-err
returns-in-Ok-Others-clause-err g c known start done before even next filled left =
    others_there start done before _ filled _ _ c.writer.result even next c.args.part.now c.requires.some c.in-Ok.group.items c.in-Ok.ensures c.in-Ok-Others.page left _ _ refl
    (placed_as _ _ c.args.at c.in-Ok.group.items _ (Others c.in-Ok-Others.page) c.in-Ok-Others.field-0-is (c.in-Ok-Others.ensures.ok known))

pub returns-in-Ok-Full-clause-err : goal.returns-in-Ok-Full-clause-err
returns-in-Ok-Full-clause-err g c known start done before even next filled left =
    only_read start done before _ filled _ _ (placed_as _ _ c.args.at c.in-Ok.group.items _ Full c.in-Ok-Full.field-0-is (c.in-Ok-Full.ensures.ok known))

pub returns-in-Err-clause-err : goal.returns-in-Err-clause-err
returns-in-Err-clause-err g c known start done before even next filled left =
    unread_there start done before _ filled _ _ c.writer.result even next c.args.part.now c.requires.some c.in-Ok.group.items c.in-Ok.ensures left _ (c.in-Err.ensures.err known)
