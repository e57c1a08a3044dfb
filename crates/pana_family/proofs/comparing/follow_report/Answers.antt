use Rattle.pana_family.proofs.Words.{List, ap, arith, length, subst, sym, FamilyReport, StampRow, after, ArePaired, IsMade, copy_rows}
use Rattle.pana_family.proofs.Followed.{duplicate_paired, duplicate_room, edit_paired, new_copy}
use Rattle.pana_family.proofs.{Removed.removed_paired, United.merge_uniting, United.reconcile_uniting}
use Rattle.pana_family.proofs.comparing.follow_report.Goals as goal

pub insert_like-requires-clause-room : goal.insert_like-requires-clause-room
insert_like-requires-clause-room c =
    let m = subst (λ (r : FamilyReport). IsMade c.args.entry r (after c.args.back.now c.args.rows.now) c.args.rows.now) c.in-Duplicate.is c.requires.made in
    omega (arith, duplicate_room c.args.entry c.in-Duplicate.source _ c.args.pairs.now m.ready c.requires.paired c.copies.ensures.rising, ap (λ (l : List StampRow). length (copy_rows l)) m.exact, c.requires.room)

pub insert_like-requires-clause-new : goal.insert_like-requires-clause-new
insert_like-requires-clause-new c = new_copy c.args.entry c.args.report _ c.args.pairs.now c.requires.made.ready c.requires.paired

pub returns-in-Edit-clause-paired : goal.returns-in-Edit-clause-paired
returns-in-Edit-clause-paired c =
    let m = subst (λ (r : FamilyReport). IsMade c.args.entry r (after c.args.back.now c.args.rows.now) c.args.rows.now) c.in-Edit.is c.requires.made in
    subst (λ (l : List StampRow). ArePaired l c.edited.new.self) (sym m.exact)
    (edit_paired c.args.entry c.in-Edit.copy _ c.args.pairs.now c.edited.new.self m.ready c.requires.paired c.edited.ensures.copies c.edited.ensures.pairs)

pub returns-in-Duplicate-clause-paired : goal.returns-in-Duplicate-clause-paired
returns-in-Duplicate-clause-paired c =
    let m = subst (λ (r : FamilyReport). IsMade c.args.entry r (after c.args.back.now c.args.rows.now) c.args.rows.now) c.in-Duplicate.is c.requires.made in
    subst (λ (l : List StampRow). ArePaired l c.insert_like.new.self) (sym m.exact)
    (duplicate_paired c.args.entry c.in-Duplicate.source _ c.args.pairs.now c.insert_like.new.self m.ready c.requires.paired c.copies.ensures.itself c.insert_like.ensures.copies c.insert_like.ensures.pairs)

pub returns-in-Remove-clause-room : goal.returns-in-Remove-clause-room
returns-in-Remove-clause-room c = omega (arith, c.drop_copy.ensures.room, c.drop_copy.ensures.count)

pub returns-in-Remove-clause-paired : goal.returns-in-Remove-clause-paired
returns-in-Remove-clause-paired c =
    let m = subst (λ (r : FamilyReport). IsMade c.args.entry r (after c.args.back.now c.args.rows.now) c.args.rows.now) c.in-Remove.is c.requires.made in
    removed_paired c.args.entry _ _ _ c.args.rows.now c.args.pairs.now c.drop_copy.new.self m.ready m.exact c.requires.paired c.drop_copy.ensures.copies c.drop_copy.ensures.pairs

pub follow_union-requires-clause-uniting : goal.follow_union-requires-clause-uniting
follow_union-requires-clause-uniting c =
    let m = subst (λ (r : FamilyReport). IsMade c.args.entry r (after c.args.back.now c.args.rows.now) c.args.rows.now) c.in-Reconcile.is c.requires.made in
    reconcile_uniting c.args.entry c.in-Reconcile.a c.in-Reconcile.b _ c.args.rows.now c.args.pairs.now m.ready m.exact c.requires.paired

pub follow_union-requires-in-Merge-clause-uniting : goal.follow_union-requires-in-Merge-clause-uniting
follow_union-requires-in-Merge-clause-uniting c =
    let m = subst (λ (r : FamilyReport). IsMade c.args.entry r (after c.args.back.now c.args.rows.now) c.args.rows.now) c.in-Merge.is c.requires.made in
    merge_uniting c.args.entry c.in-Merge.a c.in-Merge.b _ c.args.rows.now c.args.pairs.now m.ready m.exact c.requires.paired
