use Rattle.std.proofs.Common.{refl, arith, ap, sym, ◌∙◌, subst}
use mathlib.Core.Option.{some, some-injective}
use Rattle.pana_turn.specs.Closing.{Closes, HasAll}
use Rattle.pana_turn.specs.Passes.{DeskId, DeskView, NoteView}
use Rattle.pana_turn.proofs.Ending.{ended, first_of_desk, left_so, not_none}
use Rattle.pana_turn.proofs.desk.Desk.close.Goals as goal

pub index_mut-requires : goal.index_mut-requires
index_mut-requires g c =
    let passes = c.args.passes.items in
    let whole : HasAll c.self.inside.seats passes = subst (HasAll c.self.inside.seats) c.deref.ensures.value (c.if-not-has_all.ensures.all refl) in
    omega (arith, c.args.passes.ok.0, not_none c.self.inside.seats passes c.self.invariant.not_none whole)

pub note-requires : goal.note-requires
note-requires g c =
    let passes = c.args.passes.items in
    let whole : HasAll c.self.inside.seats passes = subst (HasAll c.self.inside.seats) c.deref.ensures.value (c.if-not-has_all.ensures.all refl) in
    first_of_desk c.args.self.id c.self.inside.seats passes c.index_mut.result.now c.index_mut.ensures.value c.self.invariant.not_none whole c.requires

pub gather-requires-clause-seat : goal.gather-requires-clause-seat
gather-requires-clause-seat g c =
    let passes = c.args.passes.items in
    let whole : HasAll c.self.inside.seats passes = subst (HasAll c.self.inside.seats) c.deref.ensures.value (c.if-not-has_all.ensures.all refl) in
    let desk_is = first_of_desk c.args.self.id c.self.inside.seats passes c.index_mut.result.now c.index_mut.ensures.value c.self.invariant.not_none whole c.requires in (
      ap (λ (n : NoteView _ _ _). n.desk) c.seat.view_is ∙ ap (λ (n : NoteView _ _ _). n.desk) c.note.ensures.note ∙ ap (λ (d : DeskId _). d.table) desk_is ∙ sym (ap (λ (d : DeskView _). d.id.table) c.self.view_is),
      c.seat.invariant,
    )

pub close_with-closed-requires : goal.close_with-closed-requires
close_with-closed-requires g c =
    let passes = c.args.passes.items in
    let whole : HasAll c.self.inside.seats passes = subst (HasAll c.self.inside.seats) c.deref.ensures.value (c.if-not-has_all.ensures.all refl) in
    let desk_is = first_of_desk c.args.self.id c.self.inside.seats passes c.index_mut.result.now c.index_mut.ensures.value c.self.invariant.not_none whole c.requires in
    c.gather.ensures.table.0 ∙ ap (λ (n : NoteView _ _ _). n.desk) c.seat.view_is ∙ ap (λ (n : NoteView _ _ _). n.desk) c.note.ensures.note ∙ ap (λ (d : DeskId _). d.table) desk_is ∙ sym (ap (λ (d : DeskView _). d.id.table) c.self.view_is)

pub unreachable-requires : goal.unreachable-requires
unreachable-requires g c =
    let passes = c.args.passes.items in
    let whole : HasAll c.self.inside.seats passes = subst (HasAll c.self.inside.seats) c.deref.ensures.value (c.if-not-has_all.ensures.all refl) in
    let end =
    ended g.M.Machine.step c.self.inside.seats c.self.inside.table.shared.key passes c.note.new.pass c.index_mut.result.now c.seat.inside.seat.me.0.seen _ _ c.gather.new.seat.id c.gather.new.seat.me.0
    c.self.invariant.rule_is c.note.ensures.pass c.index_mut.ensures.value whole (ap (λ me. me.0) c.gather.ensures.gathered) c.close_with-closed.ensures.values.2 in
    c.in_default.not-Some end.machine (some-injective _ _ (sym c.take.ensures.value ∙ end.slot))

pub returns-clause-closed : goal.returns-clause-closed
returns-clause-closed g c =
    let passes = c.args.passes.items in
    let whole : HasAll c.self.inside.seats passes = subst (HasAll c.self.inside.seats) c.deref.ensures.value (c.if-not-has_all.ensures.all refl) in
    let end =
    ended g.M.Machine.step c.self.inside.seats c.self.inside.table.shared.key passes c.note.new.pass c.index_mut.result.now c.seat.inside.seat.me.0.seen _ _ c.gather.new.seat.id c.gather.new.seat.me.0
    c.self.invariant.rule_is c.note.ensures.pass c.index_mut.ensures.value whole (ap (λ me. me.0) c.gather.ensures.gathered) c.close_with-closed.ensures.values.2 in
    let slot = c.take.ensures.value ∙ ap some c.in-Some.is in
    subst (λ (d : DeskView _). Closes g.M.Machine.step d.seats d.id.begun passes c.in-Some.machine c.word-calls.result) c.self.view_is
    (left_so g.M.Machine.step c.self.inside.seats c.self.inside.table.shared.key.begun passes _ _ c.in-Some.machine c.word-calls.result end slot c.word-calls.ensures)
