use Rattle.std.proofs.Common.{arith, ap, sym, ◌∙◌, subst}
use Rattle.atomic_table.specs.Table.{Joins}
use Rattle.pana_turn.specs.Passes.{DeskId}
use Rattle.pana_turn.specs.declared.view.View.{View}
use Rattle.pana_turn.specs.Rule.{Keeps}
use Rattle.pana_turn.specs.inner.Views.{informed, spent}
use Rattle.pana_turn.proofs.Looking.{glances}
use Rattle.pana_turn.proofs.Joining.{informs}
use Rattle.pana_turn.proofs.desk.Desk.meet.Goals as goal

pub join_seat-requires : goal.join_seat-requires
join_seat-requires g c =
    let id = ap (λ d. d.id.table) c.self.view_is in
    let v = c.pass.inside.seat.me.0 in
    let asks : View _ _ _ → Type 0 = λ w. Joins (Keeps g.M.Machine.step c.self.inside.table.shared.key) c.pass.inside.seat.id v c.note.inside.seat.id w (informed v w) spent in (
      ap (λ p. p.desk.table) c.pass.view_is ∙ ap (λ (d : DeskId _). d.table) c.requires.pass ∙ sym id,
      ap (λ n. n.desk) c.note.view_is ∙ c.requires.note ∙ sym id,
      ap (λ me. me.1) c.note.invariant,
      (let words = c.self.invariant.words in omega arith),
      subst asks (sym (ap (λ me. me.0) c.note.invariant)) (informs _ _ _ _ c.note.inside.seat.me.0.seen (ap (λ me. me.0.stage) c.pass.invariant)),
    )

pub load-requires : goal.load-requires
load-requires g c =
    let joined = c.join_seat.ensures in (
      joined.0 ∙ ap (λ p. p.desk.table) c.pass.view_is ∙ ap (λ (d : DeskId _). d.table) c.requires.pass ∙ sym (ap (λ d. d.id.table) c.self.view_is),
      (let words = c.self.invariant.words in omega arith),
      glances _ _ _ _ (ap (λ me. me.0.stage) joined.2 ∙ ap (λ me. me.0.stage) c.pass.invariant),
    )
