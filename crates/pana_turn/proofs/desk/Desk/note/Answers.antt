use Rattle.std.proofs.Common.{arith, ap, sym, ◌∙◌}
use Rattle.pana_turn.specs.Passes.{DeskId}
use Rattle.pana_turn.proofs.Dividing.{notes}
use Rattle.pana_turn.proofs.desk.Desk.note.Goals as goal

pub split_seat-requires : goal.split_seat-requires
split_seat-requires g c = (
  ap (λ p. p.desk.table) c.pass.view_is ∙ ap (λ (d : DeskId _). d.table) c.requires ∙ sym (ap (λ d. d.id.table) c.self.view_is),
  (let words = c.self.invariant.words in omega arith),
  notes _ _ _ (ap (λ me. me.0.stage) c.pass.invariant),
)
