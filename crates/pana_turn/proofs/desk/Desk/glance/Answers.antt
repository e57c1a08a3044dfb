use Rattle.std.proofs.Common.{arith, ap, sym, ◌∙◌}
use Rattle.pana_turn.specs.Passes.{DeskId}
use Rattle.pana_turn.proofs.Looking.{glances}
use Rattle.pana_turn.proofs.desk.Desk.glance.Goals as goal

pub load-requires : goal.load-requires
load-requires g c = (
  ap (λ p. p.desk.table) c.pass.view_is ∙ ap (λ (d : DeskId _). d.table) c.requires ∙ sym (ap (λ d. d.id.table) c.self.view_is),
  (let words = c.self.invariant.words in omega arith),
  glances _ _ _ _ (ap (λ me. me.0.stage) c.pass.invariant),
)
