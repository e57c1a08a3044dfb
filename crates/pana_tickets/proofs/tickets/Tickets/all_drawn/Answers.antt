use Rattle.std.proofs.Common.{arith, ap, sym, ◌∙◌}
use Rattle.pana_tickets.proofs.Steps.{looks}
use Rattle.pana_tickets.proofs.tickets.Tickets.all_drawn.Goals as goal

pub load-requires : goal.load-requires
load-requires c = (
  ap (λ s. s.id) c.whole.view_is ∙ c.requires.of ∙ sym (ap (λ t. t.id) c.self.view_is),
  (let words = c.self.invariant.0 in omega arith),
  looks _ _ _ _,
)
