use Rattle.std.proofs.Common.{◌<◌, arith, ap, sym, ◌∙◌, subst}
use Rattle.pana_tickets.specs.declared.hand.Hand.{Hand}
use Rattle.pana_tickets.proofs.Steps.{draws}
use Rattle.pana_tickets.proofs.tickets.Tickets.draw.Goals as goal

pub fetch_add-requires : goal.fetch_add-requires
fetch_add-requires c = (
  ap (λ s. s.id) c.share.view_is ∙ c.requires.of ∙ sym (ap (λ t. t.id) c.self.view_is),
  (let words = c.self.invariant.0 in omega arith),
  draws _ _ _ _ (subst (λ (h : Hand). h.missed < h.parts) (sym (ap (λ s. s.hand) c.share.view_is)) c.requires.room),
)
