use Rattle.std.proofs.Common.{◌+◌, ◌<◌, arith, ap, sym, ◌∙◌, subst}
use Rattle.pana_tickets.specs.declared.hand.Hand.{Hand}
use Rattle.pana_tickets.proofs.Steps.{divides}
use Rattle.pana_tickets.proofs.tickets.Tickets.divide.Goals as goal

pub split_seat-requires : goal.split_seat-requires
split_seat-requires c = (
  ap (λ s. s.id) c.share.view_is ∙ c.requires.of ∙ sym (ap (λ t. t.id) c.self.view_is),
  (let words = c.self.invariant.0 in omega arith),
  divides _ _ _ (subst (λ (h : Hand). h.missed + 1 < h.parts) (sym (ap (λ s. s.hand) c.share.view_is)) c.requires.others),
)
