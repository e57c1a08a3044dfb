use Rattle.std.proofs.Common.{◌<◌, arith, ap, sym, ◌∙◌, subst}
use Rattle.pana_tickets.specs.declared.hand.Hand.{Hand}
use Rattle.pana_tickets.proofs.Steps.{joins}
use Rattle.pana_tickets.proofs.tickets.Tickets.join.Goals as goal

pub join_seat-requires : goal.join_seat-requires
join_seat-requires c =
    let id = ap (λ t. t.id) c.self.view_is in (
      ap (λ s. s.id) c.share.view_is ∙ c.requires.of ∙ sym id,
      ap (λ s. s.id) c.other.view_is ∙ c.requires.other_of ∙ sym id,
      c.other.invariant,
      (let words = c.self.invariant.0 in omega arith),
      joins _ _ _ _ _ (subst (λ (h : Hand). 0 < h.parts) (sym (ap (λ s. s.hand) c.share.view_is)) c.requires.some),
    )
