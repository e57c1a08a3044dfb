use Rattle.pana_hall.proofs.Words.{not, then_some, ap, sym, ◌∙◌, Settled}
use Rattle.pana_hall.proofs.Answered.{kept_pends, none_pending}
use Rattle.pana_hall.proofs.state.State.settled.Goals.{in-Some, in-None}
use Rattle.pana_hall.proofs.state.State.settled.Goals as goal

pub returns : goal.returns
returns c = elim c.match-entry.branch [
  | in-Some w ↦ w.result-is ∙ w.then_some.ensures ∙ ap (λ b. then_some (not b) Settled) (w.has_pending.ensures ∙ kept_pends c.args.self.now.journal.entries c.args.number _ w.family.ensures)
  | in-None w ↦ w.result-is ∙ ap (λ b. then_some (not b) Settled) (sym (none_pending c.args.self.now.journal.entries c.args.number c.requires.accepted (sym c.entry.ensures ∙ w.in-None.is)))
]
