use Rattle.pana_hall.proofs.Words.{◌∙◌}
use Rattle.pana_hall.proofs.Decided.{source_is}
use Rattle.pana_hall.proofs.state.State.source_of.Goals as goal

pub returns : goal.returns
returns c = c.best.ensures ∙ source_is c.args.self.now.journal.entries c.args.place.now c.args.sum.now c.as_slice.result.now c.requires.accepted (c.as_slice.ensures.value ∙ c.in_ok-copies.ensures)
