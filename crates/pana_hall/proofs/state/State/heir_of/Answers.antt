use Rattle.pana_hall.proofs.Words.{◌∙◌}
use Rattle.pana_hall.proofs.Decided.{heir_told}
use Rattle.pana_hall.proofs.state.State.heir_of.Goals as goal

pub returns : goal.returns
returns c = heir_told c.args.self.now.journal.entries c.args.copy c.as_slice.result.now c.heir_among.result c.requires.kept.accepted c.requires.lives (c.as_slice.ensures ∙ c.in_ok-relatives.ensures) c.heir_among.ensures
