use Rattle.std.proofs.lemmas.Result.{IfOk-weaker}
use Rattle.pana_hall.proofs.Words.{◌∙◌}
use Rattle.pana_hall.proofs.Decided.{found_again_is}
use Rattle.pana_hall.proofs.state.State.found_again.Goals as goal

pub returns : goal.returns
returns c =
    IfOk-weaker c.again.result _ _ (λ made h. found_again_is c.args.self.now.journal.entries c.args.self.now.copies c.args.copy c.args.sum c.as_slice.result.now made c.requires.kept.accepted c.requires.kept.spots c.requires.lives
    (c.as_slice.ensures ∙ c.in_ok-relatives.ensures) h) c.again.ensures
