use Rattle.pana_hall.proofs.Words.{KeptRows, sym, ap, ◌∙◌}
use Rattle.pana_hall.proofs.Answered.{apart_is}
use Rattle.pana_hall.proofs.state.State.other_family.Goals as goal

pub returns : goal.returns
returns c =
    c.then_some.ensures
    ∙ apart_is c.args.self.now.journal.entries c.args.a c.args.b _ _ c.requires.accepted
    (sym c.lives.ensures ∙ c.if-not-lives.false)
    (sym c.lives-else-not-lives.ensures ∙ c.if-not-lives-2.false)
    (c.number.ensures ∙ ap (λ (k : KeptRows). k.number) c.family.ensures)
    (c.number-2.ensures ∙ ap (λ (k : KeptRows). k.number) c.family-2.ensures)
