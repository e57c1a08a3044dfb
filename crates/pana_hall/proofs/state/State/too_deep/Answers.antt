use Rattle.pana_hall.proofs.Words.{KeptRows, lives, sym, ap, ◌∙◌}
use Rattle.pana_hall.proofs.Stood.{rows_living}
use Rattle.pana_hall.proofs.state.State.too_deep.Goals as goal

pub splits-requires : goal.splits-requires
splits-requires c =
    ap (λ (k : KeptRows). lives k.rows c.args.number) c.family.ensures
    ∙ rows_living c.args.self.now.journal.entries c.args.number c.requires.accepted
    ∙ sym c.lives.ensures
    ∙ c.if-not-lives.false
