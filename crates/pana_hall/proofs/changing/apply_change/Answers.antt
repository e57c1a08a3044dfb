use Rattle.pana_hall.proofs.Words.{◌≡◌, sym, ◌∙◌, subst}
use Rattle.pana_hall.specs.inner.Listed.{IsPreparedAfter}
use Rattle.pana_hall.proofs.changing.apply_change.Goals as goal

pub returns-clause-behind : goal.returns-clause-behind
returns-clause-behind c = λ of second next other about after.
    let same : of ≡ c.unwrap.result = cc (sym about ∙ sym c.family_report.ensures ∙ c.unwrap.ensures) in
    c.apply.ensures.behind next second other (subst (λ f. IsPreparedAfter c.args.entry f next second other c.args.it.now) same after)
