use Rattle.std.proofs.Common.{◌∙◌, sym, ap, subst}
use Rattle.pana_history.specs.inner.Alone.{IsFit, known_alone}
use Rattle.pana_history.proofs.Alone.{lacking_is}
use Rattle.pana_history.proofs.Asked.{if_ok}
use Rattle.pana_history.proofs.Fit.{fits}
use Rattle.pana_history.proofs.difference.difference_between.Goals as goal

pub compare-requires : goal.compare-requires
compare-requires c = subst IsFit (sym c.in_ok-entries.ensures) (fits c.args.journal c.args.family c.requires.accepted)

pub returns-clause-first : goal.returns-clause-first
returns-clause-first c =
    if_ok _ _ (λ found is. is ∙ ap (λ entries. known_alone entries c.args.a c.args.b) c.in_ok-entries.ensures ∙ lacking_is c.args.journal c.args.family c.args.a c.args.b c.requires.accepted c.requires.a c.requires.b) c.compare.result c.compare.ensures.first

pub returns-clause-second : goal.returns-clause-second
returns-clause-second c =
    if_ok _ _ (λ found is. is ∙ ap (λ entries. known_alone entries c.args.b c.args.a) c.in_ok-entries.ensures ∙ lacking_is c.args.journal c.args.family c.args.b c.args.a c.requires.accepted c.requires.b c.requires.a) c.compare.result c.compare.ensures.second
