use Rattle.pana_family.proofs.Words.{nat_tests, ◌∙◌, ap, arith, reverse}
use Rattle.pana_family.proofs.Inverses.{puts_reversed}
use Rattle.pana_family.proofs.change.exchange_back.Goals as goal

pub returns-clause-back : goal.returns-clause-back
returns-clause-back c = c.reverse.ensures.after ∙ ap reverse c.exchange_all.ensures.former

pub returns-clause-size : goal.returns-clause-size
returns-clause-size c = grind (arith, nat_tests, puts_reversed)
