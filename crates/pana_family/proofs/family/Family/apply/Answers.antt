use Rattle.pana_family.proofs.Words.{nat_tests, arith}
use Rattle.pana_family.specs.View.{IsPrepared}
use Rattle.pana_family.proofs.Exacts.{left_of_ready}
use Rattle.pana_family.proofs.family.Family.apply.Goals as goal

pub exchange-requires-clause-kept : goal.exchange-requires-clause-kept
unfolding IsPrepared
exchange-requires-clause-kept c = grind (arith, nat_tests, left_of_ready, c.requires.made)

pub returns-clause-rows : goal.returns-clause-rows
unfolding IsPrepared
returns-clause-rows c = grind (arith, nat_tests, c.exchange.ensures.rows, c.requires.made.exact)
