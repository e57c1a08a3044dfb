use Rattle.pana_family.proofs.Words.{arith, nat_tests}
use Rattle.pana_family.proofs.{Places.rising_dropped, Inverses.row_dropped}
use Rattle.pana_family.proofs.change.exchange_one.Goals as goal

pub returns-in-Take-clause-rows : goal.returns-in-Take-clause-rows
returns-in-Take-clause-rows c = cc (c.take_row.ensures.items, row_dropped c.in-Take.number c.args.items.now.items, c.in-Take.is)

pub returns-in-Take-clause-rising : goal.returns-in-Take-clause-rising
returns-in-Take-clause-rising c = grind (arith, nat_tests, rising_dropped)
