use Rattle.pana_hall.proofs.Words.{arith, nat_tests}
use Rattle.pana_hall.proofs.state.State.content_by.Goals as goal

pub returns-in-Reconcile : goal.returns-in-Reconcile
returns-in-Reconcile c = grind (arith, nat_tests, c.agreed.ensures, c.in-Reconcile.is, c.sum.ensures, c.is_some.ensures, c.if-is_some.false)
