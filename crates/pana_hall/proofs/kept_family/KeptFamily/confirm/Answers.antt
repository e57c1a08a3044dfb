use Rattle.pana_hall.proofs.Words.{arith, nat_tests}
use Rattle.pana_hall.proofs.Histories.{kept_truncated, since_none, since_some}
use Rattle.pana_hall.proofs.kept_family.KeptFamily.confirm.Goals as goal

pub invariant_of-self : goal.invariant_of-self
invariant_of-self c = kept_truncated c.in-Some.at c.self.inside.family.room c.self.inside.family.rows c.self.inside.undo c.truncate_back.new.self c.truncate_back.ensures c.self.invariant

pub returns-in-Some : goal.returns-in-Some
returns-in-Some c = grind (arith, nat_tests, since_some, c.truncate_back.ensures, c.position_of.ensures, c.in-Some.is, c.self.view_is)

pub returns-in-None : goal.returns-in-None
returns-in-None c = grind (arith, nat_tests, since_none, c.self.view_is, c.position_of.ensures, c.in-None.is)
