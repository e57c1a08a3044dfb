use Rattle.pana_hall.proofs.Words.{nat_tests, arith}
use Rattle.pana_hall.proofs.Histories.{first_and_rest, back_more}
use Rattle.pana_hall.proofs.kept_family.KeptFamily.withdraw.Goals as goal

pub invariant_of-self : goal.invariant_of-self
invariant_of-self c = grind (arith, nat_tests, first_and_rest, back_more, c.pop_front.ensures.value, c.in-Some.is, c.pop_front.ensures.items, c.take_back.ensures.rows, c.take_back.ensures.room, c.self.invariant)
