use Rattle.pana_family.proofs.Words.{nat_tests, arith}
use Rattle.pana_family.proofs.Following.{as_many}
use Rattle.pana_family.proofs.family.Family.reserve.Goals as goal

pub returns-clause-copy : goal.returns-clause-copy
returns-clause-copy c =
    let many = as_many c.self.inside.items.items c.self.inside.pairs.copies c.self.invariant.0.rising c.copies.ensures.rising c.self.invariant.1.copies in
    grind (arith, nat_tests, c.reserve.ensures.items, c.reserve-2.ensures.copies, c.reserve-2.ensures.room)
