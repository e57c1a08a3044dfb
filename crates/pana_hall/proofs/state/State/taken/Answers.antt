use Rattle.pana_hall.proofs.Words.{nat_tests, arith}
use Rattle.pana_hall.proofs.Answered.{taken_is}
use Rattle.pana_hall.proofs.state.State.taken.Goals as goal

pub returns-in-Some : goal.returns-in-Some
returns-in-Some c = grind (arith, nat_tests, c.in-Some.is, taken_is c.args.self.now.journal.entries c.args.self.now.copies c.args.place.now c.at.result c.requires.accepted c.requires.spots c.at.ensures)

pub returns-in-None : goal.returns-in-None
returns-in-None c = grind (arith, nat_tests, c.in-None.is, taken_is c.args.self.now.journal.entries c.args.self.now.copies c.args.place.now c.at.result c.requires.accepted c.requires.spots c.at.ensures)
