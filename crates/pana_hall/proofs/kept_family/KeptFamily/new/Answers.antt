use Rattle.pana_hall.proofs.Words.{nat_tests, arith, empty_kept}
use Rattle.pana_hall.proofs.Histories.{kept_pushed}
use Rattle.pana_hall.proofs.kept_family.KeptFamily.new.Goals as goal

pub invariant_of-result : goal.invariant_of-result
invariant_of-result c = grind (arith, nat_tests, kept_pushed, empty_kept, c.in_ok-family.ensures.1, c.in_ok-undo.ensures, c.push_front.ensures.items)
