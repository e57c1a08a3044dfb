use Rattle.pana_family.proofs.Words.{nat_tests, arith}
use Rattle.pana_family.proofs.{Copies.lives_from, Following.all_followed, Following.none_left, Following.numbers_left}
use Rattle.pana_family.proofs.comparing.compare_copies.Goals as goal
use Rattle.pana_family.proofs.comparing.compare_copies.Goals.{then-lives, else-lives}

pub loop-new-preserved : goal.loop-new-preserved
loop-new-preserved c = grind (arith, nat_tests, numbers_left, then-lives, else-lives, lives_from)

pub returns-clause-paired : goal.returns-clause-paired
returns-clause-paired c = grind (arith, nat_tests, all_followed, none_left)
