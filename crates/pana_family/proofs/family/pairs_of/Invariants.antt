use Rattle.pana_family.proofs.Words.{take, ArePaired}
use Rattle.pana_family.proofs.family.pairs_of.Given as goal

abbrev pub invariant-loop-at : goal.invariant-loop-at
invariant-loop-at l = ArePaired (take l.at l.items) l.pairs
