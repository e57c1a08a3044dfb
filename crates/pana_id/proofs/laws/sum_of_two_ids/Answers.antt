use Rattle.pana_id.proofs.Sums.{summed-sum, valid-sum, depth-sum}
use Rattle.pana_id.proofs.laws.sum_of_two_ids.Goals as goal

pub returns-clause-summed : goal.returns-clause-summed
returns-clause-summed c = λ i j v w. summed-sum i j v w

pub returns-clause-valid : goal.returns-clause-valid
returns-clause-valid c = λ i j v w. valid-sum i j v w

pub returns-clause-depths : goal.returns-clause-depths
returns-clause-depths c = λ i j. depth-sum i j
