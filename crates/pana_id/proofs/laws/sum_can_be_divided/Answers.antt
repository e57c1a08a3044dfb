use Rattle.pana_id.proofs.Divides.{sum_of_divides, parts_of_sum}
use Rattle.pana_id.proofs.laws.sum_can_be_divided.Goals as goal

pub returns-clause-divides : goal.returns-clause-divides
returns-clause-divides c = λ i j apart valid valid' some some'. sum_of_divides i j apart valid valid' some some'

pub returns-clause-depths : goal.returns-clause-depths
returns-clause-depths c = λ i j apart valid valid' some some'. parts_of_sum i j apart valid valid' some some'
