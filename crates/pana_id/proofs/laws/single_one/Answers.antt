use Rattle.pana_id.proofs.Single.{single_iff_ones}
use Rattle.pana_id.proofs.Parts.{depth-single}
use Rattle.pana_id.proofs.laws.single_one.Goals as goal

pub returns-clause-ones : goal.returns-clause-ones
returns-clause-ones c = λ i at normal. single_iff_ones i at normal

pub returns-clause-deepest : goal.returns-clause-deepest
returns-clause-deepest c = λ i at test. depth-single i at test
