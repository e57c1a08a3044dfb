use Rattle.pana_id.proofs.Parts.{parted-parts, valid-parts, depth-parts-le, disjoint-parts, sum-parts}
use Rattle.pana_id.proofs.laws.parts_of_an_id.Goals as goal

pub returns-clause-parted : goal.returns-clause-parted
returns-clause-parted c = λ i test v. parted-parts i test v

pub returns-clause-valid : goal.returns-clause-valid
returns-clause-valid c = λ i test v. valid-parts i test v

pub returns-clause-depths : goal.returns-clause-depths
returns-clause-depths c = λ i. depth-parts-le i

pub returns-clause-disjoint : goal.returns-clause-disjoint
returns-clause-disjoint c = λ i. disjoint-parts i

pub returns-clause-sum : goal.returns-clause-sum
returns-clause-sum c = λ i normal. sum-parts i normal
