use Rattle.pana_id.proofs.Points.{disjoint_iff_apart}
use Rattle.pana_id.proofs.laws.disjoint_ids.Goals as goal

pub returns : goal.returns
returns c = λ i j v w. disjoint_iff_apart i j v w
