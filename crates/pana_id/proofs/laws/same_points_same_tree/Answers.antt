use Rattle.pana_id.proofs.Points.{same_tree}
use Rattle.pana_id.proofs.laws.same_points_same_tree.Goals as goal

pub returns : goal.returns
returns c = λ i j v w same. same_tree i j v w same
