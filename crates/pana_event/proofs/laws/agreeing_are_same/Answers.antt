use Rattle.pana_event.proofs.Points.{same-tree}
use Rattle.pana_event.proofs.laws.agreeing_are_same.Goals as goal

pub returns : goal.returns
returns c = same-tree 256
