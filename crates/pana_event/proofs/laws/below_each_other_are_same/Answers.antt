use Rattle.pana_event.proofs.Sound.{same_below}
use Rattle.pana_event.proofs.laws.below_each_other_are_same.Goals as goal

pub returns : goal.returns
returns c = same_below
