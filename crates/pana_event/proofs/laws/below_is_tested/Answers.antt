use Rattle.pana_event.proofs.Sound.{leq_says}
use Rattle.pana_event.proofs.laws.below_is_tested.Goals as goal

pub returns : goal.returns
returns c = leq_says
