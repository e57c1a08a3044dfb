use Rattle.pana_event.proofs.Sound.{joined_is_one}
use Rattle.pana_event.proofs.laws.join_is_one.Goals as goal

pub returns : goal.returns
returns c = joined_is_one
