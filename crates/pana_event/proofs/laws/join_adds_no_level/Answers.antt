use Rattle.pana_event.proofs.Sound.{greatest-joined}
use Rattle.pana_event.proofs.laws.join_adds_no_level.Goals as goal

pub returns : goal.returns
returns c = greatest-joined
