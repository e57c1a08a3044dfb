use Rattle.pana_event.proofs.Sound.{IsJoin-joined}
use Rattle.pana_event.proofs.laws.join_has_greater_levels.Goals as goal

pub returns : goal.returns
returns c = IsJoin-joined
