use Rattle.pana_event.proofs.Sound.{IsSound-joined}
use Rattle.pana_event.proofs.laws.join_keeps_limits.Goals as goal

pub returns : goal.returns
returns c = IsSound-joined
