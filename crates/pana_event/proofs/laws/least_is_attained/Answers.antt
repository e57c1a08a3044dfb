use Rattle.pana_event.proofs.Sound.{IsLeastLevel-least}
use Rattle.pana_event.proofs.Levels.{least-normal}
use Rattle.pana_event.proofs.laws.least_is_attained.Goals as goal

pub returns : goal.returns
returns c = λ e shallow. (IsLeastLevel-least e shallow, least-normal e)
