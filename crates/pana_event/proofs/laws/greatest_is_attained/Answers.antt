use Rattle.pana_event.proofs.Sound.{IsGreatestLevel-greatest}
use Rattle.pana_event.proofs.laws.greatest_is_attained.Goals as goal

pub returns : goal.returns
returns c = IsGreatestLevel-greatest
