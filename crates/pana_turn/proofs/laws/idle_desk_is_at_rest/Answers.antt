use Rattle.pana_turn.proofs.Resting.{at_rest}
use Rattle.pana_turn.proofs.laws.idle_desk_is_at_rest.Goals as goal

pub returns : goal.returns
returns g c = at_rest
