use Rattle.pana_turn.proofs.Resting.{one_turn}
use Rattle.pana_turn.proofs.laws.one_at_a_time.Goals as goal

pub returns : goal.returns
returns g c = one_turn
