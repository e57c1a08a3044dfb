use Rattle.pana_turn.proofs.Resting.{away}
use Rattle.pana_turn.proofs.laws.turn_has_seen_all.Goals as goal

pub returns : goal.returns
returns g c = away
