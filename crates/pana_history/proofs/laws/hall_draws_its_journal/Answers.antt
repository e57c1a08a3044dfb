use Rattle.pana_history.proofs.Whole.{drawn}
use Rattle.pana_history.proofs.laws.hall_draws_its_journal.Goals as goal

pub returns : goal.returns
returns c = drawn
