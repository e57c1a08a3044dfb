use Rattle.pana_history.proofs.Whole.{explained}
use Rattle.pana_history.proofs.laws.hall_is_asked_for_its_journal.Goals as goal

pub returns : goal.returns
returns c = explained
