use Rattle.pana_hall.proofs.Runs.{own_entries}
use Rattle.pana_hall.proofs.laws.own_entries_load.Goals as goal

pub returns : goal.returns
returns c = own_entries
