use Rattle.pana_laws.proofs.OneRun.{one_run}
use Rattle.pana_laws.proofs.laws.daemon_is_one_run.Goals as goal

pub returns : goal.returns
returns g c = one_run _ _ _ _
