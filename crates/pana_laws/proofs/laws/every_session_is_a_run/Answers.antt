use Rattle.pana_laws.proofs.SessionRun.{session_run}
use Rattle.pana_laws.proofs.laws.every_session_is_a_run.Goals as goal

pub returns : goal.returns
returns c = session_run
