use Rattle.pana_shared_laws.proofs.Shared.{one_history}
use Rattle.pana_shared_laws.proofs.laws.stores_have_one_history.Goals as goal

pub returns : goal.returns
returns g c known stores records share = one_history g.L.SharedLog.is_known known records stores share
