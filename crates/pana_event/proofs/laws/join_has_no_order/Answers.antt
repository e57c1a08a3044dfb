use Rattle.pana_event.proofs.Sound.{joined_comm}
use Rattle.pana_event.proofs.laws.join_has_no_order.Goals as goal

pub returns : goal.returns
returns c = joined_comm
