use Rattle.pana_event.proofs.Norms.{normal-norm}
use Rattle.pana_event.proofs.laws.norm_is_normal.Goals as goal

pub returns : goal.returns
returns c = normal-norm
