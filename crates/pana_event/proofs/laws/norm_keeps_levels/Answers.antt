use Rattle.pana_event.proofs.Norms.{level-norm}
use Rattle.pana_event.proofs.laws.norm_keeps_levels.Goals as goal

pub returns : goal.returns
returns c = level-norm
