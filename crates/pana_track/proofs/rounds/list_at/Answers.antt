use Rattle.pana_track.proofs.Listed.{list_at}
use Rattle.pana_track.proofs.rounds.list_at.Goals as goal

pub returns : goal.returns
returns c = list_at c.args.first c.min.result c.args.notices.now c.min.ensures
