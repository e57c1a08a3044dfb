use Rattle.pana_rel.proofs.Counted.{newest_at}
use Rattle.pana_rel.proofs.rows.is_newest.Goals as goal

pub returns : goal.returns
returns c = newest_at c.args.rows.now c.args.counts.now c.args.at c.requires.counted c.requires.within
