use Rattle.pana_rel.proofs.Counted.{no_conflict}
use Rattle.pana_rel.proofs.rows.has_conflict.Goals as goal

pub returns : goal.returns
returns c none = no_conflict c.args.rows.now c.args.counts.now c.args.at c.requires.counted c.requires.wide c.requires.within none
