use Rattle.pana_rel.proofs.Counted.{itself_counted}
use Rattle.pana_rel.proofs.rows.counts_of.Goals as goal

pub counts-requires : goal.counts-requires
counts-requires c = record { itself = itself_counted c.args.rows.now c.loop-at.at c.index-rows-at.result c.requires.wide c.requires.itself c.loop-at-test.true c.index-rows-at.is }
