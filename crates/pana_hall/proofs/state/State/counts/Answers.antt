use Rattle.pana_hall.proofs.Counted.{counted}
use Rattle.pana_hall.proofs.state.State.counts.Goals as goal

pub returns : goal.returns
returns c = counted c.args.self.now.journal.entries c.args.self.now.copies c.requires.kept.accepted c.requires.kept.spots _ _ c.len.ensures.len c.len.ensures.once c.device_count.ensures
