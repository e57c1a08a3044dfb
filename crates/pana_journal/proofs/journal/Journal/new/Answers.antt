use Rattle.std.proofs.Common.{ap}
use Rattle.pana_journal.specs.inner.Lines.{entries_kept}
use Rattle.pana_journal.proofs.journal.Journal.new.Goals as goal

pub returns : goal.returns
unfolding entries_kept
returns c = ap (entries_kept c.new.result.items c.new-3.result.items 1) c.new-4.ensures.items
