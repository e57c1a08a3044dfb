use Rattle.std.proofs.Common.{List, ◌++◌, sym, ap, subst}
use Rattle.pana_journal.specs.declared.entry.Entry.{Entry}
use Rattle.pana_shared.specs.declared.record.Record.{Record}
use Rattle.pana_shared.specs.Log.{IsOneOf}
use Rattle.pana_shared_store.specs.Store.{entries_in}
use Rattle.pana_shared_store.proofs.Followed.{reads_none}
use Rattle.pana_shared_store.proofs.store.read_hall.Goals as goal

pub returns-in_default-clause-reads : goal.returns-in_default-clause-reads
returns-in_default-clause-reads g c known = reads_none (g.L.SharedLog.seen c.args.log.now)

pub read_on-requires-clause-first : goal.read_on-requires-clause-first
read_on-requires-clause-first g c known = (entries_in (g.L.SharedLog.seen c.args.log.now).records, ap (λ (l : List Entry). l ++ entries_in (g.L.SharedLog.seen c.args.log.now).records) (sym c.in-Ok.ensures))

pub read_on-requires-clause-some : goal.read_on-requires-clause-some
read_on-requires-clause-some g c known group one = absurd (subst (λ (l : List (List Record)). IsOneOf group l) (c.requires known).asked one)
