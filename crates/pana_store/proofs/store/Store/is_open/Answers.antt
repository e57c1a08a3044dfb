-- What isn't kept waits.
use Rattle.std.proofs.Common.{List, sym, subst}
use Rattle.pana_journal.specs.declared.entry.Entry.{Entry}
use Rattle.pana_store.specs.Store.{StoreView, Waits}
use Rattle.pana_store.specs.inner.{waiting_of}
use Rattle.pana_store.proofs.Waiting.{all_entries}
use Rattle.pana_store.proofs.store.Store.is_open.Goals as goal

pub returns-clause-waits : goal.returns-clause-waits
returns-clause-waits g c =
    let it = c.self.inside in
    subst (λ (v : StoreView g.row.D.Denot). (waiting : List Entry) × Waits v waiting) c.self.view_is (waiting_of it.hall it.pending, sym (all_entries it.hall it.pending))
