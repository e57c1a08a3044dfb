use Rattle.std.proofs.Common.{List, inl, sym, ap, subst, ◌∙◌}
use Rattle.pana_journal.specs.declared.entry.Entry.{Entry}
use Rattle.pana_shared_store.specs.Store.{AreFirst, StoreView}
use Rattle.pana_shared_store.specs.inner.Groups.{shown}
use Rattle.pana_shared_store.proofs.Tried.{stays_same}
use Rattle.pana_shared_store.proofs.store.SharedStore.make.Goals as goal

pub returns-in-Err-clause-err : goal.returns-in-Err-clause-err
returns-in-Err-clause-err g c =
    let seen = g.L.SharedLog.seen c.self.inside.log in
    inl (stays_same g.L.SharedLog.is_known c.args.self.now.entries (shown c.remake.new.hall c.remake.new.kept) c.args.self.now.seen seen (c.remake.ensures.same ∙ ap (λ (v : StoreView). v.entries) c.self.view_is) (ap (λ (v : StoreView). v.seen) c.self.view_is)
    (λ known. subst (λ (l : List Entry). AreFirst l seen.records) (sym c.remake.ensures.same) (c.self.invariant known).first))
