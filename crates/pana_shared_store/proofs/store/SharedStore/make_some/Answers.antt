use Rattle.std.proofs.Common.{List, sym, ap, subst, ◌∙◌}
use Rattle.pana_journal.specs.declared.entry.Entry.{Entry}
use Rattle.pana_calls.proofs.Calls.{on_err}
use Rattle.pana_shared_store.specs.Store.{AreFirst, StoreView}
use Rattle.pana_shared_store.specs.inner.Groups.{GroupsNot, moment, moment_of, shown}
use Rattle.pana_shared_store.proofs.Grouped.{stays_not}
use Rattle.pana_shared_store.proofs.Tried.{stays_same}
use Rattle.pana_shared_store.proofs.store.SharedStore.make_some.Goals as goal

pub returns-in_err-remake-clause-err : goal.returns-in_err-remake-clause-err
returns-in_err-remake-clause-err g c =
    let seen = g.L.SharedLog.seen c.self.inside.log in
    let stays = stays_same g.L.SharedLog.is_known c.args.self.now.entries (shown c.remake.new.hall c.remake.new.kept) c.args.self.now.seen seen (c.remake.ensures.same ∙ ap (λ (v : StoreView). v.entries) c.self.view_is) (ap (λ (v : StoreView). v.seen) c.self.view_is)
    (λ known. subst (λ (l : List Entry). AreFirst l seen.records) (sym c.remake.ensures.same) (c.self.invariant known).first) in
    on_err c.from_residual.result (GroupsNot g.L.SharedLog.is_known (moment_of c.args.self.now) c.args.calls.now (moment (shown c.remake.new.hall c.remake.new.kept) seen c.self.inside.turn))
    (stays_not g.L.SharedLog.is_known c.args.self.now.entries (shown c.remake.new.hall c.remake.new.kept) c.args.self.now.turn c.self.inside.turn c.args.self.now.seen seen c.args.calls.now c.requires.some stays)
