use Rattle.std.proofs.Common.{inl, subst}
use Rattle.pana_shared_store.specs.Store.{AreFirst, StoreView}
use Rattle.pana_shared_store.proofs.Tried.{stays_none}
use Rattle.pana_shared_store.proofs.store.SharedStore.make_of.Goals as goal

pub returns-in_default-clause-err : goal.returns-in_default-clause-err
returns-in_default-clause-err g c = inl (stays_none g.L.SharedLog.is_known c.args.self.now.entries c.args.self.now.seen (λ known. subst (λ (v : StoreView). AreFirst v.entries v.seen.records) c.self.view_is (c.self.invariant known).first))
