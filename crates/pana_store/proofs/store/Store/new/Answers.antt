-- Nothing waits.
use Rattle.pana_store.proofs.Gathered.{store_settled}
use Rattle.pana_store.proofs.Waiting.{kept_all}
use Rattle.pana_store.proofs.store.Store.new.Goals as goal

pub invariant_of-result : goal.invariant_of-result
invariant_of-result g c =
    store_settled g.D.Device.is_known g.D.Device.seen g.D.Device.may_leave g.D.Device.is_usable c.args.hall c.args.log c.args.sealer c.in-Ok.pending c.requires (c.in-Ok.ensures c.args.sealer)

pub returns-clause-kept : goal.returns-clause-kept
returns-clause-kept g c = kept_all c.args.hall c.in-Ok.pending (c.in-Ok.ensures c.args.sealer).counted
