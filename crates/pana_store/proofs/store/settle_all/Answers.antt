-- The entries that wait are kept by their line.
use Rattle.std.proofs.Common.{◌≡◌, ◌<◌, rules, arith}
use Rattle.pana_log.specs.declared.log_state.LogState.TheVariants.{Open}
use Rattle.pana_store.proofs.Gathered.{none_settle, store_settled, settled_file, all_settle}
use Rattle.pana_store.proofs.store.settle_all.Goals as goal

pub returns-then-pending-eq0-clause-settles : goal.returns-then-pending-eq0-clause-settles
returns-then-pending-eq0-clause-settles g c =
    none_settle g.D.Device.is_known g.D.Device.seen g.D.Device.may_leave g.D.Device.is_usable g.D.Device.moment g.D.Device.left_since g.D.Device.has_failed c.args.hall.now c.args.log.now c.args.sealer.now c.args.pending.now c.requires c.if-pending-eq0.true (g.met.D.Device.only_now c.args.log.now.device)

pub returns-clause-store : goal.returns-clause-store
returns-clause-store g c =
    let opened : c.args.log.now.state ≡ Open = search rules in
    let some : 0 < c.args.pending.now.count = omega arith in
    store_settled g.D.Device.is_known g.D.Device.seen g.D.Device.may_leave g.D.Device.is_usable c.args.hall.now c.settle.new.log c.settle.new.sealer c.settle.new.pending
    (settled_file g.D.Device.is_known g.D.Device.seen g.D.Device.may_leave g.D.Device.is_usable g.D.Device.moment g.D.Device.left_since g.D.Device.has_failed c.args.hall.now c.args.log.now c.settle.new.log c.args.sealer.now c.settle.new.sealer c.args.pending.now c.requires opened some c.in_ok-settle.ensures.ok) c.in_ok-settle.ensures.none

pub returns-clause-settles : goal.returns-clause-settles
returns-clause-settles g c =
    let opened : c.args.log.now.state ≡ Open = search rules in
    let some : 0 < c.args.pending.now.count = omega arith in
    all_settle g.D.Device.is_known g.D.Device.seen g.D.Device.may_leave g.D.Device.is_usable g.D.Device.moment g.D.Device.left_since g.D.Device.has_failed c.args.hall.now c.args.log.now c.settle.new.log c.args.sealer.now c.settle.new.sealer c.args.pending.now c.settle.new.pending c.requires opened c.in_ok-settle.ensures.state some
    c.in_ok-settle.ensures.ok c.in_ok-settle.ensures.none
