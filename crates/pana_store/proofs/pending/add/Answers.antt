-- The entries stand in the line, or it is as it was.
use Rattle.std.proofs.Common.{◌+◌, ◌∷◌, ◌++◌, List, length, sym, ap, subst, arith}
use Rattle.std.specs.Prelude.{option_copied, option_to_list}
use Rattle.pana_journal.specs.declared.entry.Entry.{Entry}
use Rattle.pana_log.proofs.Kept.{keeps_start}
use Rattle.pana_wire.specs.inner.LongLine.{IsOpenLine}
use Rattle.pana_store.specs.declared.pending.Pending.{Pending}
use Rattle.pana_store.proofs.Waiting.{first_of, more_wait}
use Rattle.pana_store.proofs.pending.add.Goals as goal

pub returns-in_default-clause-any_moment : goal.returns-in_default-clause-any_moment
returns-in_default-clause-any_moment g c known =
    (keeps_start g.D.Device.seen g.D.Device.may_leave g.D.Device.is_usable g.D.Device.moment g.D.Device.left_since c.args.log.now (c.requires.settled known) (g.met.D.Device.only_now c.args.log.now.device)).so_far

pub returns-in_default-add-clause-any_moment : goal.returns-in_default-add-clause-any_moment
returns-in_default-add-clause-any_moment g c known =
    (keeps_start g.D.Device.seen g.D.Device.may_leave g.D.Device.is_usable g.D.Device.moment g.D.Device.left_since c.args.log.now (c.requires.settled known) (g.met.D.Device.only_now c.args.log.now.device)).so_far

pub returns-clause-ok : goal.returns-clause-ok
returns-clause-ok g c waiting w =
    let more : List Entry = c.args.entry.now ∷ option_to_list (option_copied c.args.second) in
    let new : Pending = record { line = c.reserve.new.line; seal = c.has_seal.new.seal; count = c.args.pending.now.count + c.count_of.result } in
    let line : IsOpenLine (waiting ++ more) c.reserve.new.line = subst (IsOpenLine (waiting ++ more)) (sym c.reserve.ensures.line) (c.in-Ok-add.ensures.line waiting w.line (first_of waiting c.args.pending.now.count w.counted)) in
    more_wait c.args.sealer.now waiting more c.args.pending.now new w c.in-Ok.ensures.ok line (omega (arith, c.count_of.ensures.count)) (omega (arith, c.in-Ok-add.ensures.room, ap length c.reserve.ensures.line))
