use Rattle.pana_hall.proofs.Ready.{able_there, new_there, lives_displaced, of_copies, of_family}
use Rattle.pana_hall.proofs.recording.prepare_family.Goals as goal

pub before-requires : goal.before-requires
before-requires c = lives_displaced c.requires.ready

pub prepare_change-requires-clause-able : goal.prepare_change-requires-clause-able
prepare_change-requires-clause-able c =
    let of = of_family c.args.report.now c.requires.ready.later (of_copies c.args.report.now c.in_default.not-Confirm c.in_default.not-Withdraw) in
    (of.0, of.1, able_there c.requires.ready of.1)

pub prepare_change-requires-clause-new : goal.prepare_change-requires-clause-new
prepare_change-requires-clause-new c = new_there c.requires.ready c.length-entry.result c.length-entry.ensures.length
