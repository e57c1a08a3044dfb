use Rattle.pana_track.proofs.Reported.{all_reported, if_err, one_breaks, one_stops, one_reported}
use Rattle.pana_calls.specs.Session.{one}
use Rattle.std.proofs.Common.{subst}
use Rattle.std.specs.Prelude.{Option}
use Rattle.pana_track.specs.declared.fault.TrackFault.{TrackFault}
use Rattle.pana_track.specs.inner.Reporting.{ReportsOne}
use Rattle.pana_track.proofs.reporting.report_in_turn.Goals as goal

pub returns-in_err-fault-clause-fails : goal.returns-in_err-fault-clause-fails
returns-in_err-fault-clause-fails g c =
    if_err c.from_residual.result _
    (one_breaks g.S.Session.step c.args.device.now c.args.notices.now c.loop-notice.notice-index c.args.session.now c.loop-notice.session c.args.tally.now c.loop-notice.tally c.loop-notice.invariant
    c.notice-item.result c.loop-notice-test.true c.notice-item.is c.report_one.new.session c.report_one.new.tally (one g.S.Session.fails) c.in_err-fault.ensures.fails)

pub returns-in-Some-clause-ok : goal.returns-in-Some-clause-ok
returns-in-Some-clause-ok g c =
    one_stops g.S.Session.step c.args.device.now c.args.notices.now c.loop-notice.notice-index c.args.session.now c.loop-notice.session c.args.tally.now c.loop-notice.tally c.loop-notice.invariant
    c.notice-item.result c.loop-notice-test.true c.notice-item.is c.report_one.new.session c.report_one.new.tally c.in-Some.fault
    (subst (λ (stop : Option TrackFault). ReportsOne g.S.Session.step c.args.device.now c.notice-item.result c.loop-notice.session c.report_one.new.session c.loop-notice.tally c.report_one.new.tally stop) c.in-Some.is c.in_ok-fault.ensures.ok)

pub loop-notice-preserved : goal.loop-notice-preserved
loop-notice-preserved g c =
    one_reported g.S.Session.step c.args.device.now c.args.notices.now c.loop-notice.notice-index c.args.session.now c.loop-notice.session c.args.tally.now c.loop-notice.tally c.loop-notice.invariant
    c.notice-item.result c.loop-notice-test.true c.notice-item.is c.report_one.new.session c.report_one.new.tally
    (subst (λ (stop : Option TrackFault). ReportsOne g.S.Session.step c.args.device.now c.notice-item.result c.loop-notice.session c.report_one.new.session c.loop-notice.tally c.report_one.new.tally stop) c.in_default.is c.in_ok-fault.ensures.ok)

pub returns-clause-ok : goal.returns-clause-ok
returns-clause-ok g c =
    all_reported g.S.Session.step c.args.device.now c.args.notices.now c.loop-notice.notice-index c.args.session.now c.loop-notice.session c.args.tally.now c.loop-notice.tally c.loop-notice.invariant c.loop-notice-test.false
