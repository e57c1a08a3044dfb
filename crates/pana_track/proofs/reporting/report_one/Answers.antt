use Rattle.std.proofs.Common.{subst}
use Rattle.pana_calls.specs.Session.{one}
use Rattle.pana_track.specs.declared.reporting.CallEnd.{CallEnd}
use Rattle.pana_track.specs.inner.Reporting.{CallsOnce}
use Rattle.pana_track.proofs.Reported.{ends_moved, ends_not_kept, ends_settled, if_err, short, unanswered}
use Rattle.pana_track.proofs.reporting.report_one.Goals as goal

pub returns-in_err-call_once-clause-fails : goal.returns-in_err-call_once-clause-fails
returns-in_err-call_once-clause-fails g c =
    if_err c.from_residual.result _
    (unanswered g.S.Session.step c.args.device.now c.args.notice.now c.loop.counter c.args.session.now c.loop.session c.args.tally.now c.loop.tally c.loop.invariant c.loop-test.true
    (one g.S.Session.fails) c.call_once.new.session c.call_once.new.tally c.in_err-call_once.ensures.fails.1 c.in_err-call_once.ensures.fails.0)

pub returns-in-OutOfMemory-clause-ok : goal.returns-in-OutOfMemory-clause-ok
returns-in-OutOfMemory-clause-ok g c =
    let ended = subst (λ (end : CallEnd). CallsOnce g.S.Session.step c.args.device.now c.args.notice.now c.loop.session c.call_once.new.session c.loop.tally c.call_once.new.tally end) c.in-OutOfMemory.is c.in_ok-call_once.ensures.ok in
    short g.S.Session.step c.args.device.now c.args.notice.now c.loop.counter c.args.session.now c.loop.session c.args.tally.now c.loop.tally c.loop.invariant c.loop-test.true c.call_once.new.session c.call_once.new.tally ended.0 ended.1

pub returns-in-NotKept-clause-ok : goal.returns-in-NotKept-clause-ok
returns-in-NotKept-clause-ok g c =
    ends_not_kept g.S.Session.step c.args.device.now c.args.notice.now c.loop.counter c.args.session.now c.loop.session c.args.tally.now c.loop.tally c.loop.invariant c.loop-test.true c.call_once.new.session c.call_once.new.tally
    (subst (λ (end : CallEnd). CallsOnce g.S.Session.step c.args.device.now c.args.notice.now c.loop.session c.call_once.new.session c.loop.tally c.call_once.new.tally end) c.in-NotKept.is c.in_ok-call_once.ensures.ok)

pub returns-in-Settled-clause-ok : goal.returns-in-Settled-clause-ok
returns-in-Settled-clause-ok g c =
    ends_settled g.S.Session.step c.args.device.now c.args.notice.now c.loop.counter c.args.session.now c.loop.session c.args.tally.now c.loop.tally c.loop.invariant c.loop-test.true c.call_once.new.session c.call_once.new.tally
    (subst (λ (end : CallEnd). CallsOnce g.S.Session.step c.args.device.now c.args.notice.now c.loop.session c.call_once.new.session c.loop.tally c.call_once.new.tally end) c.in-Settled.is c.in_ok-call_once.ensures.ok)

pub loop-preserved : goal.loop-preserved
loop-preserved g c =
    ends_moved g.S.Session.step c.args.device.now c.args.notice.now c.loop.counter c.args.session.now c.loop.session c.args.tally.now c.loop.tally c.loop.invariant c.loop-test.true c.call_once.new.session c.call_once.new.tally
    (subst (λ (end : CallEnd). CallsOnce g.S.Session.step c.args.device.now c.args.notice.now c.loop.session c.call_once.new.session c.loop.tally c.call_once.new.tally end) c.in-Moved.is c.in_ok-call_once.ensures.ok)
