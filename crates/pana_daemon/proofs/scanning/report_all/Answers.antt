use Rattle.pana_daemon.proofs.Scans.{all_reported, if_err, just_one, last_one, stops_at}
use Rattle.pana_calls.specs.Session.{one}
use Rattle.pana_daemon.proofs.scanning.report_all.Goals as goal

pub returns-then-not-branch-clause-ok : goal.returns-then-not-branch-clause-ok
returns-then-not-branch-clause-ok g c =
    last_one g.S.Session.step c.args.device.now c.args.steps.now c.loop-step.step-index c.args.session.now c.loop-step.session c.report.new.session c.step-item.result c.args.baseline.now c.loop-step.baseline c.report.new.baseline
    c.loop-step.invariant c.loop-step-test.true c.step-item.is c.in_ok-report.field-0 c.if-not-branch.true c.in_ok-report.ensures.ok

pub loop-step-preserved : goal.loop-step-preserved
loop-step-preserved g c =
    just_one g.S.Session.step c.args.device.now c.args.steps.now c.loop-step.step-index c.args.session.now c.loop-step.session c.report.new.session c.step-item.result c.args.baseline.now c.loop-step.baseline c.report.new.baseline
    c.loop-step.invariant c.loop-step-test.true c.step-item.is c.in_ok-report.field-0 c.if-not-branch.false c.in_ok-report.ensures.ok

pub returns-clause-ok : goal.returns-clause-ok
returns-clause-ok g c =
    all_reported g.S.Session.step c.args.device.now c.args.steps.now c.loop-step.step-index c.args.session.now c.loop-step.session c.args.baseline.now c.loop-step.baseline c.loop-step-test.false c.loop-step.invariant

pub returns-in_err-report-clause-fails : goal.returns-in_err-report-clause-fails
returns-in_err-report-clause-fails g c =
    if_err c.from_residual.result _
    (stops_at g.S.Session.step c.args.device.now c.args.steps.now c.loop-step.step-index c.args.session.now c.loop-step.session c.report.new.session c.step-item.result c.args.baseline.now c.loop-step.baseline c.report.new.baseline
    c.loop-step.invariant c.loop-step-test.true c.step-item.is (one g.S.Session.fails) c.in_err-report.ensures.fails.0 c.in_err-report.ensures.fails.1)
