use Rattle.std.proofs.Common.{subst}
use Rattle.pana_calls.specs.declared.call.Call.TheVariants as calls
use Rattle.pana_journal.specs.declared.report.Report.{Report}
use Rattle.pana_calls.specs.declared.answer.Answer.{Answer}
use Rattle.pana_daemon.proofs.Scans.{report_done}
use Rattle.pana_daemon.proofs.scanning.report.Goals as goal

pub returns-clause-ok : goal.returns-clause-ok
returns-clause-ok g c =
    report_done g.S.Session.step c.args.device.now c.args.step.now c.args.session.now c.call.new.self c.args.baseline.now c.settle.new.self c.settle.result c.is_ok.result c.in-Some.entry
    (subst (λ (answer : Answer). g.S.Session.step c.args.session.now c.args.device.now (calls.Report c.args.step.now.report) answer c.call.new.self) c.in-Some.ensures
    (subst (λ (report : Report). g.S.Session.step c.args.session.now c.args.device.now (calls.Report report) c.in_ok-answer.answer c.call.new.self) c.in-Ok.ensures c.in_ok-answer.ensures.step))
    c.settle.ensures.ok c.settle.ensures.err c.is_ok.ensures.value
