use Rattle.pana_ask.proofs.Called.{one_call, two_call}
use Rattle.pana_ask.proofs.reporting.call_for.Goals as goal

pub returns-in-Ok-clause-ok : goal.returns-in-Ok-clause-ok
returns-in-Ok-clause-ok g c =
    one_call g.S.Session.step c.args.by.now c.args.report c.args.session.now c.copy_at.new.session _ c.in-One.place c.in-One.what c.in-Ok.copy
    c.in-One.is c.in-Ok.ensures.ok c.report.ensures

pub returns-in-Ok-copies_at-clause-ok : goal.returns-in-Ok-copies_at-clause-ok
returns-in-Ok-copies_at-clause-ok g c =
    two_call g.S.Session.step c.args.by.now c.args.report c.args.session.now c.copies_at.new.session _ c.in-Two.first c.in-Two.second c.in-Two.what c.in-Ok-copies_at.a c.in-Ok-copies_at.b
    c.in-Two.is c.in-Ok-copies_at.ensures.ok c.report-in-Ok-copies_at.ensures
