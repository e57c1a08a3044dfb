use Rattle.pana_clock_tests.proofs.family.record.Goals as goal

pub report-requires-clause-new : goal.report-requires-clause-new
report-requires-clause-new c = c.is_new.ensures.0 c.if-is_new.true
