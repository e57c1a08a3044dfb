use Rattle.std.proofs.Common.{length, sym, subst}
use Rattle.pana_journal.specs.inner.Lines.{Keeps}
use Rattle.pana_journal.proofs.Kept.{keeps_pushed}
use Rattle.pana_journal.proofs.line.keep_report.Goals as goal

pub returns-in-Some-clause-there : goal.returns-in-Some-clause-there
returns-in-Some-clause-there c = c.in-Some.ensures.there (length c.args.others.now.items)

pub returns-clause-keeps : goal.returns-clause-keeps
returns-clause-keeps c = subst (Keeps c.args.others.now.items) (sym c.push_reserved.ensures.items) (keeps_pushed c.args.others.now.items c.args.report)
