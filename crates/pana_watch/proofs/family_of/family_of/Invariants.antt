use Rattle.pana_journal.specs.Reports.{subject}
use Rattle.pana_watch.proofs.Led.{LedSoFar}
use Rattle.pana_watch.proofs.family_of.family_of.Given as goal

abbrev pub invariant-loop : goal.invariant-loop
invariant-loop g l = LedSoFar g.S.Session.step l.fn.by l.fn.session l.entry.number (subject l.entry.report) l.session l.family l.named
