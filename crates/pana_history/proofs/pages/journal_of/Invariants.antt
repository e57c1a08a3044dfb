use Rattle.pana_history.proofs.Paged.{PagedSoFar}
use Rattle.pana_history.proofs.pages.journal_of.Given as goal

-- the pages so far
abbrev pub invariant-loop : goal.invariant-loop
invariant-loop g l = PagedSoFar g.S.Session.step l.fn.by l.from l.fn.session l.session l.entries
