use Rattle.pana_track.proofs.Reported.{SoFar}
use Rattle.pana_track.proofs.reporting.report_one.Given as goal

-- so many calls were made about it
abbrev pub invariant-loop : goal.invariant-loop
invariant-loop g l = SoFar g.S.Session.step l.fn.device l.fn.notice l.counter l.fn.session l.session l.fn.tally l.tally
