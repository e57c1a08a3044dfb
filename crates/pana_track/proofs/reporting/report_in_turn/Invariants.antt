use Rattle.pana_track.proofs.Reported.{AllSoFar}
use Rattle.pana_track.proofs.reporting.report_in_turn.Given as goal

-- so many were reported
abbrev pub invariant-loop-notice : goal.invariant-loop-notice
invariant-loop-notice g l = AllSoFar g.S.Session.step l.fn.device l.fn.notices l.notice-index l.fn.session l.session l.fn.tally l.tally
