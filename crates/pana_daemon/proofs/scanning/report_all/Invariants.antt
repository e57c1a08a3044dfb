use Rattle.pana_daemon.proofs.Scans.{SoFar}
use Rattle.pana_daemon.proofs.scanning.report_all.Given as goal

-- the reports of the steps so far were made
abbrev pub invariant-loop-step : goal.invariant-loop-step
invariant-loop-step g l = SoFar g.S.Session.step l.fn.device l.fn.steps l.step-index l.fn.session l.session l.fn.baseline l.baseline
