use Rattle.pana_daemon.specs.Desk.{RequestSteps}
use Rattle.pana_daemon.specs.Session.{BreaksOff, GetNone, MakesCall, MayRecover, Settles}
use Rattle.pana_daemon.proofs.Scanned.{LookedSoFar}
use Rattle.pana_daemon.proofs.scanning.scanner.Given as goal

-- the looks so far were taken
abbrev pub invariant-loop : goal.invariant-loop
invariant-loop g l =
    let steps = RequestSteps g.S.Session.step g.S.Session.fails g.S.Session.settles g.S.Session.breaks_off in
    (goal.iterator-loop g).can_next l.iterator'
    × LookedSoFar g.F.Folder.does (MakesCall steps g.S.Session.keeps_together) g.S.Session.keeps_together (GetNone steps g.S.Session.keeps_together) (Settles steps) (BreaksOff steps) MayRecover l.fn.device l.fn.folder l.folder l.fn.session l.session l.baseline
