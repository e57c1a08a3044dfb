use Rattle.std.proofs.Common.{List}
use Rattle.pana_daemon.specs.Desk.{RequestSteps}
use Rattle.pana_daemon.specs.declared.connection.Connection.{Connection}
use Rattle.pana_daemon.specs.Connection.{ServesAll}
use Rattle.pana_daemon.proofs.working.work.Given as goal

-- the connections so far were served
abbrev pub invariant-loop : goal.invariant-loop
invariant-loop g l =
    (goal.iterator-loop g).can_next l.iterator'
    × ((connections : List (Connection g.row.D-Reader.Denot g.row.D-Writer.Denot)) × ServesAll (RequestSteps g.S.Session.step g.S.Session.fails g.S.Session.settles g.S.Session.breaks_off) g.S.Session.keeps_together g.D.Door.gives g.D.Reader.Read.remaining g.D.Writer.Write.contents l.fn.door connections l.door l.fn.session l.session)
