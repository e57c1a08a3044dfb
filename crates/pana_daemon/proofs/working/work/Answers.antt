use Rattle.std.proofs.Common.{[], ◌∷◌, ◌++◌}
use Rattle.pana_daemon.specs.Desk.{RequestSteps}
use Rattle.pana_daemon.proofs.Connections.{serves_push}
use Rattle.pana_daemon.proofs.working.work.Goals as goal

pub loop-preserved : goal.loop-preserved
loop-preserved g c = (
  tt,
  (
    c.loop.invariant.1.0 ++ c.in-Some-next.connection ∷ [],
    serves_push (RequestSteps g.S.Session.step g.S.Session.fails g.S.Session.settles g.S.Session.breaks_off) g.S.Session.keeps_together g.D.Door.gives g.D.Reader.Read.remaining g.D.Writer.Write.contents c.args.door.now c.loop.door c.next-in-loop.new.self c.loop.invariant.1.0 c.in-Some-next.connection c.args.session.now c.loop.session c.serve.new.session
        c.loop.invariant.1.1 c.in-Some-next.ensures c.serve.ensures,
  ),
)
