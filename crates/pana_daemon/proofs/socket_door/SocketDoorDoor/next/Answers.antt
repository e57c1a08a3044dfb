use Rattle.std.proofs.Common.{◌+◌}
use Rattle.pana_daemon.proofs.Doors.{draws_on}
use Rattle.pana_daemon.proofs.socket_door.SocketDoorDoor.next.Goals as goal

pub returns-in_default : goal.returns-in_default
returns-in_default g c =
    let so = c.loop.invariant.1 in
    let last = c.in_default.ensures in
    ((so.0 + last.0.0, draws_on c.args.self.now c.loop.self c.take.new.self so.0 last.0.0 so.1 last.0.1), last.1)

pub loop-preserved : goal.loop-preserved
loop-preserved g c =
    let so = c.loop.invariant.1 in
    (tt, (so.0 + 1, draws_on c.args.self.now c.loop.self c.take.new.self so.0 1 so.1 c.in-Some-take.ensures))
