use Rattle.std.proofs.Common.{ℕ}
use Rattle.pana_daemon.specs.Door.{HasDrawn}
use Rattle.pana_daemon.proofs.socket_door.SocketDoorDoor.next.Given as goal

-- a ticket was drawn for each connection that was passed over
abbrev pub invariant-loop : goal.invariant-loop
invariant-loop g l = (goal.iterator-loop g).can_next l.iterator' × ((passed : ℕ) × HasDrawn l.fn.self passed l.self)
