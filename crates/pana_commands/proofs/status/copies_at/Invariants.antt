use Rattle.std.proofs.Common.{◌≡◌}
use Rattle.pana_commands.specs.Status.{copies_at}
use Rattle.pana_commands.proofs.status.copies_at.Given as goal

abbrev pub invariant-loop-copy : goal.invariant-loop-copy
invariant-loop-copy l = l.meant.items ≡ copies_at l.places l.yielded
