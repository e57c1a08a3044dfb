use Rattle.std.proofs.Common.{◌≡◌}
use Rattle.pana_commands.specs.Status.{rows_at}
use Rattle.pana_commands.proofs.status.rows_at.Given as goal

abbrev pub invariant-loop-row : goal.invariant-loop-row
invariant-loop-row l = l.meant.items ≡ rows_at l.places l.yielded
