use Rattle.std.proofs.Common.{inr, refl}
use Rattle.pana_calls.specs.Cause.{shown_cause}
use Rattle.pana_commands.proofs.boards.table_on.Goals as goal

pub returns-in_ok-reported-in-Err-clause-ok : goal.returns-in_ok-reported-in-Err-clause-ok
returns-in_ok-reported-in-Err-clause-ok g c = inr (c.in-Err.cause, (rw c.in-Err.is at c.in_ok-view.ensures.ok), c.in_ok-reported-in-Err.ensures (shown_cause c.in-Err.cause) refl)
