use Rattle.std.proofs.Common.{length}
use Rattle.pana_commands.proofs.counting.+push_grouped.Given as goal

abbrev pub decreases-push_grouped : goal.decreases-push_grouped
decreases-push_grouped l = length l.digits.now
