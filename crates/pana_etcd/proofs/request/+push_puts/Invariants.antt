use Rattle.std.proofs.Common.{length}
use Rattle.pana_etcd.proofs.request.+push_puts.Given as goal

abbrev pub decreases-push_puts : goal.decreases-push_puts
decreases-push_puts l = length l.values.now
