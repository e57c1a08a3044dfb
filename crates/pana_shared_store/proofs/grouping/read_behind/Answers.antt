use Rattle.std.proofs.Common.{◌≤◌, length}
use Rattle.pana_shared_store.proofs.Grouped.{behind_by}
use Rattle.pana_shared_store.proofs.grouping.read_behind.Goals as goal

pub returns-clause-all : goal.returns-clause-all
returns-clause-all g c known = behind_by c.args.is_stale c.are_stale.result c.args.calls.now (length (g.L.SharedLog.seen c.args.log.now).records ≤ length c.look.new.hall) (c.in_ok-look.ensures.all known) c.are_stale.ensures.fresh c.are_stale.ensures.questions
