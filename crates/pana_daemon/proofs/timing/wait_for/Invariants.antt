use Rattle.std.proofs.Common.{◌≡◌}
use Rattle.pana_daemon.proofs.timing.wait_for.Given as goal

-- no more ticks were seen so far
abbrev pub invariant-loop : goal.invariant-loop
invariant-loop g l = (l.watcher.id ≡ l.fn.watcher.id) × (l.watcher.count.ticks ≡ l.fn.watcher.count.ticks)
