use Rattle.std.proofs.Common.{◌≡◌}
use Rattle.pana_ticks.proofs.ticks.Ticks.wait_past.Given as goal

-- nothing new was seen so far
abbrev pub invariant-loop : goal.invariant-loop
invariant-loop g l = l.watcher ≡ l.fn.watcher
