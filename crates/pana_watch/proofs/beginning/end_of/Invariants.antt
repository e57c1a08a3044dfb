use Rattle.std.proofs.Common.{◌≤◌, ◌<◌}
use Rattle.pana_watch.specs.Watch.{IsBehind}
use Rattle.pana_watch.proofs.beginning.end_of.Given as goal

-- there may be more entries than the lower number, and there was none with the higher one
abbrev pub invariant-loop : goal.invariant-loop
invariant-loop g l = (l.low < l.high) × (l.high ≤ 1000001) × IsBehind g.S.Session.step l.fn.by l.high
