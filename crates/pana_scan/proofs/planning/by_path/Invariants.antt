use Rattle.std.proofs.Common.{◌≡◌, map, take}
use Rattle.pana_scan.proofs.planning.by_path.Given as goal

abbrev pub invariant-loop-holding : goal.invariant-loop-holding
invariant-loop-holding l = map (λ holding. holding.now) l.living.items ≡ take l.holding-index l.holdings
