use Rattle.std.proofs.Common.{◌≡◌, map, take}
use Rattle.std.specs.List.{IsDistinct}
use Rattle.pana_client.proofs.OwnPaths.{same}
use Rattle.pana_client.proofs.own_paths.have_own_paths.Given as goal

-- the set has the paths of the holdings so far, in their order
abbrev pub invariant-loop-holding : goal.invariant-loop-holding
invariant-loop-holding l = record {
  paths : map (λ key. key.now) l.paths.keys ≡ map (λ holding. holding.path) (take l.holding-index l.holdings);
  distinct : IsDistinct same l.paths.keys;
}
