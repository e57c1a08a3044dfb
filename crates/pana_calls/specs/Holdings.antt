-- What holds of the holdings of a device.
use Rattle.std.specs.Prelude.{◌≢◌, List, [], ◌∷◌}
use Rattle.std.specs.List.{AllByRecursion}
use Rattle.pana_calls.specs.declared.holding.Holding.{Holding}

-- no two of the holdings have one path
abbrev pub HaveOwnPaths : List Holding → Type 0
HaveOwnPaths [] = Unit {0}
HaveOwnPaths (holding ∷ holdings) = AllByRecursion (λ other. holding.path ≢ other.path) holdings × HaveOwnPaths holdings
