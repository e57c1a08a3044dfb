-- What is left of a listing, a baseline and holdings that are gone through together.
use Rattle.std.specs.Prelude.{◌≡◌, List, map, find, option_copied}
use Rattle.std.specs.List.Sorted.{IsStrictlySortedBy}
use Rattle.std.specs.Str.{bytes_eq}
use Rattle.pana_calls.specs.declared.holding.Holding.{Holding}
use Rattle.pana_scan.specs.declared.merging.Sources.{Sources}
use Rattle.pana_scan.specs.declared.merging.Spot.{Spot}
use Rattle.pana_scan.specs.Order.{Path, path_cmp}
use Rattle.pana_scan.specs.Listing.{RowsRise}
use Rattle.pana_scan.specs.Baseline.{MarksRise}
use Rattle.pana_scan.specs.Plan.{AtPath, at_paths}

-- the holdings that are left
abbrev pub living_left : Sources → List Holding
living_left sources = map (λ holding. holding.now) sources.living.now

-- what is known of the paths that are left
abbrev pub left : Sources → List AtPath
left sources = at_paths sources.found.now sources.kept.now (living_left sources)

-- each path of the holdings is below those after it
abbrev pub HoldingsRise : List Holding → Type 0
HoldingsRise holdings = IsStrictlySortedBy path_cmp (map (λ holding. holding.path) holdings)

-- the paths of each list rise
abbrev pub AllRise : Sources → Type 0
AllRise sources = RowsRise sources.found.now × MarksRise sources.kept.now × HoldingsRise (living_left sources)

-- what is known at a spot
abbrev pub at_spot : Spot → AtPath
at_spot spot = record { path = spot.path.now; found = spot.found; mark = spot.mark; living = option_copied spot.living }

-- the two lists have the same paths, and find the same holding at each
abbrev pub HoldTheSame : List Holding → List Holding → Type 0
HoldTheSame holdings others = (path : Path) → find (λ holding. bytes_eq holding.path path) others ≡ find (λ holding. bytes_eq holding.path path) holdings
