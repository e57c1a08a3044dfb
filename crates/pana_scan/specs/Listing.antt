-- What contracts see of a listing.
use Rattle.std.specs.Prelude.{◌≡◌, ℕ, ◌+◌, ◌-◌, ◌^◌, List, [], ◌∷◌, ◌++◌, map, min}
use Rattle.std.specs.List.Sorted.{IsStrictlySortedBy}
use Rattle.std.specs.declared.cmp.Ordering.TheVariants.{Less}
use Rattle.pana_scan.specs.declared.listing.FoundRow.{FoundRow}
use Rattle.pana_scan.specs.Order.{Path, path_cmp}

-- the device, what is found at each path, and how many names were passed over
pub record Contents : Type 0 where
  pub device : List ℕ
  pub rows : List FoundRow
  pub skipped : ℕ

-- each path is below those after it
abbrev pub RowsRise : List FoundRow → Type 0
RowsRise rows = IsStrictlySortedBy path_cmp (map (λ row. row.path) rows)

-- the path is above that of the last row, if there is one
abbrev pub IsAbove : List FoundRow → Path → Type 0
IsAbove rows path = (before : List FoundRow) (last : FoundRow) → rows ≡ before ++ last ∷ [] → path_cmp last.path path ≡ Less

-- so many more, up to the greatest number of 64 bits
abbrev pub counted : ℕ → ℕ → ℕ
counted n more = min (n + more) (2 ^ 64 - 1)
