-- Where a path is among rows.
use Rattle.std.specs.Prelude.{◌≡◌, ℕ, ◌<◌, ◌≤◌, List, length, HoldsAt}
use Rattle.std.specs.List.Sorted.{IsPartitionPoint}
use Rattle.std.specs.declared.cmp.Ordering.TheVariants.{Less, Equal, Greater}
use Rattle.pana_scan.specs.declared.baseline.BaselineRow.{BaselineRow}
use Rattle.pana_scan.specs.Order.{Path, path_cmp}

-- the row at this index has the path
abbrev pub IsAt : Path → List BaselineRow → ℕ → Type 0
IsAt path rows i = (i < length rows) × HoldsAt (λ row. path_cmp row.path path ≡ Equal) rows i

-- no row has the path, and this is the index where one goes
abbrev pub IsGap : Path → List BaselineRow → ℕ → Type 0
IsGap path rows i = (i ≤ length rows) × IsPartitionPoint (λ row. path_cmp row.path path ≡ Less) (λ row. path_cmp row.path path ≡ Greater) rows i
