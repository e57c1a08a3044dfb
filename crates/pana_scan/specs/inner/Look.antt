-- Files that are looked at by several disks.
use Rattle.std.specs.Prelude.{◌≡◌, ℕ, ◌+◌, ◌≤◌, Bool, IsTrue, List, ◌++◌, Result, Ok, Err, All, length, map, sum_by}
use Rattle.std.specs.List.Sorted.{IsPermutation}
use Rattle.pana_scan.specs.declared.listing.FoundRow.{FoundRow}
use Rattle.pana_scan.specs.declared.looking.Looked.{Looked}
use Rattle.pana_scan.specs.Disk.{Tree}
use Rattle.pana_scan.specs.Order.{Path}
use Rattle.pana_scan.specs.Scan.{HaveFiles, row_at, unreadable_count}

-- the paths of rows
abbrev pub paths_of : List FoundRow → List Path
paths_of rows = map (λ row. row.path) rows

-- each row has what is found at its path
abbrev pub AreRows : Tree → Path → List FoundRow → Type 0
AreRows tree root rows = All (λ row. row ≡ row_at tree root row.path) rows

-- each of these files was looked at once, by one of the disks, which are left so; in any order
pub record AreLookedAt {D : Type 0} (is_known : Bool) (tree_of : D → Tree) (faults : D → ℕ) (root : Path) (files : List Path) (disks : List D) (rows : List FoundRow) (left : List D) : Type 0 where
  pub each : IsPermutation files (paths_of rows)
  pub found : IsTrue is_known → (tree : Tree) → HaveFiles tree_of tree disks → AreRows tree root rows
  pub kept : length left ≡ length disks
  pub unread : sum_by faults left ≤ sum_by faults disks + unreadable_count rows

-- both have looked, and this is what they have found, with their disks
abbrev pub AreMerged : {D E : Type 0} → Result (Looked D) E → Result (Looked D) E → Looked D → Type 0
AreMerged (Ok one) (Ok other) all = (all.rows.items ≡ one.rows.items ++ other.rows.items) × (all.disks.items ≡ one.disks.items ++ other.disks.items)
AreMerged (Ok one) (Err fault) all = ⊥
AreMerged (Err fault) other all = ⊥
