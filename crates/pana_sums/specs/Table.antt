-- Tables of sums.
use Rattle.std.specs.Prelude.{◌≡◌, ℕ, ◌==◌, ◌<◌, ◌≤◌, ◌^◌, Bool, ◌&&◌, ◌||◌, nat_lt, List, [], ◌∷◌, Option, is_some, if◌then◌else◌, length, FitsSigned}
use Rattle.std.specs.Int.{w64}
use Rattle.std.specs.Ordering.{int_eq}
use Rattle.std.specs.List.{AllByRecursion, IsDistinct}
use Rattle.std.specs.Map.{keys_of, lookup}
use Rattle.indexmap.specs.IndexMap.{insert_entry}
use Rattle.pana_sums.specs.declared.file_time.FileTime.{FileTime}
use Rattle.pana_sums.specs.declared.signature.Signature.{Signature}

-- whether two times are one
abbrev pub same_time : FileTime → FileTime → Bool
same_time a b = int_eq a.seconds b.seconds && a.nanoseconds == b.nanoseconds

-- whether two signatures are one: by device, inode, size and both times
abbrev pub same_signature : Signature → Signature → Bool
same_signature a b = a.device == b.device && (a.inode == b.inode && (a.size == b.size && (same_time a.modified b.modified && same_time a.changed b.changed)))

-- a signature with the SHA-256 that its file had, as 32 bytes
abbrev pub Row : Type 0
Row = Signature × List ℕ

-- the SHA-256 that is kept for a signature
abbrev pub sum_of : List Row → Signature → Option (List ℕ)
sum_of table signature = lookup (same_signature signature) table

-- the table once a sum is kept: in the place of the one before, or else at the end, where fewer than 4,000,000 are kept
abbrev pub inserted : List Row → Signature → List ℕ → List Row
inserted table signature sum = if is_some (sum_of table signature) || nat_lt (length table) 4000000 then insert_entry same_signature table signature sum else table

-- the table once the sums of these rows are kept, one after another
abbrev pub all_inserted : List Row → List Row → List Row
all_inserted table [] = table
all_inserted table (row ∷ rows) = all_inserted (inserted table row.0 row.1) rows

-- the time is in the range of its fields
pub record IsTime (time : FileTime) : Type 0 where
  pub seconds : FitsSigned w64 time.seconds
  pub nanoseconds : time.nanoseconds < 2 ^ 32

-- so are all fields of the row, and the sum has 32 bytes
pub record IsRow (row : Row) : Type 0 where
  pub device : row.0.device < 2 ^ 64
  pub inode : row.0.inode < 2 ^ 64
  pub size : row.0.size < 2 ^ 64
  pub modified : IsTime row.0.modified
  pub changed : IsTime row.0.changed
  pub sum : length row.1 ≡ 32

-- a table: at most 4,000,000 such rows, and no signature twice
pub record IsTable (table : List Row) : Type 0 where
  pub few : length table ≤ 4000000
  pub once : IsDistinct same_signature (keys_of table)
  pub rows : AllByRecursion IsRow table
