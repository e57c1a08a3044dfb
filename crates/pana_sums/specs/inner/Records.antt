-- A row as it is read from 80 bytes.
use Rattle.std.specs.Prelude.{ℕ, List, take, drop}
use Rattle.std.specs.Int.{w32, w64, from_be_bytes, cast_signed}
use Rattle.pana_sums.specs.declared.file_time.FileTime.{FileTime}
use Rattle.pana_sums.specs.Table.{Row}

-- the time that 12 bytes spell
abbrev pub time_in : List ℕ → FileTime
time_in bytes = record { seconds = cast_signed w64 (from_be_bytes w64 (take 8 bytes)); nanoseconds = from_be_bytes w32 (take 4 (drop 8 bytes)) }

-- the row that 80 bytes spell
unfoldable pub row_in : List ℕ → Row
row_in bytes = (
  record {
    device = from_be_bytes w64 (take 8 bytes);
    inode = from_be_bytes w64 (take 8 (drop 8 bytes));
    size = from_be_bytes w64 (take 8 (drop 16 bytes));
    modified = time_in (take 12 (drop 24 bytes));
    changed = time_in (take 12 (drop 36 bytes));
  },
  take 32 (drop 48 bytes),
)
