-- The file of a table.
use Rattle.std.specs.Prelude.{◌≡◌, ℕ, List, ◌++◌, codes}
use Rattle.std.specs.List.{flat_map}
use Rattle.std.specs.Int.{w32, w64, to_be_bytes, cast_unsigned}
use Rattle.sha2.specs.Sha256.{sha256}
use Rattle.pana_sums.specs.declared.file_time.FileTime.{FileTime}
use Rattle.pana_sums.specs.Table.{Row, IsTable}

-- the line at the head
abbrev pub head : List ℕ
head = codes "panad sums 1\n"

-- a time: 8 bytes of seconds in two's complement, and 4 of nanoseconds; the highest byte is the first of each
unfoldable pub time_bytes : FileTime → List ℕ
time_bytes time = to_be_bytes w64 (cast_unsigned w64 time.seconds) ++ to_be_bytes w32 time.nanoseconds

-- a row: 8 bytes each of device, inode and size, 12 of each time, and the 32 of the sum
unfoldable pub record_of : Row → List ℕ
record_of row =
    to_be_bytes w64 row.0.device ++ to_be_bytes w64 row.0.inode ++ to_be_bytes w64 row.0.size
    ++ time_bytes row.0.modified ++ time_bytes row.0.changed ++ row.1

-- the line and what comes after it, and then the SHA-256 of both
abbrev pub sealed : List ℕ → List ℕ
sealed records = (head ++ records) ++ sha256 (head ++ records)

-- a table's file: the line, each row in turn, and the SHA-256 of all that
abbrev pub file_of : List Row → List ℕ
file_of table = sealed (flat_map record_of table)

-- the bytes are whole: they are the file of some table
abbrev pub IsWhole : List ℕ → Type 0
IsWhole bytes = (table : List Row) × IsTable table × (file_of table ≡ bytes)
