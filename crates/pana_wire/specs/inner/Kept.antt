-- What is kept of a line: its first 65,537 bytes, one more than the longest line has.
use Rattle.std.specs.Prelude.{ℕ, List, ◌++◌, take}

-- what is kept of a line after more bytes
abbrev pub keep : List ℕ → List ℕ → List ℕ
keep begun bytes = take 65537 (begun ++ bytes)
