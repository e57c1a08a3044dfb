-- The line of entries that ends with a digest.
use Rattle.std.specs.Prelude.{◌≡◌, ◌≤◌, ℕ, ◌-◌, List, [], ◌∷◌, ◌++◌, length, take, slice_get, Some, Ok, codes}
use Rattle.hex.specs.Hex.{encode_lower}
use Rattle.pana_journal.specs.declared.entry.Entry.{Entry}
use Rattle.pana_wire.specs.Lines.{lines_of}
use Rattle.pana_wire.specs.Dump.{dump_says, entries_text}

-- what stands before the digits of a digest, and behind them
abbrev pub mark : List ℕ
mark = codes ",\"sha256\":\""

abbrev pub close : List ℕ
close = codes "\"}"

-- how an object ends that has this digest as its last field
abbrev pub seal_with : List ℕ → List ℕ
seal_with digest = mark ++ (encode_lower digest ++ close)

-- the text of entries but for its closing brace
abbrev pub entries_body : List Entry → List ℕ
entries_body entries = take (length (entries_text entries) - 1) (entries_text entries)

-- the text of entries with a digest: theirs, with one more field
abbrev pub sealed_text : List Entry → List ℕ → List ℕ
sealed_text entries digest = entries_body entries ++ seal_with digest

-- the text is one line of a dump, which begins with a brace and ends with its newline, and is read back as the entries
pub record IsSealedLine (entries : List Entry) (digest line : List ℕ) : Type 0 where
  pub text : line ≡ sealed_text entries digest ++ 10 ∷ []
  pub one : lines_of line ≡ sealed_text entries digest ∷ []
  pub opens : slice_get line 0 ≡ Some 123
  pub back : dump_says (sealed_text entries digest) ≡ Ok entries
  pub short : length line ≤ 1048577
