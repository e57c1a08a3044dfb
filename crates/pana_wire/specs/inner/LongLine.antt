-- A line of entries in the making.
use Rattle.std.specs.Prelude.{◌≡◌, ℕ, Bool, true, false, List, [], ◌∷◌, ◌++◌, Some, codes}
use Rattle.std.specs.List.{All}
use Rattle.std.specs.Str.{IsUtf8}
use Rattle.json.specs.Tree.{HasNumbers}
use Rattle.serde_json.specs.Data.{Data}
use Rattle.serde_json.specs.Read.{of_json}
use Rattle.serde_json.specs.Written.{compact_text, comma_if, outline}
use Rattle.pana_journal.specs.declared.entry.Entry.{Entry}
use Rattle.pana_wire.specs.Report.{entry_data}
use Rattle.pana_wire.specs.inner.Names.{HasEntryNames}

-- what is written of a value is read as the value
pub record IsReadable (d : Data) : Type 0 where
  pub whole : of_json (outline d) ≡ Some d
  pub numbers : HasNumbers (outline d)

-- the text of an entry
pub record IsTextOf (entry : Entry) (text : List ℕ) : Type 0 where
  pub same : text ≡ compact_text (entry_data entry)
  pub names : HasEntryNames entry
  pub reads : IsReadable (entry_data entry)
  pub utf8 : IsUtf8 text

-- it has one
abbrev pub IsWritable : Entry → Type 0
IsWritable entry = IsTextOf entry (compact_text (entry_data entry))

-- entries with commas between them, and before the first one, where others stand before
abbrev pub listed : Bool → List Entry → List ℕ
listed later [] = []
listed later (entry ∷ entries) = comma_if later ++ (compact_text (entry_data entry) ++ listed true entries)

-- how a line of entries begins
abbrev pub opening : List ℕ
opening = codes "{\"entries\":["

abbrev pub is_none : List Entry → Bool
is_none [] = true
is_none (entry ∷ entries) = false

-- a line that begins with these entries, and has no more so far
pub record IsOpenLine (entries : List Entry) (bytes : List ℕ) : Type 0 where
  pub text : bytes ≡ opening ++ listed false entries
  pub each : All IsWritable entries

-- a line whose list of entries has ended
pub record IsBody (entries : List Entry) (bytes : List ℕ) : Type 0 where
  pub text : bytes ≡ opening ++ (listed false entries ++ 93 ∷ [])
  pub each : All IsWritable entries

-- what is known of an entry that was written
pub record IsKnown (entry : Entry) : Type 0 where
  pub names : HasEntryNames entry
  pub reads : IsReadable (entry_data entry)
