-- What the value of a key says: it is a line of a dump with one entry, the writer and the turn.
use Rattle.std.specs.Prelude.{ℕ, List, [], ◌∷◌, codes, Option, Some, None, option_and_then, Result, Ok, Err, if◌then◌else◌}
use Rattle.std.specs.Int.{w64, from_be_bytes}
use Rattle.std.specs.Str.{is_utf8}
use Rattle.hex.specs.Hex.{decode_sized}
use Rattle.hex.specs.declared.error.FromHexError.{FromHexError}
use Rattle.serde_json.specs.Data.{Data}
use Rattle.serde_json.specs.Read.{read}
use Rattle.serde_json.specs.Find.{get, as_number, as_str, as_u64}
use Rattle.pana_journal.specs.declared.entry.Entry.{Entry}
use Rattle.pana_shared.specs.declared.record.Record.{Record}
use Rattle.pana_wire.specs.declared.fault.WireFault.{WireFault}
use Rattle.pana_wire.specs.Dump.{dump_says}
use Rattle.pana_etcd.specs.Says.{◌>>=◌}

-- the text that bytes are: of UTF-8
abbrev pub text_said : List ℕ → Option (List ℕ)
text_said bytes = if is_utf8 bytes then Some bytes else None

-- the value in JSON that bytes are
unfoldable pub data_said : List ℕ → Option Data
data_said bytes = do
  text ← text_said bytes
  read text

-- the text of a member
abbrev pub text_in : List ℕ → Data → Option (List ℕ)
text_in name d = option_and_then as_str (get name d)

-- the one entry of a list
abbrev pub one_entry : List Entry → Option Entry
one_entry [] = None
one_entry (entry ∷ []) = Some entry
one_entry (entry ∷ next ∷ entries) = None

-- the one entry of a line, if it has no fault
abbrev pub entry_of : Result (List Entry) WireFault → Option Entry
entry_of (Ok entries) = one_entry entries
entry_of (Err fault) = None

-- the one entry of a line of a dump
abbrev pub entry_said : List ℕ → Option Entry
entry_said text = entry_of (dump_says text)

-- the number of eight bytes, the greatest first
abbrev pub number_of : Result (List ℕ) FromHexError → Option ℕ
number_of (Ok bytes) = Some (from_be_bytes w64 bytes)
number_of (Err fault) = None

-- the writer: 16 hexadecimal digits
abbrev pub writer_from : Option (List ℕ) → Option ℕ
writer_from digits = option_and_then (λ text. number_of (decode_sized text 8)) digits

abbrev pub writer_in : Data → Option ℕ
writer_in d = writer_from (text_in (codes "writer") d)

-- the turn: a number
abbrev pub turn_in : Data → Option ℕ
turn_in d = option_and_then as_u64 (option_and_then as_number (get (codes "turn") d))

-- the record of an entry, where its writer and its turn are there
abbrev pub record_of : Entry → Option ℕ → Option ℕ → Option Record
record_of entry writer turn = do
  w ← writer
  t ← turn
  Some (record { entry = entry; writer = w; turn = t })

-- the record that a value says
unfoldable pub value_says : List ℕ → Option Record
value_says text = do
  entry ← entry_said text
  d ← data_said text
  writer ← writer_in d
  turn ← turn_in d
  Some (record { entry = entry; writer = writer; turn = turn })
