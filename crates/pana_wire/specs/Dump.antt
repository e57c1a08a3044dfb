-- What a line of a dump says: its entries in order, or its first fault.
use Rattle.std.specs.Prelude.{◌≡◌, ◌≤◌, ◌⊎◌, ℕ, List, length, [], ◌∷◌, Bool, is_some, option_map, option_and_then, Result, Ok}
use Rattle.std.specs.List.{list_all}
use Rattle.serde_json.specs.Data.{Data, Items, no_items, item}
use Rattle.serde_json.specs.Find.{get, as_array, as_object}
use Rattle.pana_journal.specs.declared.entry.Entry.{Entry}
use Rattle.pana_calls.specs.declared.reply.Reply.{Reply}
use Rattle.pana_calls.specs.declared.reply.Reply.TheVariants.{Journal}
use Rattle.pana_wire.specs.declared.field.Field.TheVariants as fields
use Rattle.pana_wire.specs.declared.fault.WireFault.{WireFault}
use Rattle.pana_wire.specs.Field.{field_name}
use Rattle.pana_wire.specs.Reply.{reply_text}
use Rattle.pana_wire.specs.Line.{◌>>=◌, found, when, number_in, device_in, word_in, report_in, text_within, data_in, object_in}

-- the values of an array in a list
abbrev pub listed : Items → List Data
listed no_items = []
listed (item d ds) = d ∷ listed ds

-- each of the values is an object
abbrev pub are_objects : List Data → Bool
are_objects ds = list_all (λ d. is_some (as_object d)) ds

-- the objects that the entries are, all of which are looked at before the first is read
unfoldable pub objects_in : Data → Result (List Data) WireFault
objects_in d = found fields.Entries (option_and_then (when are_objects) (option_map listed (option_and_then as_array (get (field_name fields.Entries) d))))

-- the entry in an object
unfoldable pub entry_in : Data → Result Entry WireFault
entry_in d = do
  number ← number_in fields.Number d
  by ← device_in fields.By d
  word ← word_in d
  report ← report_in word d
  Ok (record { number = number; by = by; report = report })

-- the entries in objects, one after another
abbrev pub entries_in : List Data → Result (List Entry) WireFault
entries_in [] = Ok []
entries_in (d ∷ ds) = do
  entry ← entry_in d
  entries ← entries_in ds
  Ok (entry ∷ entries)

-- a line of a dump is text: at most 1,048,576 bytes, of UTF-8
abbrev pub IsDumpText : List ℕ → Type 0
IsDumpText line = text_within 1048576 line ≡ Ok line

-- what a line of a dump says
unfoldable pub dump_says : List ℕ → Result (List Entry) WireFault
dump_says line = do
  text ← text_within 1048576 line
  d ← data_in text
  object ← object_in d
  objects ← objects_in object
  entries_in objects

-- the text of a Journal reply is read back as its entries, where there are at most 100, or it has at most 1,048,576 bytes
abbrev pub IsReadBack : Reply → List ℕ → Type 0
IsReadBack (Journal entries) text = (length entries ≤ 100) ⊎ (length text ≤ 1048576) → dump_says text ≡ Ok entries
IsReadBack _ text = Unit {0}

-- the text of entries: that of a Journal reply which has just these
abbrev pub entries_text : List Entry → List ℕ
entries_text entries = reply_text (Journal entries)
