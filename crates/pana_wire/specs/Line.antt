-- What a line says: its message, or its first fault. What counts as JSON, which value counts where a name stands
-- twice, and which number fits 64 bits, is what `serde_json` reads.
use Rattle.std.specs.Prelude.{◌≡◌, ℕ, nat_le, Bool, false, List, [], ◌∷◌, length, nat_lt, Option, Some, None, is_some, option_and_then, not, Result, Ok, Err, if◌then◌else◌}
use Rattle.std.specs.Str.{is_utf8}
use Rattle.serde_json.specs.Data.{Data}
use Rattle.serde_json.specs.Read.{read}
use Rattle.serde_json.specs.Find.{get, as_null, as_str, as_number, as_u64, as_object}
use Rattle.pana_copies.specs.Names.{is_device, is_path}
use Rattle.pana_copies.specs.Sums.{is_sum}
use Rattle.pana_copies.specs.declared.place.Place.{Place}
use Rattle.pana_journal.specs.declared.report.Report.{Report}
use Rattle.pana_journal.specs.declared.report.Report.TheVariants as reports
use Rattle.pana_calls.specs.declared.call.Query.{Query}
use Rattle.pana_calls.specs.declared.call.Query.TheVariants as queries
use Rattle.pana_calls.specs.declared.call.Sighting.TheVariants as sightings
use Rattle.pana_calls.specs.declared.call.Call.{Call}
use Rattle.pana_calls.specs.declared.call.Call.TheVariants as calls
use Rattle.pana_wire.specs.declared.field.Field.{Field}
use Rattle.pana_wire.specs.declared.field.Field.TheVariants as fields
use Rattle.pana_wire.specs.declared.word.Word.{Word}
use Rattle.pana_wire.specs.declared.word.Word.TheVariants as words
use Rattle.pana_wire.specs.declared.fault.WireFault.{WireFault}
use Rattle.pana_wire.specs.declared.fault.WireFault.TheVariants.{TooLong, NotUtf8, NotJson, NotObject, BadField, OutOfMemory}
use Rattle.pana_calls.specs.declared.message.Message.{Message}
use Rattle.pana_wire.specs.Field.{field_name}
use Rattle.pana_wire.specs.Word.{fields_of, word_of}

infixl 10 ◌>>=◌
-- a step, and then the next; the first fault is what comes of both
abbrev pub ◌>>=◌ : {A B : Type 0} → Result A WireFault → (A → Result B WireFault) → Result B WireFault
(Ok x) >>= next = next x
(Err fault) >>= next = Err fault

-- what is there, or else the fault
abbrev pub or_fault : {A : Type 0} → WireFault → Option A → Result A WireFault
or_fault fault None = Err fault
or_fault fault (Some x) = Ok x

-- what is in a field; where nothing is, the field is bad
abbrev pub found : {A : Type 0} → Field → Option A → Result A WireFault
found field x = or_fault (BadField field) x

-- the value, where it passes the test
abbrev pub when : {A : Type 0} → (A → Bool) → A → Option A
when test x = if test x then Some x else None

-- the text in a field
abbrev pub string_in : Field → Data → Option (List ℕ)
string_in field d = option_and_then as_str (get (field_name field) d)

-- the device's name in a field
unfoldable pub device_in : Field → Data → Result (List ℕ) WireFault
device_in field d = found field (option_and_then (when is_device) (string_in field d))

-- the path in a field
unfoldable pub path_in : Field → Data → Result (List ℕ) WireFault
path_in field d = found field (option_and_then (when is_path) (string_in field d))

-- the number in a field
unfoldable pub number_in : Field → Data → Result ℕ WireFault
number_in field d = found field (option_and_then as_u64 (option_and_then as_number (get (field_name field) d)))

-- the seconds in a field: a number of 0 to 3,600
unfoldable pub seconds_in : Field → Data → Result ℕ WireFault
seconds_in field d = found field (option_and_then (when (λ seconds. nat_le seconds 3600)) (option_and_then as_u64 (option_and_then as_number (get (field_name field) d))))

-- the sum in a field
unfoldable pub sum_in : Field → Data → Result (List ℕ) WireFault
sum_in field d = found field (option_and_then (when is_sum) (string_in field d))

-- something stands in a field, and not `null`
abbrev pub is_given : Option Data → Bool
is_given None = false
is_given (Some d) = not (is_some (as_null d))

-- what is in a field that may be left out, or have `null`
abbrev pub if_given : {A : Type 0} → (Field → Data → Result A WireFault) → Field → Data → Result (Option A) WireFault
if_given read field d = if is_given (get (field_name field) d) then (read field d >>= λ x. Ok (Some x)) else Ok None

-- the number in a field, the seconds, the device's name, the sum, where there is one
unfoldable pub number_or_none : Field → Data → Result (Option ℕ) WireFault
number_or_none field d = if_given number_in field d

unfoldable pub seconds_or_none : Field → Data → Result (Option ℕ) WireFault
seconds_or_none field d = if_given seconds_in field d

unfoldable pub device_or_none : Field → Data → Result (Option (List ℕ)) WireFault
device_or_none field d = if_given device_in field d

unfoldable pub sum_or_none : Field → Data → Result (Option (List ℕ)) WireFault
sum_or_none field d = if_given sum_in field d

-- the place that two fields make
unfoldable pub place_in : Field → Field → Data → Result Place WireFault
place_in device path d = do
  device ← device_in device d
  path ← path_in path d
  Ok (record { device = device; path = path })

-- the word in the field `do`
unfoldable pub word_in : Data → Result Word WireFault
word_in d = found fields.Do (option_and_then word_of (string_in fields.Do d))

-- the report of a word that has no place, from the fields that the word has; a word for a sighting or a query has none
abbrev pub numbered_from : Word → List Field → Data → Result Report WireFault
numbered_from words.Edit (copy ∷ sum ∷ []) d = do
  copy ← number_in copy d
  sum ← sum_or_none sum d
  Ok (reports.Edit copy sum)
numbered_from words.Reconcile (a ∷ b ∷ sum ∷ []) d = do
  a ← number_in a d
  b ← number_in b d
  sum ← sum_or_none sum d
  Ok (reports.Reconcile a b sum)
numbered_from words.Merge (a ∷ b ∷ sum ∷ []) d = do
  a ← number_in a d
  b ← number_in b d
  sum ← sum_or_none sum d
  Ok (reports.Merge a b sum)
numbered_from words.Remove (copy ∷ heir ∷ []) d = do
  copy ← number_in copy d
  heir ← number_or_none heir d
  Ok (reports.Remove copy heir)
numbered_from words.Note (copy ∷ sum ∷ []) d = do
  copy ← number_in copy d
  sum ← sum_in sum d
  Ok (reports.Note copy sum)
numbered_from words.Confirm (entry ∷ []) d = do
  entry ← number_in entry d
  Ok (reports.Confirm entry)
numbered_from words.Withdraw (entry ∷ []) d = do
  entry ← number_in entry d
  Ok (reports.Withdraw entry)
numbered_from word others d = Err (BadField fields.Do)

unfoldable pub numbered_in : Word → Data → Result Report WireFault
numbered_in word d = numbered_from word (fields_of word) d

-- the report of a word
abbrev pub report_from : Word → List Field → Data → Result Report WireFault
report_from words.Register (device ∷ path ∷ sum ∷ []) d = do
  place ← place_in device path d
  sum ← sum_or_none sum d
  Ok (reports.Register place sum)
report_from words.Duplicate (copy ∷ device ∷ path ∷ sum ∷ []) d = do
  copy ← number_in copy d
  place ← place_in device path d
  sum ← sum_or_none sum d
  Ok (reports.Duplicate copy place sum)
report_from words.Relocate (copy ∷ device ∷ path ∷ []) d = do
  copy ← number_in copy d
  place ← place_in device path d
  Ok (reports.Relocate copy place)
report_from word others d = numbered_in word d

unfoldable pub report_in : Word → Data → Result Report WireFault
report_in word d = report_from word (fields_of word) d

-- the question for the entries from a number on, for which the answer may be waited for so many seconds
abbrev pub journal_query : ℕ → Option ℕ → Query
journal_query entry None = queries.JournalFrom entry
journal_query entry (Some seconds) = queries.JournalAwaited entry seconds

-- the query of a word, or else its report
abbrev pub asked_from : Word → List Field → Data → Result Call WireFault
asked_from words.Families [] d = Ok (calls.Query queries.Families)
asked_from words.Board (family ∷ []) d = do
  family ← number_in family d
  Ok (calls.Query (queries.Board family))
asked_from words.Stamps (family ∷ []) d = do
  family ← number_in family d
  Ok (calls.Query (queries.Stamps family))
asked_from words.Pair (a ∷ b ∷ []) d = do
  a ← number_in a d
  b ← number_in b d
  Ok (calls.Query (queries.Pair a b))
asked_from words.Holdings (device ∷ from ∷ []) d = do
  device ← device_in device d
  from ← number_or_none from d
  Ok (calls.Query (queries.Holdings device from))
asked_from words.At (device ∷ path ∷ []) d = do
  place ← place_in device path d
  Ok (calls.Query (queries.At place))
asked_from words.Status (device ∷ from ∷ []) d = do
  device ← device_or_none device d
  from ← number_in from d
  Ok (calls.Query (queries.Status device from))
asked_from words.Journal (entry ∷ wait ∷ []) d = do
  entry ← number_in entry d
  wait ← seconds_or_none wait d
  Ok (calls.Query (journal_query entry wait))
asked_from words.Counts [] d = Ok (calls.Query queries.Counts)
asked_from word others d = do
  report ← report_in word d
  Ok (calls.Report report)

unfoldable pub asked_in : Word → Data → Result Call WireFault
asked_in word d = asked_from word (fields_of word) d

-- the call of a word, from the fields that the word has: a sighting, or else a query, or else a report
abbrev pub call_from : Word → List Field → Data → Result Call WireFault
call_from words.Found (device ∷ path ∷ sum ∷ []) d = do
  place ← place_in device path d
  sum ← sum_in sum d
  Ok (calls.Sighting (sightings.Found place sum))
call_from words.Missing (device ∷ path ∷ []) d = do
  place ← place_in device path d
  Ok (calls.Sighting (sightings.Missing place))
call_from word others d = asked_in word d

unfoldable pub call_in : Word → Data → Result Call WireFault
call_in word d = call_from word (fields_of word) d

-- the message in an object: who speaks, and the call
unfoldable pub message_in : Data → Result Message WireFault
message_in d = do
  by ← device_in fields.By d
  word ← word_in d
  call ← call_in word d
  Ok (record { by = by; call = call })

-- the text that bytes are: of UTF-8, and at most so many
abbrev pub text_within : ℕ → List ℕ → Result (List ℕ) WireFault
text_within most bytes = if nat_lt most (length bytes) then Err TooLong else (if is_utf8 bytes then Ok bytes else Err NotUtf8)

-- the text of a line: at most 65,536 bytes, of UTF-8
unfoldable pub text_in : List ℕ → Result (List ℕ) WireFault
text_in line = text_within 65536 line

-- the line is text: at most 65,536 bytes, of UTF-8
abbrev pub IsText : List ℕ → Type 0
IsText line = text_in line ≡ Ok line

-- the value that a text is
unfoldable pub data_in : List ℕ → Result Data WireFault
data_in text = or_fault NotJson (read text)

-- the value, which must be an object
unfoldable pub object_in : Data → Result Data WireFault
object_in d = if is_some (as_object d) then Ok d else Err NotObject

-- what a line says
unfoldable pub line_says : List ℕ → Result Message WireFault
line_says line = do
  text ← text_in line
  d ← data_in text
  object ← object_in d
  message_in object

-- a fault that was returned is the one that is said; memory may run out for any
abbrev pub Fails : {A : Type 0} → WireFault → Result A WireFault → Type 0
Fails TooLong said = said ≡ Err TooLong
Fails NotUtf8 said = said ≡ Err NotUtf8
Fails NotJson said = said ≡ Err NotJson
Fails NotObject said = said ≡ Err NotObject
Fails (BadField field) said = said ≡ Err (BadField field)
Fails OutOfMemory said = Unit {0}

-- what was returned is what is said, unless memory ran out
abbrev pub Gives : {A : Type 0} → Result A WireFault → Result A WireFault → Type 0
Gives (Ok x) said = said ≡ Ok x
Gives (Err fault) said = Fails fault said

-- what was returned shows what is said, unless memory ran out
abbrev pub Shows : {X A : Type 0} → (X → A) → Result X WireFault → Result A WireFault → Type 0
Shows show (Ok x) said = said ≡ Ok (show x)
Shows show (Err fault) said = Fails fault said
