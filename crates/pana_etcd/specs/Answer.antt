-- What the bodies of answers say.
use Rattle.std.specs.Prelude.{◌≡◌, ℕ, ◌+◌, ◌==◌, ◌&&◌, Bool, false, List, [], ◌∷◌, codes, length, Option, Some, None, is_some, option_and_then, option_map, Result, Ok, Err, if◌then◌else◌}
use Rattle.std.specs.Str.{bytes_eq}
use Rattle.base64.specs.GeneralPurpose.{decode_of}
use Rattle.base64.specs.Engines.{standard}
use Rattle.serde_json.specs.Data.{Data}
use Rattle.serde_json.specs.Find.{at, get, as_array, as_bool, as_object}
use Rattle.pana_shared.specs.declared.read_fault.ReadFault.{ReadFault}
use Rattle.pana_shared.specs.declared.read_fault.ReadFault.TheVariants.{NoAnswer, Foreign, OutOfMemory}
use Rattle.pana_shared.specs.declared.record.Record.{Record}
use Rattle.pana_wire.specs.Dump.{listed}
use Rattle.pana_etcd.specs.Key.{in_base64, key_of}
use Rattle.pana_etcd.specs.Says.{◌>>=◌}
use Rattle.pana_etcd.specs.Value.{data_said, text_in, value_says}

-- a flag, which is false where it is absent
abbrev pub flag_of : Option Data → Option Bool
flag_of None = Some false
flag_of (Some d) = as_bool d

-- a list, which is empty where it is absent
abbrev pub list_of : Option Data → Option (List Data)
list_of None = Some []
list_of (Some d) = option_map listed (as_array d)

abbrev pub has_header : Data → Bool
has_header d = is_some (option_and_then as_object (get (codes "header") d))

abbrev pub has_flag : Data → Bool
has_flag d = is_some (flag_of (get (codes "succeeded") d))

abbrev pub has_list : Data → Bool
has_list d = is_some (list_of (get (codes "kvs") d))

-- an answer has a header; `succeeded` is a flag, and `kvs` a list, where they are there
abbrev pub is_answer : Data → Bool
is_answer d = has_header d && has_flag d && has_list d

-- the answer that a body is
unfoldable pub answer_said : List ℕ → Option Data
answer_said body = do
  d ← data_said body
  if is_answer d then Some d else None

-- whether a transaction did what it was to do
abbrev pub outcome_in : Data → Option Bool
outcome_in d = flag_of (get (codes "succeeded") d)

-- what the question in a transaction was answered: there is one where the transaction didn't do what it was to do
abbrev pub found_in : Data → Option Data
found_in d = option_and_then (get (codes "response_range")) (option_and_then (at 0) (get (codes "responses") d))

-- a refusal says that there is no room for more
abbrev pub is_full : Option (List ℕ) → Bool
is_full None = false
is_full (Some message) = bytes_eq message (codes "etcdserver: mvcc: database space exceeded")

abbrev pub says_full : Data → Bool
says_full d = is_full (text_in (codes "message") d)

-- an answer has no key
abbrev pub is_bare : Option (List Data) → Bool
is_bare None = false
is_bare (Some ds) = length ds == 0

abbrev pub has_none : Data → Bool
has_none d = is_bare (list_of (get (codes "kvs") d))

-- the bytes in a member
abbrev pub decoded : {E : Type 0} → Result (List ℕ) E → Option (List ℕ)
decoded (Ok bytes) = Some bytes
decoded (Err fault) = None

abbrev pub bytes_in : List ℕ → Data → Option (List ℕ)
bytes_in name d = do
  text ← text_in name d
  decoded (decode_of standard text)

-- the record under the key of a number, which is its entry's
unfoldable pub record_at : List ℕ → ℕ → Data → Option Record
record_at name number d = do
  key ← text_in (codes "key") d
  value ← bytes_in (codes "value") d
  found ← value_says value
  if bytes_eq key (in_base64 (key_of name number)) && (found.entry.number == number) then Some found else None

-- the records under the keys of a number and the next ones; or the first number under whose key there is none
abbrev pub more_of : ℕ → Option Record → Result (List Record) ℕ → Result (List Record) ℕ
more_of number None rest = Err number
more_of number (Some found) (Err other) = Err other
more_of number (Some found) (Ok records) = Ok (found ∷ records)

abbrev pub records_from : List ℕ → ℕ → List Data → Result (List Record) ℕ
records_from name number [] = Ok []
records_from name number (d ∷ ds) = more_of number (record_at name number d) (records_from name (number + 1) ds)

-- the records that an answer has, of keys from this number on
abbrev pub page_in : List ℕ → ℕ → Data → Option (Result (List Record) ℕ)
page_in name number d = option_map (records_from name number) (list_of (get (codes "kvs") d))

-- a fault that was returned is what is said of the records; memory may run out for any
abbrev pub FailsAt : ReadFault → Result (List Record) ℕ → Type 0
FailsAt NoAnswer said = ⊥
FailsAt (Foreign number) said = said ≡ Err number
FailsAt OutOfMemory said = Unit {0}

-- what was returned shows the records that are said, or where they end
abbrev pub FindsRecords : {V : Type 0} → (V → List Record) → Result V ReadFault → Result (List Record) ℕ → Type 0
FindsRecords show (Ok v) said = said ≡ Ok (show v)
FindsRecords show (Err fault) said = FailsAt fault said

-- the same of a whole answer: where its list is none, nothing is said
abbrev pub PageFails : ReadFault → Option (Result (List Record) ℕ) → Type 0
PageFails NoAnswer said = said ≡ None
PageFails (Foreign number) said = said ≡ Some (Err number)
PageFails OutOfMemory said = Unit {0}

abbrev pub FindsPage : {V : Type 0} → (V → List Record) → Result V ReadFault → Option (Result (List Record) ℕ) → Type 0
FindsPage show (Ok v) said = said ≡ Some (Ok (show v))
FindsPage show (Err fault) said = PageFails fault said
