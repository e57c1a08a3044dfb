-- What a report has, and the tokens of its object, with a number where it is that of an entry.
use Rattle.std.specs.Prelude.{ℕ, List, [], ◌∷◌, ◌++◌, Option, Some, None, codes, option_map}
use Rattle.json.specs.Token.{Token, begin_object, end_object, key, string}
use Rattle.serde_json.specs.Data.{Data, object, Members, no_members, put}
use Rattle.pana_copies.specs.declared.place.Place.{Place}
use Rattle.pana_journal.specs.declared.report.Report.{Report}
use Rattle.pana_journal.specs.declared.report.Report.TheVariants.{Register, Duplicate, Edit, Reconcile, Merge, Relocate, Remove, Note, Confirm, Withdraw}
use Rattle.pana_wire.specs.declared.field.Field.TheVariants as fields
use Rattle.pana_wire.specs.declared.report_writing.Numbers.{Numbers}
use Rattle.pana_wire.specs.Field.{field_name}
use Rattle.pana_wire.specs.Report.{number_data, put_report}
use Rattle.pana_wire.specs.inner.Pieces.{number_tokens, text_tokens}

-- the numbers in a report
abbrev pub with_copy : Option ℕ → Option ℕ → Numbers
with_copy copy heir = record { a = None; b = None; copy = copy; entry = None; heir = heir }

abbrev pub with_pair : ℕ → ℕ → Numbers
with_pair a b = record { a = Some a; b = Some b; copy = None; entry = None; heir = None }

abbrev pub with_entry : ℕ → Numbers
with_entry entry = record { a = None; b = None; copy = None; entry = Some entry; heir = None }

abbrev pub numbers_of : Report → Numbers
numbers_of (Register place sum) = with_copy None None
numbers_of (Duplicate copy place sum) = with_copy (Some copy) None
numbers_of (Edit copy sum) = with_copy (Some copy) None
numbers_of (Reconcile a b sum) = with_pair a b
numbers_of (Merge a b sum) = with_pair a b
numbers_of (Relocate copy place) = with_copy (Some copy) None
numbers_of (Remove copy heir) = with_copy (Some copy) heir
numbers_of (Note copy sum) = with_copy (Some copy) None
numbers_of (Confirm entry) = with_entry entry
numbers_of (Withdraw entry) = with_entry entry

-- the place that a report names, if it does
abbrev pub given_place : Report → Option Place
given_place (Register place sum) = Some place
given_place (Duplicate copy place sum) = Some place
given_place (Relocate copy place) = Some place
given_place _ = None

-- the object of a device's report, with a number where one is given
abbrev pub numbered : Option ℕ → Members
numbered None = no_members
numbered (Some n) = put (field_name fields.Number) (number_data n) no_members

abbrev pub object_of : List ℕ → Report → Option ℕ → Data
object_of by report number = object (put_report by report (numbered number))

-- its tokens, by what the report has
abbrev pub tokens_of : List ℕ → Numbers → Option Place → List ℕ → Option (List ℕ) → Option ℕ → List Token
tokens_of by numbers place word sum number =
    begin_object
    ∷ number_tokens (codes "a") numbers.a
    ++ (number_tokens (codes "b") numbers.b
    ++ (key (codes "by") ∷ string by
    ∷ (number_tokens (codes "copy") numbers.copy
    ++ (text_tokens (codes "device") (option_map (λ p. p.device) place)
    ++ (key (codes "do") ∷ string word
    ∷ (number_tokens (codes "entry") numbers.entry
    ++ (number_tokens (codes "heir") numbers.heir
    ++ (number_tokens (codes "number") number
    ++ (text_tokens (codes "path") (option_map (λ p. p.path) place)
    ++ (text_tokens (codes "sum") sum
    ++ end_object ∷ []))))))))))
