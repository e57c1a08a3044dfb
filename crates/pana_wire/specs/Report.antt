-- The line of a report, and an entry: objects with the device that speaks, the word, and the word's fields.
use Rattle.std.specs.Prelude.{ℕ, List, [], ◌∷◌, ◌++◌, Option, Some, None}
use Rattle.serde_json.specs.Data.{Data, number, unsigned, string, object, Members, no_members, put}
use Rattle.serde_json.specs.Written.{compact_text}
use Rattle.pana_copies.specs.declared.place.Place.{Place}
use Rattle.pana_journal.specs.declared.entry.Entry.{Entry}
use Rattle.pana_journal.specs.declared.report.Report.{Report}
use Rattle.pana_journal.specs.declared.report.Report.TheVariants.{Register, Duplicate, Edit, Reconcile, Merge, Relocate, Remove, Note, Confirm, Withdraw}
use Rattle.pana_journal.specs.declared.report_kind.ReportKind.{ReportKind}
use Rattle.pana_journal.specs.declared.report_kind.ReportKind.TheVariants as kinds
use Rattle.pana_journal.specs.Reports.{kind_of}
use Rattle.pana_wire.specs.declared.field.Field.{Field}
use Rattle.pana_wire.specs.declared.field.Field.TheVariants as fields
use Rattle.pana_wire.specs.declared.word.Word.{Word}
use Rattle.pana_wire.specs.declared.word.Word.TheVariants as words
use Rattle.pana_wire.specs.Field.{field_name}
use Rattle.pana_wire.specs.Word.{word_name, fields_of}

-- the word for reports of a kind
abbrev pub kind_word : ReportKind → Word
kind_word kinds.Register = words.Register
kind_word kinds.Duplicate = words.Duplicate
kind_word kinds.Edit = words.Edit
kind_word kinds.Reconcile = words.Reconcile
kind_word kinds.Merge = words.Merge
kind_word kinds.Relocate = words.Relocate
kind_word kinds.Remove = words.Remove
kind_word kinds.Note = words.Note
kind_word kinds.Confirm = words.Confirm
kind_word kinds.Withdraw = words.Withdraw

-- the word of a report
abbrev pub report_word : Report → Word
report_word report = kind_word (kind_of report)

-- a number in JSON
abbrev pub number_data : ℕ → Data
number_data n = number (unsigned n)

-- what stands in the fields of a place, of an heir and of a sum where there is one, and in those of a report's word
abbrev pub place_contents : Place → List Data
place_contents place = string place.device ∷ string place.path ∷ []

abbrev pub heir_contents : Option ℕ → List Data
heir_contents None = []
heir_contents (Some heir) = number_data heir ∷ []

abbrev pub sum_contents : Option (List ℕ) → List Data
sum_contents None = []
sum_contents (Some sum) = string sum ∷ []

abbrev pub contents_of : Report → List Data
contents_of (Register place sum) = place_contents place ++ sum_contents sum
contents_of (Duplicate copy place sum) = number_data copy ∷ place_contents place ++ sum_contents sum
contents_of (Edit copy sum) = number_data copy ∷ sum_contents sum
contents_of (Reconcile a b sum) = number_data a ∷ number_data b ∷ sum_contents sum
contents_of (Merge a b sum) = number_data a ∷ number_data b ∷ sum_contents sum
contents_of (Relocate copy place) = number_data copy ∷ place_contents place
contents_of (Remove copy heir) = number_data copy ∷ heir_contents heir
contents_of (Note copy sum) = number_data copy ∷ string sum ∷ []
contents_of (Confirm entry) = number_data entry ∷ []
contents_of (Withdraw entry) = number_data entry ∷ []

-- the members, with these contents in these fields, put in one after another
abbrev pub put_fields : List Field → List Data → Members → Members
put_fields (field ∷ fields) (content ∷ contents) members = put_fields fields contents (put (field_name field) content members)
put_fields _ _ members = members

-- the members, with those of a device's report put in
unfoldable pub put_report : List ℕ → Report → Members → Members
put_report by report members =
    put_fields (fields.By ∷ fields.Do ∷ fields_of (report_word report)) (string by ∷ string (word_name (report_word report)) ∷ contents_of report) members

-- the object of a device's report
unfoldable pub report_data : List ℕ → Report → Data
report_data by report = object (put_report by report no_members)

-- its text, with no blank
unfoldable pub report_text : List ℕ → Report → List ℕ
report_text by report = compact_text (report_data by report)

-- the object of an entry: its number, and its device's report
unfoldable pub entry_data : Entry → Data
entry_data entry = object (put_report entry.by entry.report (put (field_name fields.Number) (number_data entry.number) no_members))
