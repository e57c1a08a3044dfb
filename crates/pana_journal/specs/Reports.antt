-- Of what kind reports are, how kinds are named, to whose family reports belong, and what they say of the bytes that copies hold.
use Rattle.std.specs.Prelude.{ℕ, List, [], ◌∷◌, codes, find, Option, Some, None}
use Rattle.std.specs.Str.{bytes_eq}
use Rattle.pana_journal.specs.declared.report.Report.{Report}
use Rattle.pana_journal.specs.declared.report.Report.TheVariants.{Register, Duplicate, Edit, Reconcile, Merge, Relocate, Remove, Note, Confirm, Withdraw}
use Rattle.pana_journal.specs.declared.report_kind.ReportKind.{ReportKind}
use Rattle.pana_journal.specs.declared.report_kind.ReportKind.TheVariants as kinds

-- the kind of a report
abbrev pub kind_of : Report → ReportKind
kind_of (Register place sum) = kinds.Register
kind_of (Duplicate copy place sum) = kinds.Duplicate
kind_of (Edit copy sum) = kinds.Edit
kind_of (Reconcile a b sum) = kinds.Reconcile
kind_of (Merge a b sum) = kinds.Merge
kind_of (Relocate copy place) = kinds.Relocate
kind_of (Remove copy heir) = kinds.Remove
kind_of (Note copy sum) = kinds.Note
kind_of (Confirm entry) = kinds.Confirm
kind_of (Withdraw entry) = kinds.Withdraw

-- the name of a kind
abbrev pub kind_name : ReportKind → List ℕ
kind_name kinds.Register = codes "register"
kind_name kinds.Duplicate = codes "duplicate"
kind_name kinds.Edit = codes "edit"
kind_name kinds.Reconcile = codes "reconcile"
kind_name kinds.Merge = codes "merge"
kind_name kinds.Relocate = codes "relocate"
kind_name kinds.Remove = codes "remove"
kind_name kinds.Note = codes "note"
kind_name kinds.Confirm = codes "confirm"
kind_name kinds.Withdraw = codes "withdraw"

-- all kinds
abbrev pub all_kinds : List ReportKind
all_kinds = kinds.Register ∷ kinds.Duplicate ∷ kinds.Edit ∷ kinds.Reconcile ∷ kinds.Merge ∷ kinds.Relocate ∷ kinds.Remove ∷ kinds.Note ∷ kinds.Confirm ∷ kinds.Withdraw ∷ []

-- the kind that has this name
unfoldable pub kind_named : List ℕ → Option ReportKind
kind_named text = find (λ kind. bytes_eq (kind_name kind) text) all_kinds

-- the copy, or the entry, to whose family a report belongs. A Register names none: it begins a family of its own
abbrev pub subject : Report → Option ℕ
subject (Register place sum) = None
subject (Duplicate copy place sum) = Some copy
subject (Edit copy sum) = Some copy
subject (Reconcile a b sum) = Some a
subject (Merge a b sum) = Some a
subject (Relocate copy place) = Some copy
subject (Remove copy heir) = Some copy
subject (Note copy sum) = Some copy
subject (Confirm entry) = Some entry
subject (Withdraw entry) = Some entry

-- the sum that a report gives, if it does
abbrev pub given_sum : Report → Option (List ℕ)
given_sum (Register place sum) = sum
given_sum (Duplicate copy place sum) = sum
given_sum (Edit copy sum) = sum
given_sum (Reconcile a b sum) = sum
given_sum (Merge a b sum) = sum
given_sum (Note copy sum) = Some sum
given_sum _ = None
