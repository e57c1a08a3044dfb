-- The family of an entry.
use Rattle.std.specs.Prelude.{ℕ, Bool, true, false, ◌==◌, List, filter, Option, Some, None, fold, if◌then◌else◌}
use Rattle.pana_journal.specs.declared.report.Report.{Report}
use Rattle.pana_journal.specs.declared.report.Report.TheVariants.{Register, Duplicate, Edit, Reconcile, Merge, Relocate, Remove, Note, Confirm, Withdraw}
use Rattle.pana_journal.specs.declared.entry.Entry.{Entry}
use Rattle.pana_journal.specs.Entries.{entry_at}
use Rattle.pana_journal.specs.Reports.{subject}
use Rattle.pana_family.specs.declared.report.FamilyReport.{FamilyReport}
use Rattle.pana_family.specs.declared.report.FamilyReport.TheVariants as family

-- the family of entry n with this subject, where family_of gives that of each entry before
abbrev pub begun_or_joined : (ℕ → ℕ) → ℕ → Option ℕ → ℕ
begun_or_joined family_of n None = n
begun_or_joined family_of n (Some number) = family_of number

-- the families, once one entry more is known
abbrev pub with_entry : (ℕ → ℕ) → Entry → ℕ → ℕ
with_entry family_of entry n = if n == entry.number then begun_or_joined family_of entry.number (subject entry.report) else family_of n

-- the family of each entry of a journal, by its number; a copy is of the family of the entry that made it
abbrev pub families : List Entry → ℕ → ℕ
families journal = fold with_entry (λ n. n) journal

-- what a report says of copies of a family that has begun, if it does
abbrev pub family_report : Report → Option FamilyReport
family_report (Register place sum) = None
family_report (Duplicate source place sum) = Some (family.Duplicate source)
family_report (Edit copy sum) = Some (family.Edit copy)
family_report (Reconcile a b sum) = Some (family.Reconcile a b)
family_report (Merge a b sum) = Some (family.Merge a b)
family_report (Relocate copy place) = Some (family.Touch copy)
family_report (Remove copy heir) = Some (family.Remove copy heir)
family_report (Note copy sum) = Some (family.Touch copy)
family_report (Confirm entry) = None
family_report (Withdraw entry) = None

-- the entries of a family
abbrev pub entries_of : ℕ → (ℕ → ℕ) → List Entry → List Entry
entries_of family family_of entries = filter (λ entry. family_of entry.number == family) entries

-- whether the report begins a family
abbrev pub is_register : Report → Bool
is_register (Register place sum) = true
is_register _ = false

-- whether the report makes a copy of another
abbrev pub is_duplicate : Report → Bool
is_duplicate (Duplicate copy place sum) = true
is_duplicate _ = false

-- whether there is such an entry, and its report passes the test
abbrev pub has_report : (Report → Bool) → Option Entry → Bool
has_report test None = false
has_report test (Some entry) = test entry.report

-- whether the number is that of a Register entry
abbrev pub is_family : List Entry → ℕ → Bool
is_family journal number = has_report is_register (entry_at journal number)
