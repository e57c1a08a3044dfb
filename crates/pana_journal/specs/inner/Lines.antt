-- What a journal keeps of its entries.
use Rattle.std.specs.Prelude.{◌≡◌, ℕ, ◌+◌, ◌<◌, ◌≤◌, List, [], ◌∷◌, length, None, Some, get_or, slice_get}
use Rattle.pana_journal.specs.declared.entry.Entry.{Entry}
use Rattle.pana_journal.specs.declared.report.Report.{Report}
use Rattle.pana_journal.specs.declared.report.Report.TheVariants as reports
use Rattle.pana_journal.specs.declared.line.Line.{Line}
use Rattle.pana_journal.specs.declared.line.Kept.{Kept}
use Rattle.pana_journal.specs.declared.line.Kept.TheVariants as kinds

-- the report that is kept so, where these are the others
abbrev pub report_kept : List Report → Kept → Report
report_kept others (kinds.Edit copy) = reports.Edit copy None
report_kept others (kinds.Reconcile a b) = reports.Reconcile a b None
report_kept others (kinds.Merge a b) = reports.Merge a b None
report_kept others (kinds.Remove copy) = reports.Remove copy None
report_kept others (kinds.Bequeath copy heir) = reports.Remove copy (Some heir)
report_kept others (kinds.Confirm entry) = reports.Confirm entry
report_kept others (kinds.Withdraw entry) = reports.Withdraw entry
report_kept others (kinds.Other index) = get_or others index (reports.Confirm 0)

-- the entry with this number that a line is
abbrev pub entry_kept : List (List ℕ) → List Report → ℕ → Line → Entry
entry_kept names others number line = record { number = number; by = get_or names line.by []; report = report_kept others line.report }

-- the entries that lines are, numbered from this one on
unfoldable pub entries_kept : List (List ℕ) → List Report → ℕ → List Line → List Entry
entries_kept names others number [] = []
entries_kept names others number (line ∷ lines) = entry_kept names others number line ∷ entries_kept names others (number + 1) lines

-- the report that is kept so is there, where there are so many others
abbrev pub IsThere : ℕ → Kept → Type 0
IsThere others (kinds.Other index) = index < others
IsThere others _ = Unit {0}

-- of each line the name and the report are there
abbrev pub AreThere : List (List ℕ) → List Report → List Line → Type 0
AreThere names others lines = (i : ℕ) (line : Line) → slice_get lines i ≡ Some line → (line.by < length names) × IsThere (length others) line.report

-- what stands in a list stands in the other one too
abbrev pub Keeps : {X : Type 0} → List X → List X → Type 0
Keeps xs ys = (i : ℕ) → i < length xs → slice_get ys i ≡ slice_get xs i

-- in a list of so many items, of so many that it has memory for, there are no more than lines, and there is room for so many more
abbrev pub HasRoom : (lines room length capacity : ℕ) → Type 0
HasRoom lines room length capacity = (length ≤ lines) × (length + room ≤ capacity)
