-- The families of a journal's entries, and the entries of one, as entries come.
use Rattle.std.specs.Prelude.{ℕ, ◌-◌, ◌==◌, not, List, [], ◌∷◌, ◌++◌, filter, slice_get, unwrap_or, if◌then◌else◌}
use Rattle.pana_journal.specs.declared.entry.Entry.{Entry}
use Rattle.pana_journal.specs.declared.report.Report.{Report}
use Rattle.pana_journal.specs.declared.report.Report.TheVariants.{Confirm, Withdraw}

-- the family of the entry with this number, by those of all entries so far; of one that isn't there, the number itself
abbrev pub family_in : List ℕ → ℕ → ℕ
family_in families number = if number == 0 then number else unwrap_or (slice_get families (number - 1)) number

-- the entries of a family that count, once it has this entry with this report
abbrev pub with_report : Entry → Report → List Entry → List Entry
with_report entry (Confirm number) entries = entries
with_report entry (Withdraw number) entries = filter (λ e. not (number == e.number)) entries
with_report entry report entries = entries ++ entry ∷ []

abbrev pub with_next : Entry → List Entry → List Entry
with_next entry entries = with_report entry entry.report entries
