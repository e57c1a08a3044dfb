-- The lines that are printed.
use Rattle.std.specs.Prelude.{ℕ, Bool, true, false, List, ◌∷◌, ◌++◌, [], codes, decimal, Option, Some, None}
use Rattle.std.specs.List.{flat_map}
use Rattle.pana_copies.specs.declared.place.Place.{Place}
use Rattle.pana_journal.specs.declared.entry.Entry.{Entry}
use Rattle.pana_journal.specs.declared.report.Report.{Report}
use Rattle.pana_journal.specs.declared.report.Report.TheVariants.{Register, Duplicate, Edit, Reconcile, Merge, Relocate, Remove, Note, Confirm, Withdraw}
use Rattle.pana_journal.specs.Reports.{kind_name, kind_of}
use Rattle.pana_ask.specs.Place.{place_name}
use Rattle.pana_watch.specs.declared.family_change.FamilyChange.{FamilyChange}

-- a copy by its number
abbrev pub copy_text : ℕ → List ℕ
copy_text copy = codes "copy " ++ decimal copy

-- a copy and the place that it is put at
abbrev pub copy_to : ℕ → Place → List ℕ
copy_to copy place = codes "copy " ++ (decimal copy ++ (codes " to " ++ place_name place))

-- two copies
abbrev pub copies_text : ℕ → ℕ → List ℕ
copies_text a b = codes "copies " ++ (decimal a ++ (codes " and " ++ decimal b))

-- a copy, and the one that inherits, where one does
abbrev pub removed_text : ℕ → Option ℕ → List ℕ
removed_text copy None = copy_text copy
removed_text copy (Some heir) = codes "copy " ++ (decimal copy ++ (codes ", heir " ++ decimal heir))

-- an entry by its number
abbrev pub entry_text : ℕ → List ℕ
entry_text entry = codes "entry " ++ decimal entry

-- what a report is of
abbrev pub subject_text : Report → List ℕ
subject_text (Register place sum) = place_name place
subject_text (Duplicate copy place sum) = copy_to copy place
subject_text (Edit copy sum) = copy_text copy
subject_text (Reconcile a b sum) = copies_text a b
subject_text (Merge a b sum) = copies_text a b
subject_text (Relocate copy place) = copy_to copy place
subject_text (Remove copy heir) = removed_text copy heir
subject_text (Note copy sum) = copy_text copy
subject_text (Confirm entry) = entry_text entry
subject_text (Withdraw entry) = entry_text entry

-- the line of an entry: its number, its kind, who reported it, and of what
abbrev pub entry_line : Entry → List ℕ
entry_line entry = decimal entry.number ++ (codes " " ++ (kind_name (kind_of entry.report) ++ (codes " by " ++ (entry.by ++ (codes ": " ++ (subject_text entry.report ++ codes "\n"))))))

-- a line for each entry, in order
abbrev pub entry_lines : List Entry → List ℕ
entry_lines entries = flat_map entry_line entries

-- the word for what a family has become
abbrev pub split_word : Bool → List ℕ
split_word true = codes "split"
split_word false = codes "whole"

-- the line that a family has become split or whole
abbrev pub change_line : FamilyChange → List ℕ
change_line change = codes "family " ++ (decimal change.family ++ (codes " is " ++ (split_word change.split ++ codes "\n")))

abbrev pub line_or_none : Option FamilyChange → List ℕ
line_or_none None = []
line_or_none (Some change) = change_line change

-- a line for each change, in order
abbrev pub change_lines : List (Option FamilyChange) → List ℕ
change_lines changes = flat_map line_or_none changes
