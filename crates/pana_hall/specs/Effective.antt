-- The entries that count.
use Rattle.std.specs.Prelude.{ℕ, Bool, true, false, ◌==◌, ◌&&◌, not, List, [], ◌∷◌, filter, if◌then◌else◌}
use Rattle.std.specs.List.{list_any}
use Rattle.pana_journal.specs.declared.report.Report.{Report}
use Rattle.pana_journal.specs.declared.report.Report.TheVariants.{Confirm, Withdraw}
use Rattle.pana_journal.specs.declared.entry.Entry.{Entry}
use Rattle.pana_family.specs.Updates.{has}

-- whether it is a report of copies, as each but a Confirm and a Withdraw is
abbrev pub is_of_copies : Report → Bool
is_of_copies (Confirm entry) = false
is_of_copies (Withdraw entry) = false
is_of_copies _ = true

-- whether the report withdraws entry n
abbrev pub withdraws : ℕ → Report → Bool
withdraws n (Withdraw entry) = entry == n
withdraws n _ = false

-- whether one of the entries withdraws entry n
abbrev pub is_withdrawn : ℕ → List Entry → Bool
is_withdrawn n entries = list_any (λ entry. withdraws n entry.report) entries

-- the entries that are reports of copies, and that no later one withdraws
abbrev pub effective : List Entry → List Entry
effective [] = []
effective (entry ∷ later) = if is_of_copies entry.report && not (is_withdrawn entry.number later) then entry ∷ effective later else effective later

-- the entries but those with one of these numbers
abbrev pub left_out : List ℕ → List Entry → List Entry
left_out numbers entries = filter (λ entry. not (has numbers entry.number)) entries
