-- A table of which entry withdraws each entry.
use Rattle.std.specs.Prelude.{ℕ, ◌-◌, ◌==◌, ◌&&◌, Bool, List, fold, Option, Some, None, is_none, unwrap_or, slice_get, slice_index_or, slice_set, if◌then◌else◌}
use Rattle.std.specs.Option.{option_or}
use Rattle.pana_journal.specs.declared.entry.Entry.{Entry}
use Rattle.pana_journal.specs.declared.report.Report.{Report}
use Rattle.pana_journal.specs.declared.report.Report.TheVariants.{Withdraw}
use Rattle.pana_hall.specs.Effective.{is_of_copies}
use Rattle.pana_history.specs.Lanes.{withdrawal_of}

-- the number that stands for entry n, at index n - 1
abbrev pub withdrawal_in : List (Option ℕ) → ℕ → Option ℕ
withdrawal_in table n = if n == 0 then None else unwrap_or (slice_get table (n - 1)) None

-- the table, where entry n is withdrawn by another, and wasn't yet
abbrev pub withdrawn_by : ℕ → ℕ → List (Option ℕ) → List (Option ℕ)
withdrawn_by n by table = if n == 0 then table else slice_set table (n - 1) (option_or (slice_index_or table (n - 1) None) (Some by))

abbrev pub noted : ℕ → Report → List (Option ℕ) → List (Option ℕ)
noted by (Withdraw n) table = withdrawn_by n by table
noted by _ table = table

-- the table behind these entries
abbrev pub behind_all : List (Option ℕ) → List Entry → List (Option ℕ)
behind_all table entries = fold (λ so_far entry. noted entry.number entry.report so_far) table entries

-- whether an entry of a file counts, by the file's entries
abbrev pub counts : List Entry → Entry → Bool
counts own entry = is_of_copies entry.report && is_none (withdrawal_of own entry.number)
