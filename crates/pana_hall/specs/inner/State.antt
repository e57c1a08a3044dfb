-- What a hall keeps, as a whole.
use Rattle.std.specs.Prelude.{◌≡◌, ◌⊎◌, ℕ, ◌+◌, List, [], ◌∷◌, ◌++◌, length, Some, None}
use Rattle.pana_journal.specs.declared.report.Report.{Report}
use Rattle.pana_journal.specs.declared.entry.Entry.{Entry}
use Rattle.pana_calls.specs.declared.cause.Cause.{Cause}
use Rattle.pana_calls.specs.declared.cause.Cause.TheVariants.{OutOfMemory}
use Rattle.pana_hall.specs.declared.state.State.{State}
use Rattle.pana_hall.specs.Refusal.{report_refusal}
use Rattle.pana_hall.specs.Living.{living}
use Rattle.pana_hall.specs.inner.Listed.{all_listed}
use Rattle.pana_hall.specs.inner.Kept.{IsKept, next_entry}

-- all is kept of its journal
abbrev pub IsHeld : State → Type 0
IsHeld state = IsKept state.journal.entries (all_listed state.families.list.items) state.families.positions.items state.copies state.contents.entries.items

-- the report is the journal's next entry, and all is kept of it
pub record Records (journal : List Entry) (by : List ℕ) (report : Report) (n : ℕ) (state : State) : Type 0 where
  pub number : n ≡ length journal + 1
  pub entries : state.journal.entries ≡ journal ++ next_entry journal by report ∷ []
  pub kept : IsHeld state

-- the report is refused for this cause, or nothing stands against it and memory ran out
abbrev pub IsRefused : List Entry → List ℕ → Report → Cause → Type 0
IsRefused journal by report cause = (report_refusal 8 journal (living journal) by report ≡ Some cause) ⊎ ((report_refusal 8 journal (living journal) by report ≡ None) × (cause ≡ OutOfMemory))
