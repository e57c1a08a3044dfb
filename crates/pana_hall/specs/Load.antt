-- Why entries are not loaded.
use Rattle.std.specs.Prelude.{◌≡◌, ◌≢◌, ℕ, ◌+◌, List, ◌∷◌, ◌++◌, length, codes, decimal, ◌⊎◌}
use Rattle.pana_journal.specs.declared.entry.Entry.{Entry}
use Rattle.pana_calls.specs.declared.call.Call.TheVariants as calls
use Rattle.pana_calls.specs.declared.cause.Cause.TheVariants as causes
use Rattle.pana_calls.specs.declared.reply.Reply.TheVariants as replies
use Rattle.pana_hall.specs.declared.load_fault.LoadFault.{LoadFault}
use Rattle.pana_hall.specs.declared.load_fault.LoadCause.{LoadCause}
use Rattle.pana_hall.specs.declared.load_fault.LoadCause.TheVariants.{OutOfOrder, Refused}
use Rattle.pana_calls.specs.Cause.{shown_cause}
use Rattle.pana_hall.specs.Accepted.{IsAccepted}
use Rattle.pana_hall.specs.Permit.{Permits}

-- why an entry is not the next one of the journal: it has another number, or its report is refused so
abbrev pub Stops : List Entry → Entry → LoadCause → Type 0
Stops journal entry OutOfOrder = entry.number ≢ length journal + 1
Stops journal entry (Refused cause) = (entry.number ≡ length journal + 1) × Permits journal entry.by (calls.Report entry.report) (replies.Refused cause)

-- the entries before one are those of an accepted journal, and that one stops; it stands at this position, from 1
pub record StopsAt (entries : List Entry) (fault : LoadFault) : Type 0 where
  pub before : List Entry
  pub entry : Entry
  pub rest : List Entry
  pub whole : entries ≡ before ++ entry ∷ rest
  pub accepted : IsAccepted 8 before
  pub at : fault.at ≡ length before + 1
  pub stops : Stops before entry fault.cause

-- the new hall itself ran out of memory, or one of the entries stops
abbrev pub IsLoadFault : List Entry → LoadFault → Type 0
IsLoadFault entries fault = ((fault.at ≡ 0) × (fault.cause ≡ Refused causes.OutOfMemory)) ⊎ StopsAt entries fault

-- how it is printed where loading stopped, and why
abbrev pub shown_load_cause : LoadCause → List ℕ
shown_load_cause OutOfOrder = codes "OutOfOrder"
shown_load_cause (Refused cause) = shown_cause cause

abbrev pub shown_load_fault : LoadFault → List ℕ
shown_load_fault fault = codes "entry " ++ decimal fault.at ++ codes ": " ++ shown_load_cause fault.cause
