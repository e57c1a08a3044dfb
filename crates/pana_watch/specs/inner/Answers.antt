-- What answers have.
use Rattle.std.specs.Prelude.{◌≡◌, ℕ, List, ◌∷◌, Option}
use Rattle.pana_journal.specs.declared.entry.Entry.{Entry}
use Rattle.pana_calls.specs.declared.call.Call.{Call}
use Rattle.pana_calls.specs.declared.call.Call.TheVariants as calls
use Rattle.pana_calls.specs.declared.call.Query.TheVariants as queries
use Rattle.pana_journal.specs.Reports.{subject}
use Rattle.pana_calls.specs.declared.reply.Reply.TheVariants.{Journal}
use Rattle.pana_calls.specs.declared.answer.Answer.{Answer}
use Rattle.pana_calls.specs.declared.answer.Answer.TheVariants.{Given}

module _ {S : Type 0} (step : S → List ℕ → Call → Answer → S → Type 0) (by : List ℕ) where
  -- the entry with this number was asked for, and names this
  abbrev pub IsFirst : S → ℕ → S → Option ℕ → Type 0
  IsFirst old number new named = (entry : Entry) × (rest : List Entry) × step old by (calls.Query (queries.JournalFrom number)) (Given (Journal (entry ∷ rest))) new
      × (entry.number ≡ number) × (named ≡ subject entry.report)
