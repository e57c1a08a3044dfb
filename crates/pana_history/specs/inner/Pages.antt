-- One page.
use Rattle.std.specs.Prelude.{◌≡◌, ℕ, List, Option}
use Rattle.pana_journal.specs.declared.entry.Entry.{Entry}
use Rattle.pana_calls.specs.declared.call.Call.{Call}
use Rattle.pana_calls.specs.declared.call.Call.TheVariants as questions
use Rattle.pana_calls.specs.declared.call.Query.TheVariants as queries
use Rattle.pana_calls.specs.Parts.{journal_in}
use Rattle.pana_calls.specs.declared.answer.Answer.{Answer}

-- the device asks for a page
abbrev pub AsksPage : {S : Type 0} → (S → List ℕ → Call → Answer → S → Type 0) → List ℕ → ℕ → S → S → Option (List Entry) → Type 0
AsksPage step by from old new page = (answer : Answer) × step old by (questions.Query (queries.JournalFrom from)) answer new × (page ≡ journal_in answer)
