-- One page, and where no further one is answered.
use Rattle.std.specs.Prelude.{◌≡◌, ℕ, List, Option, None}
use Rattle.pana_calls.specs.declared.call.Call.{Call}
use Rattle.pana_calls.specs.declared.call.Call.TheVariants as questions
use Rattle.pana_calls.specs.declared.call.Query.TheVariants as queries
use Rattle.pana_calls.specs.Parts.{status_in}
use Rattle.pana_calls.specs.declared.standing.StatusRow.{StatusRow}
use Rattle.pana_calls.specs.declared.answer.Answer.{Answer}
use Rattle.pana_track.specs.Calls.{Asked, Makes}

-- the device asks for a page
abbrev pub AsksPage : {S : Type 0} → (S → List ℕ → Call → Answer → S → Type 0) → List ℕ → ℕ → S → S → Option (List StatusRow) → Type 0
AsksPage step by from old new page = (answer : Answer) × step old by (questions.Query (queries.Status None from)) answer new × (page ≡ status_in answer)

-- the device asks for pages, and one has no answer
pub record Stops {S : Type 0} (step : S → List ℕ → Call → Answer → S → Type 0) (fails : S → List ℕ → Call → S → Type 0) (by : List ℕ) (old new : S) : Type 0 where
  pub made : List Asked
  pub mid : S
  pub from : ℕ
  pub calls : Makes step old made mid
  pub failed : fails mid by (questions.Query (queries.Status None from)) new
