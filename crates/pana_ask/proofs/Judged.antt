-- Where a copy has gone since it was found.
use Rattle.std.proofs.Common.{◌≡◌, ℕ, ◌==◌, cond, List, [], ◌∷◌, Some, inr}
use Rattle.pana_copies.specs.declared.place.Place.{Place}
use Rattle.pana_calls.specs.declared.answer.Answer.{Answer}
use Rattle.pana_calls.specs.declared.call.Call.{Call}
use Rattle.pana_ask.specs.declared.ask_fault.AskFault.TheVariants.{NoCopy}
use Rattle.pana_ask.specs.Looking.{Finds}
use Rattle.pana_ask.specs.Verdict.{JudgesNothing, gone_in, pair}

module _ {S : Type 0} (step : S → List ℕ → Call → Answer → S → Type 0) (fails : S → List ℕ → Call → S → Type 0) (by : List ℕ) (target source : Place) where
  pub gone_since : (old mid new : S) (copy other gone : ℕ) (answer : Answer) (missing : Place) → Finds step by (target ∷ source ∷ []) old (copy ∷ other ∷ []) mid
      → step mid by (pair copy other) answer new → gone_in answer ≡ Some gone → missing ≡ cond (gone == copy) target source → JudgesNothing step fails by target source old new (NoCopy missing)
  gone_since old mid new copy other gone answer missing finds asks is_gone is =
      inr (answer, copy, gone, record { other = other; mid = mid; finds = finds; asks = asks }, is_gone, is)
