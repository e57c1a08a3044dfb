-- The desk of a session that all share: what a request does to the session, and what contracts see of a pass.
use Rattle.std.specs.Prelude.{◌≡◌, ℕ, Bool, true, false, List, [], None, Some, is_some}
use Rattle.pana_calls.specs.Session.{AddsAll, AddsSome, one}
use Rattle.pana_calls.specs.declared.call.Call.{Call}
use Rattle.pana_calls.specs.declared.answer.Answer.{Answer as AnswerOf}
use Rattle.pana_calls.specs.declared.message.Message.{Message}
use Rattle.pana_turn.specs.declared.finished_call.FinishedCall.{FinishedCall}
use Rattle.pana_turn.specs.Passes.{PassView as ViewOf}
use Rattle.pana_daemon.specs.declared.request.Request.{Request}
use Rattle.pana_daemon.specs.declared.request.Request.TheVariants.{Make, MakeAll, Settle}
use Rattle.pana_daemon.specs.declared.request.Response.{Response}
use Rattle.pana_daemon.specs.declared.request.Response.TheVariants.{Answer, Answers, Settled, Nothing}

-- A call of a device, which was answered as this or has no answer, does what the session says of that; so do the calls of a list, one
-- after another, up to those that have no answers; and so it does where it settles, or can't.
module _ {S : Type 0} (step : S → List ℕ → Call → AnswerOf → S → Type 0) (fails : S → List Message → S → Type 0) (settles breaks_off : S → S → Type 0) where
  abbrev pub RequestSteps : S → Request → Response → S → Type 0
  RequestSteps old (Make message) (Answer answer) new = step old message.by message.call answer new
  RequestSteps old (Make message) (Nothing recovers) new = one fails old message.by message.call new
  RequestSteps old (MakeAll messages) (Answers answers None) new = AddsAll step old messages [] answers.items new
  RequestSteps old (MakeAll messages) (Answers answers (Some recovers)) new = AddsSome step fails old messages [] answers.items new
  RequestSteps old Settle Settled new = settles old new
  RequestSteps old Settle (Nothing recovers) new = breaks_off old new
  RequestSteps old request response new = ⊥

-- so does a session that answers every call, and keeps it once it is made
abbrev pub AnsweredSteps : {S : Type 0} → (S → List ℕ → Call → AnswerOf → S → Type 0) → S → Request → Response → S → Type 0
AnsweredSteps step = RequestSteps step (λ old calls new. ⊥) (λ old new. new ≡ old) (λ old new. ⊥)

-- the answers that came of a list of calls
abbrev pub answers_in : Response → List AnswerOf
answers_in (Answers answers stopped) = answers.items
answers_in response = []

-- whether nothing has come of a request, or not all
abbrev pub is_nothing : Response → Bool
is_nothing (Answer answer) = false
is_nothing (Answers answers stopped) = is_some stopped
is_nothing Settled = false
is_nothing (Nothing recovers) = true

-- whether nothing has come of a request, or not all, though later ones may have answers
abbrev pub is_passing : Response → Bool
is_passing (Answer answer) = false
is_passing (Answers answers None) = false
is_passing (Answers answers (Some recovers)) = recovers
is_passing Settled = false
is_passing (Nothing recovers) = recovers

-- a pass: its desk, its number there, and the history that it has seen
abbrev pub PassView : Type 0 → Type 0
PassView S = ViewOf S Request Response

-- a request that the desk has finished
abbrev pub Finished : Type 0 → Type 0
Finished S = FinishedCall S Request Response
