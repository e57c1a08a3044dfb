-- Calls that a session makes, one after another.
use Rattle.std.specs.Prelude.{◌≡◌, ℕ, List, [], ◌∷◌}
use Rattle.pana_calls.specs.declared.call.Call.{Call}
use Rattle.pana_calls.specs.declared.answer.Answer.{Answer}
use Rattle.pana_calls.specs.declared.message.Message.{Message}

-- a call that was answered: the device that makes it, the call, and its answer
pub record Asked : Type 0 where
  pub by : List ℕ
  pub call : Call
  pub answer : Answer

-- the session makes these calls, one after another, and gets these answers
abbrev pub Makes : {S : Type 0} → (S → List ℕ → Call → Answer → S → Type 0) → S → List Asked → S → Type 0
Makes step old [] new = new ≡ old
Makes {S = S} step old (made ∷ more) new = (mid : S) × step old made.by made.call made.answer mid × Makes step mid more new

-- calls that were answered: these messages, as far as there are answers
abbrev pub asked : List Message → List Answer → List Asked
asked messages [] = []
asked [] (answer ∷ answers) = []
asked (message ∷ messages) (answer ∷ answers) = record { by = message.by; call = message.call; answer = answer } ∷ asked messages answers
