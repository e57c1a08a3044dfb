-- What calls do to the state of a session, one after another.
use Rattle.std.specs.Prelude.{◌≡◌, ◌<◌, ℕ, List, [], ◌∷◌, ◌++◌, length}
use Rattle.pana_calls.specs.declared.answer.Answer.{Answer}
use Rattle.pana_calls.specs.declared.call.Call.{Call}
use Rattle.pana_calls.specs.declared.message.Message.{Message}

-- a relation over calls that have no answers, of one call
abbrev pub one : {S : Type 0} → (S → List Message → S → Type 0) → S → List ℕ → Call → S → Type 0
one fails old by call new = fails old (record { by = by; call = call } ∷ []) new

-- the same of a relation over one call: of more calls at once it says nothing, since they never are
abbrev pub alone : {S : Type 0} → (S → List ℕ → Call → S → Type 0) → S → List Message → S → Type 0
alone fails old [] new = ⊥
alone fails old (message ∷ []) new = fails old message.by message.call new
alone fails old (message ∷ next ∷ messages) new = ⊥

-- calls are made one after another, and these are their answers
abbrev pub MakesAll : {S : Type 0} → (S → List ℕ → Call → Answer → S → Type 0) → S → List Message → List Answer → S → Type 0
MakesAll step old [] [] new = new ≡ old
MakesAll step old [] (answer ∷ answers) new = ⊥
MakesAll step old (message ∷ messages) [] new = ⊥
MakesAll {S = S} step old (message ∷ messages) (answer ∷ answers) new = (mid : S) × step old message.by message.call answer mid × MakesAll step mid messages answers new

-- the same, and the answers are added to others
pub record AddsAll {S : Type 0} (step : S → List ℕ → Call → Answer → S → Type 0) (old : S) (messages : List Message) (answers_old answers_new : List Answer) (new : S) : Type 0 where
  pub given : List Answer
  pub adds : answers_new ≡ answers_old ++ given
  pub makes : MakesAll step old messages given new

-- the first of the calls are made, and their answers are added to others; and the next ones have no answers, one or more
pub record AddsSome {S : Type 0} (step : S → List ℕ → Call → Answer → S → Type 0) (fails : S → List Message → S → Type 0) (old : S) (messages : List Message) (answers_old answers_new : List Answer) (new : S) : Type 0 where
  pub made : List Message
  pub tried : List Message
  pub left : List Message
  pub split : messages ≡ made ++ (tried ++ left)
  pub some : 0 < length tried
  pub mid : S
  pub adds : AddsAll step old made answers_old answers_new mid
  pub failed : fails mid tried new
