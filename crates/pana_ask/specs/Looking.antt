-- The numbers of copies at places, as a session answers them.
use Rattle.std.specs.Prelude.{◌≡◌, ◌⊎◌, ℕ, List, [], ◌∷◌, Option, Some, None, option_map}
use Rattle.pana_copies.specs.declared.place.Place.{Place}
use Rattle.pana_calls.specs.declared.call.Call.{Call}
use Rattle.pana_calls.specs.declared.call.Call.TheVariants as calls
use Rattle.pana_calls.specs.declared.call.Query.TheVariants as queries
use Rattle.pana_calls.specs.declared.reply.Reply.TheVariants as replies
use Rattle.pana_calls.specs.declared.answer.Answer.{Answer}
use Rattle.pana_calls.specs.declared.answer.Answer.TheVariants.{Given}
use Rattle.pana_ask.specs.declared.ask_fault.AskFault.{AskFault}
use Rattle.pana_ask.specs.declared.ask_fault.AskFault.TheVariants.{NoCopy, NoAnswer, OutOfMemory}

-- the number of the copy that an answer has found, or none where no copy is at the place; nothing where it is no answer to that
abbrev pub found_in : Answer → Option (Option ℕ)
found_in (Given (replies.At standing)) = Some (option_map (λ copy. copy.copy) standing)
found_in answer = None

-- the question which copy is at a place
abbrev pub at : Place → Call
at place = calls.Query (queries.At place)

module _ {S : Type 0} (step : S → List ℕ → Call → Answer → S → Type 0) where
  -- a device asks which copy is at a place, and it is this one, or none is
  abbrev pub LooksUp : List ℕ → Place → S → Option ℕ → S → Type 0
  LooksUp by place old copy new = (answer : Answer) × step old by (at place) answer new × (found_in answer ≡ Some copy)

  -- it asks so for one place after another, and these are the copies
  abbrev pub Finds : List ℕ → List Place → S → List ℕ → S → Type 0
  Finds by [] old [] new = new ≡ old
  Finds by [] old (copy ∷ copies) new = ⊥
  Finds by (place ∷ places) old [] new = ⊥
  Finds by (place ∷ places) old (copy ∷ copies) new = (mid : S) × LooksUp by place old (Some copy) mid × Finds by places mid copies new

  module _ (fails : S → List ℕ → Call → S → Type 0) where
    -- why no copy is known that is at a place: none is there; the question has no answer; or memory runs out before the question
    -- or for its answer
    abbrev pub IsInVain : List ℕ → Place → S → S → AskFault → Type 0
    IsInVain by place old new (NoCopy missing) = LooksUp by place old None new × (missing ≡ place)
    IsInVain by place old new NoAnswer = fails old by (at place) new
    IsInVain by place old new OutOfMemory = (new ≡ old) ⊎ ((answer : Answer) × step old by (at place) answer new)

    -- a device asks for one place after another, and no copy is known that is at the last of those it asks for
    abbrev pub LooksInVain : List ℕ → List Place → S → S → AskFault → Type 0
    LooksInVain by [] old new fault = ⊥
    LooksInVain by (place ∷ places) old new fault = IsInVain by place old new fault
        ⊎ ((mid : S) × (copy : ℕ) × LooksUp by place old (Some copy) mid × LooksInVain by places mid new fault)
