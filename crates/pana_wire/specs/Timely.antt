-- When answers are written, where each call is settled once it is made: those of several calls are written together, once all of
-- these are made, at the moment of the state that the last one left. So no byte of an answer is taken before its call was made.
use Rattle.std.specs.Prelude.{◌≡◌, ℕ, List, [], ◌++◌, ◌⊎◌, Option, Bool}
use Rattle.pana_calls.specs.declared.call.Call.{Call}
use Rattle.pana_calls.specs.declared.answer.Answer.{Answer}
use Rattle.pana_calls.specs.declared.message.Message.{Message}
use Rattle.pana_wire.specs.declared.tap.Tap.{Tap}
use Rattle.pana_wire.specs.declared.serving.ServeFault.{ServeFault}
use Rattle.pana_wire.specs.Groups.{AnswersGroups, BreaksGroup}
use Rattle.pana_wire.specs.Tap.{Note, IsNoted}

-- nothing is done
abbrev pub IsSame : {S : Type 0} → S → S → Type 0
IsSame old new = new ≡ old

-- it never comes to this
abbrev pub IsNever : {S : Type 0} → S → S → Type 0
IsNever old new = ⊥

-- to settle does nothing, and never fails
abbrev pub IsSettledAlways : {S : Type 0} → (S → S → Type 0) → (S → S → Type 0) → Type 0
IsSettledAlways {S = S} settles breaks_off = ((old : S) → (new : S) → settles old new → new ≡ old) × ((old : S) → (new : S) → breaks_off old new → ⊥)

-- what was written since, and noted, are the answers of groups of lines, those of each group at the moment of the state that
-- its calls left, up to where they end
pub record IsTimely {W S : Type 0} (contents : W → Option (List ℕ)) (step : S → List ℕ → Call → Answer → S → Type 0) (together : Bool) (fails : S → List Message → S → Type 0) (moment : S → ℕ)
    (writer_old writer_new : Tap W) (old new : S) : Type 0 where
  pub groups : List (List (List ℕ))
  pub others : List (List ℕ)
  pub whole : List Note
  pub part : List Note
  pub last : S
  pub steps : ℕ
  pub notes : IsNoted contents writer_old writer_new (whole ++ part)
  pub answers : AnswersGroups step IsSame moment old groups whole last steps
  pub ends : ((part ≡ []) × (new ≡ last)) ⊎ ((fault : ServeFault) × BreaksGroup step together fails IsSame IsNever moment fault last others part new)
