-- A session that answers every call never ends for want of an answer.
use Rattle.std.specs.Prelude.{◌≢◌, ℕ, Bool, false, List, [], ◌∷◌}
use Rattle.std.proofs.Common.{subst}
use Rattle.pana_calls.specs.declared.call.Call.{Call}
use Rattle.pana_calls.specs.declared.answer.Answer.{Answer}
use Rattle.pana_wire.specs.declared.serving.ServeFault.{ServeFault}
use Rattle.pana_wire.specs.declared.serving.ServeFault.TheVariants.{NoAnswer}
use Rattle.pana_wire.specs.Session.{FailsNext, EndsBy}
use Rattle.pana_commands.specs.Never.{IsNever}

never_fails : {S : Type 0} (old : S) (lines : List (List ℕ)) (new : S) → FailsNext false IsNever old lines new → ⊥
never_fails old [] new fails = fails
never_fails old (line ∷ lines) new (m, says, never) = never

pub always_answered : {S : Type 0} (step : S → List ℕ → Call → Answer → S → Type 0) (fault : ServeFault) (met : Bool) (old : S) (input output : List ℕ) (new : S)
    → EndsBy step false IsNever fault met old input output new → fault ≢ NoAnswer
always_answered step fault met old input output new ends spent =
    let (made, failed, written) = subst (λ f. EndsBy step false IsNever f met old input output new) spent ends in
    never_fails made.last made.others new failed
