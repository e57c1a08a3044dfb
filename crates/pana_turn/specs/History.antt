-- Call histories: the calls that a desk has finished, one after another.
use Rattle.std.specs.Prelude.{◌==◌, ℕ, List, [], ◌∷◌, filter}
use Rattle.pana_turn.specs.declared.finished_call.FinishedCall.{FinishedCall}

module _ {S C R : Type 0} where
  -- each call is one that the machine may make of the state that those before it left, and it leaves the state that is said
  abbrev pub IsHistory : (S → C → R → S → Type 0) → S → List (FinishedCall S C R) → Type 0
  IsHistory step begun [] = Unit {0}
  IsHistory step begun (finished ∷ history) = step begun finished.call finished.reply finished.left × IsHistory step finished.left history

  -- the state that the history leaves
  abbrev pub left_by : S → List (FinishedCall S C R) → S
  left_by begun [] = begun
  left_by begun (finished ∷ history) = left_by finished.left history

  -- the calls of one pass, in order
  abbrev pub calls_of : ℕ → List (FinishedCall S C R) → List (FinishedCall S C R)
  calls_of number history = filter (λ finished. finished.pass == number) history
