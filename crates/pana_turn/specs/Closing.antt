-- The end of a desk.
use Rattle.std.specs.Prelude.{◌≡◌, ◌==◌, ℕ, ◌<◌, Bool, true, false, List, length, All}
use Rattle.std.specs.List.{list_any}
use mathlib.Core.List.{IsPrefix}
use Rattle.pana_turn.specs.declared.finished_call.FinishedCall.{FinishedCall}
use Rattle.pana_turn.specs.History.{IsHistory, calls_of, left_by}
use Rattle.pana_turn.specs.Passes.{PassView, own_calls}

module _ {S C R : Type 0} where
  -- the state and the number of calls are those that one history of these passes' calls leaves, from the state that the
  -- desk was opened with
  pub record Closes (step : S → C → R → S → Type 0) (seats : ℕ) (begun : S) (passes : List (PassView S C R)) (machine : S) (calls : ℕ) : Type 0 where
    pub history : List (FinishedCall S C R)
    pub run : IsHistory step begun history
    pub left : machine ≡ left_by begun history
    pub counted : calls ≡ length history
    -- it begins with what each pass has seen
    pub seen : All (λ pass. IsPrefix pass.seen history) passes
    -- its calls with a pass's number are that pass's own
    pub own : All (λ pass. calls_of pass.number history ≡ own_calls pass) passes
    -- and it has no others
    pub others : All (λ finished. finished.pass < seats) history

  -- whether the list has the pass with this number
  abbrev pub has_pass : List (PassView S C R) → ℕ → Bool
  has_pass passes number = list_any (λ pass. pass.number == number) passes

  -- the list has every pass of the desk
  abbrev pub HasAll : ℕ → List (PassView S C R) → Type 0
  HasAll seats passes = (number : ℕ) → number < seats → has_pass passes number ≡ true

  -- a pass of the desk is missing
  abbrev pub LacksOne : ℕ → List (PassView S C R) → Type 0
  LacksOne seats passes = (number : ℕ) × (number < seats) × (has_pass passes number ≡ false)
