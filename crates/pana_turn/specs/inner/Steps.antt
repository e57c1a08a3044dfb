-- What a seat knows after each of its steps.
use Rattle.std.specs.Prelude.{◌≡◌, ℕ, ◌<◌, ◌≤◌, List, [], ◌∷◌, ◌++◌, length, map, Some}
use Rattle.std.specs.Prelude.{Option as Maybe}
use Rattle.std.specs.List.{AllByRecursion}
use mathlib.Core.List.{IsPrefix}
use Rattle.atomic_table.specs.Table.{Me, rest}
use Rattle.pana_turn.specs.declared.finished_call.FinishedCall.{FinishedCall}
use Rattle.pana_turn.specs.declared.view.Account.{Account}
use Rattle.pana_turn.specs.declared.view.Stage.{Stage}
use Rattle.pana_turn.specs.declared.view.Stage.TheVariants.{Idle, Tested, Drawn, Turn}
use Rattle.pana_turn.specs.declared.view.View.{View}
use Rattle.pana_turn.specs.History.{IsHistory, calls_of, left_by}
use Rattle.pana_turn.specs.inner.Views.{view, account}

-- a seat: its view, and the slot that it has taken
abbrev pub Holds : Type 0 → Type 0 → Type 0 → Type 0
Holds S C R = Me (Maybe S) (View S C R)

abbrev pub ticket_of : Stage → ℕ
ticket_of (Drawn ticket) = ticket
ticket_of _ = 0

module _ {S C R : Type 0} where
  -- a pass's account with these calls more
  abbrev pub with_calls : List (FinishedCall S C R) → Account S C R → Account S C R
  with_calls finished a = account a.begun a.number (a.mine ++ finished) []

  abbrev pub Draws : Holds S C R → ℕ → Holds S C R → Type 0
  Draws old found new = new ≡ (view old.0.accounts old.0.seen old.0.met (Drawn found), old.1)

module _ {S C R : Type 0} (step : S → C → R → S → Type 0) where
  -- the number of finished calls was found: the seat has seen the whole history, which begins with all that it knew, and has its pass's calls
  pub record Looked (v : View S C R) (found : ℕ) (w : View S C R) (stage : Stage) : Type 0 where
    pub long : length w.seen ≡ found
    pub run : (begun : S) (number : ℕ) (mine past : List (FinishedCall S C R)) → v.accounts ≡ account begun number mine past ∷ [] → IsHistory step begun w.seen
    pub seen : IsPrefix v.seen w.seen
    pub met : IsPrefix v.met w.seen
    pub own : (begun : S) (number : ℕ) (mine past : List (FinishedCall S C R)) → v.accounts ≡ account begun number mine past ∷ [] → calls_of number w.seen ≡ mine
    pub is : w ≡ view v.accounts w.seen [] stage

  -- a pass has looked again, and made no call meanwhile: what it has seen is a history that begins with what it had seen
  pub record SeesMore (begun : S) (number : ℕ) (old new : List (FinishedCall S C R)) : Type 0 where
    pub seen : IsPrefix old new
    pub own : calls_of number new ≡ calls_of number old
    pub run : IsHistory step begun new

  abbrev pub Glances : Holds S C R → ℕ → Holds S C R → Type 0
  Glances old found new = Looked old.0 found new.0 Idle × (new.1 ≡ old.1)

  -- calls are left where fewer than 2^62 are finished
  abbrev pub Tests : Holds S C R → ℕ → Holds S C R → Type 0
  Tests old found new =
      (found < 4611686018427387904 → Looked old.0 found new.0 Tested)
      × (4611686018427387904 ≤ found → Looked old.0 found new.0 Idle)
      × (new.1 ≡ old.1)

  -- where the ticket's number of calls is finished, the seat has the turn and takes the machine
  abbrev pub Awaits : Holds S C R → ℕ → Holds S C R → Type 0
  Awaits old found new =
      (found ≡ ticket_of old.0.stage → Looked old.0 found new.0 Turn
      × ((begun : S) (number : ℕ) (mine past : List (FinishedCall S C R)) → old.0.accounts ≡ account begun number mine past ∷ [] → new.1 ≡ (0, Some (left_by begun new.0.seen)) ∷ old.1))
      × ((found ≡ ticket_of old.0.stage → ⊥) → Looked old.0 found new.0 (Drawn (ticket_of old.0.stage)) × (new.1 ≡ old.1))

  -- the calls join the history, and those of each pass that the seat speaks for; the machine goes back to its slot
  pub record Finished (finished : List (FinishedCall S C R)) (old new : Holds S C R) : Type 0 where
    pub is : new ≡ (view (map (with_calls finished) old.0.accounts) (old.0.seen ++ finished) [] Idle, rest old.1)
    pub own : AllByRecursion (λ a. calls_of a.number (old.0.seen ++ finished) ≡ a.mine ++ finished) old.0.accounts
    pub run : AllByRecursion (λ a. IsHistory step a.begun (old.0.seen ++ finished)) old.0.accounts

  abbrev pub Finishes : List (FinishedCall S C R) → Holds S C R → ℕ → Holds S C R → Type 0
  Finishes finished old found new = Finished finished old new
