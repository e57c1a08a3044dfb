-- What seats know, and how that is divided and put together.
use Rattle.std.specs.Prelude.{ℕ, ◌-◌, List, [], ◌∷◌, ◌++◌, map}
use Rattle.std.specs.List.{range_with_len}
use Rattle.pana_turn.specs.declared.finished_call.FinishedCall.{FinishedCall}
use Rattle.pana_turn.specs.declared.view.Account.{Account}
use Rattle.pana_turn.specs.declared.view.Stage.{Stage}
use Rattle.pana_turn.specs.declared.view.Stage.TheVariants.{Idle}
use Rattle.pana_turn.specs.declared.view.View.{View}
use Rattle.pana_turn.specs.Passes.{PassView, own_calls}
use Rattle.pana_turn.specs.Rule.{DeskKey}

module _ {S C R : Type 0} where
  abbrev pub view : List (Account S C R) → List (FinishedCall S C R) → List (FinishedCall S C R) → Stage → View S C R
  view accounts seen met stage = record { accounts = accounts; seen = seen; met = met; stage = stage }

  abbrev pub account : S → ℕ → List (FinishedCall S C R) → List (FinishedCall S C R) → Account S C R
  account begun number mine seen = record { number = number; begun = begun; mine = mine; seen = seen }

  -- the seat of a pass
  abbrev pub pass : S → ℕ → List (FinishedCall S C R) → List (FinishedCall S C R) → Stage → View S C R
  pass begun number mine seen stage = view (account begun number mine [] ∷ []) seen [] stage

  -- a pass that made no call
  abbrev pub new_account : S → ℕ → Account S C R
  new_account begun number = account begun number [] []

  -- the passes from this number on
  abbrev pub accounts_from : S → ℕ → ℕ → List (Account S C R)
  accounts_from begun number seats = map (new_account begun) (range_with_len number (seats - number))

  -- the first seat speaks for every pass
  abbrev pub first : DeskKey S → View S C R
  first key = view (accounts_from key.begun 0 key.seats) [] [] Idle

  -- the first account alone, and the others
  abbrev pub one : List (Account S C R) → List (Account S C R)
  one [] = []
  one (a ∷ accounts) = a ∷ []

  abbrev pub others : List (Account S C R) → List (Account S C R)
  others [] = []
  others (a ∷ accounts) = accounts

  -- a seat deals its first account to a new one, and keeps the others
  abbrev pub dealt : View S C R → View S C R
  dealt v = view (one v.accounts) v.seen [] Idle

  abbrev pub kept : View S C R → View S C R
  kept v = view (others v.accounts) v.seen v.met v.stage

  -- the seat of a note has seen this and speaks for no pass
  abbrev pub note : List (FinishedCall S C R) → View S C R
  note seen = view [] seen [] Idle

  -- a note of what the seat has seen
  abbrev pub noted : View S C R → View S C R
  noted v = note v.seen

  -- a seat that was taken in
  abbrev pub spent : View S C R
  spent = note []

  -- the seat has met what another had seen
  abbrev pub informed : View S C R → View S C R → View S C R
  informed v w = view v.accounts v.seen w.seen v.stage

  -- the accounts remember what was seen
  abbrev pub sealed : List (FinishedCall S C R) → List (Account S C R) → List (Account S C R)
  sealed seen accounts = map (λ a. account a.begun a.number a.mine seen) accounts

  -- the seat takes in another's accounts, with what that one had seen
  abbrev pub gathered : View S C R → View S C R → View S C R
  gathered v w = view (v.accounts ++ sealed w.seen w.accounts) v.seen v.met v.stage

  -- a pass that was handed back: its number, its own calls, and what it had seen
  abbrev pub account_of : PassView S C R → Account S C R
  account_of p = account p.desk.begun p.number (own_calls p) p.seen
