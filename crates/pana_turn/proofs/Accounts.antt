-- Accounts that stay good where the course changes.
use Rattle.std.specs.Prelude.{ℕ, List, [], ◌∷◌, ◌++◌}
use Rattle.std.specs.List.{AllByRecursion}
use Rattle.std.proofs.Common.{◌≢◌, ◌∙◌}
use Rattle.pana_turn.specs.declared.finished_call.FinishedCall.{FinishedCall}
use Rattle.pana_turn.specs.declared.view.Account.{Account}
use Rattle.pana_turn.specs.Rule.{Course, IsAccountOf}
use Rattle.pana_turn.proofs.Histories.{prefix_grows, calls_of-other}
use Rattle.pana_turn.proofs.Tables.{change_at, change_else}

-- each has what each had
pub all_along : {A : Type 0} (P Q : A → Type 0) → ((a : A) → P a → Q a) → (xs : List A) → AllByRecursion P xs → AllByRecursion Q xs
all_along P Q step [] all = tt
all_along P Q step (a ∷ xs) all = (step a all.0, all_along P Q step xs all.1)

-- the same for two facts together
pub all_both : {A : Type 0} (P O Q : A → Type 0) → ((a : A) → P a → O a → Q a) → (xs : List A) → AllByRecursion P xs → AllByRecursion O xs → AllByRecursion Q xs
all_both P O Q step [] all other = tt
all_both P O Q step (a ∷ xs) all other = (step a all.0 other.0, all_both P O Q step xs all.1 other.1)

pub all_joined : {A : Type 0} (P : A → Type 0) (xs ys : List A) → AllByRecursion P xs → AllByRecursion P ys → AllByRecursion P (xs ++ ys)
all_joined P [] ys first second = second
all_joined P (x ∷ xs) ys first second = (first.0, all_joined P xs ys first.1 second)

module _ {S C R : Type 0} where
  module _ (seats : ℕ) (x : Course S C R) (seat : ℕ) where
    -- a ticket more changes no account
    pub same_account : (tickets : ℕ) (holder : ℕ → ℕ) (a : Account S C R) → IsAccountOf seats x seat a
        → IsAccountOf seats (record { begun = x.begun; history = x.history; tickets = tickets; speaker = x.speaker; holder = holder }) seat a
    same_account tickets holder a is = record { within = is.within; begun = is.begun; speaker = is.speaker; mine = is.mine; seen = is.seen }

    -- nor does another pass's call
    pub account_of_other : (c : FinishedCall S C R) (a : Account S C R) → c.pass ≢ a.number → IsAccountOf seats x seat a
        → IsAccountOf seats (record { begun = x.begun; history = x.history ++ c ∷ []; tickets = x.tickets; speaker = x.speaker; holder = x.holder }) seat a
    account_of_other c a not is =
        record {
          within = is.within;
          begun = is.begun;
          speaker = is.speaker;
          mine = calls_of-other a.number x.history c not ∙ is.mine;
          seen = prefix_grows a.seen x.history (c ∷ []) is.seen;
        }

    -- nor does another seat that speaks for another pass
    pub account_beside : (number speaker : ℕ) (a : Account S C R) → a.number ≢ number → IsAccountOf seats x seat a
        → IsAccountOf seats (record { begun = x.begun; history = x.history; tickets = x.tickets; speaker = change_at x.speaker number speaker; holder = x.holder }) seat a
    account_beside number speaker a not is =
        record { within = is.within; begun = is.begun; speaker = change_else x.speaker number speaker a.number not ∙ is.speaker; mine = is.mine; seen = is.seen }
