-- What callers at a desk of a store have kept, over a device that is known.
use Rattle.std.specs.Prelude.{◌≡◌, ℕ, Bool, List, ◌∷◌, ◌++◌, length}
use Rattle.pana_calls.specs.Session.{alone}
use Rattle.pana_calls.specs.declared.reply.Reply.{Reply}
use Rattle.pana_calls.specs.declared.answer.Answer.TheVariants.{Given}
use Rattle.pana_turn.specs.History.{IsHistory, left_by}
use Rattle.pana_store.specs.Acknowledged.{IsDone}
use Rattle.pana_store.specs.Entries.{LoadsFirst}
use Rattle.pana_store.specs.Store.{StoreView, BreaksOff, FailsToGather, Gathers, KeepsFirst, Settles}
use Rattle.pana_daemon.specs.Desk.{Finished, RequestSteps}
use Rattle.pana_daemon.specs.declared.request.Request.{Request}
use Rattle.pana_daemon.specs.declared.request.Response.{Response}
use Rattle.pana_daemon.specs.declared.request.Response.TheVariants.{Answer, Settled}

-- what a request does to a store whose calls are kept in groups
abbrev pub StoreSteps : {V : Type 0} → Bool → (V → List ℕ) → (V → List ℕ → Type 0) → (V → Bool) → (V → ℕ) → (V → ℕ → List ℕ → Type 0) → (V → Bool) → StoreView V → Request → Response → StoreView V → Type 0
StoreSteps is_known seen may_leave is_usable moment left_since has_failed = RequestSteps
    (λ old by call answer new. Gathers is_known seen may_leave is_usable moment left_since has_failed old by call answer new) (alone (λ old by call new. FailsToGather is_known moment left_since has_failed old by call new))
    (λ old new. Settles is_known seen may_leave is_usable moment left_since old new) (λ old new. BreaksOff is_known moment left_since has_failed old new)

module _ {V : Type 0} (moment : V → ℕ) (left_since : V → ℕ → List ℕ → Type 0) where
  -- Each report that was answered as done, and what was done of a sighting, is kept once the store has settled behind it: a
  -- crash at any moment since leaves a file that loads to the first entries of now, its own among them.
  abbrev pub KeepsDone : List (Finished (StoreView V)) → StoreView V → Type 0
  KeepsDone history now = (before between after : List (Finished (StoreView V))) (call settled : Finished (StoreView V)) (n : ℕ) (reply : Reply)
      → history ≡ before ++ call ∷ (between ++ settled ∷ after) → call.reply ≡ Answer (Given reply) → IsDone n reply → settled.reply ≡ Settled
      → (c : List ℕ) → left_since now.log.device (moment settled.left.log.device) c → LoadsFirst n now.entries c

  -- The requests of all callers are one history, each a call of the store or that it has settled, which leaves it so: a crash at
  -- any moment since the first of them leaves a file that loads to the first entries, all those that were kept before among
  -- them, and all that was done and kept.
  pub record IsKeptRun (steps : StoreView V → Request → Response → StoreView V → Type 0) (begun left : StoreView V) (requests : ℕ) : Type 0 where
    pub history : List (Finished (StoreView V))
    pub run : IsHistory steps begun history
    pub leaves : left ≡ left_by begun history
    pub counted : requests ≡ length history
    pub all : KeepsFirst moment left_since begun left
    pub done : KeepsDone history left
