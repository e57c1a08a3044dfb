-- Stores that share a log, each with a writer of its own.
use Rattle.std.specs.Prelude.{◌≡◌, ℕ, Bool, List, [], ◌∷◌, map, Option, MatchOption}
use Rattle.pana_calls.specs.declared.answer.Answer.{Answer}
use Rattle.pana_calls.specs.declared.call.Call.{Call}
use Rattle.pana_calls.specs.declared.message.Message.{Message}
use Rattle.pana_shared.specs.declared.record.Record.{Record}
use Rattle.pana_shared.specs.Log.{LogView, Reads, ours}
use Rattle.pana_shared_store.specs.Store.{Fails, IsFresh, Makes, Opens, StoreView}

-- Calls that a store makes at once: the store as they begin, and as they end; one call with its answer, or one or more without.
pub record Deed : Type 0 where
  pub begun : StoreView
  pub calls : List Message
  pub answer : Option Answer
  pub ended : StoreView

-- a call of a device by a store: the store as the call begins, the answer if there was one, and the store as the call ends
pub record Step : Type 0 where
  pub begun : StoreView
  pub by : List ℕ
  pub call : Call
  pub answer : Option Answer
  pub ended : StoreView

-- the calls that are made at once, one by one
abbrev pub steps_of : Deed → List Step
steps_of deed = map (λ message. record { begun = deed.begun; by = message.by; call = message.call; answer = deed.answer; ended = deed.ended }) deed.calls

-- a store from its opening on: what it had seen of the log before, the store as it was opened, its calls in the order made, and the store in the end
pub record Life : Type 0 where
  pub log : LogView
  pub opened : StoreView
  pub deeds : List Deed
  pub last : StoreView

module _ (is_known : Bool) where
  -- the same store at a later moment: others have appended meanwhile, and what was loose of its own may have landed
  pub record Waits (old new : StoreView) : Type 0 where
    pub reads : Reads old.seen new.seen
    pub entries : new.entries ≡ old.entries
    pub turn : new.turn ≡ old.turn
    pub stale : new.is_stale ≡ old.is_stale

  -- calls do what a store promises of them: one with its answer, or without
  abbrev pub Does : Deed → Type 0
  Does deed = MatchOption deed.answer (Fails is_known deed.begun deed.calls deed.ended) (λ answer. (message : Message) × (deed.calls ≡ message ∷ []) × Makes is_known deed.begun message.by message.call answer deed.ended)

  -- a store makes these calls, one after another, and any time goes by before, between and behind them
  abbrev pub Lives : StoreView → List Deed → StoreView → Type 0
  Lives old [] last = Waits old last
  Lives old (deed ∷ deeds) last = Waits old deed.begun × Does deed × Lives deed.ended deeds last

  -- The store was opened on a log into which its writer had put nothing, and has lived until the log had these records.
  pub record IsLife (writer : ℕ) (records : List Record) (life : Life) : Type 0 where
    pub by : life.log.writer ≡ writer
    pub fresh : IsFresh life.log
    pub opens : Opens is_known life.log life.opened
    pub lives : Lives life.opened life.deeds life.last
    pub ends : life.last.seen.records ≡ records

  -- Any number of stores share a log that has these records in the end: each writer has one store or none, and each record is a store's.
  abbrev pub Share : (ℕ → Option Life) → List Record → Type 0
  Share stores records = (writer : ℕ) → MatchOption (stores writer) (ours writer records ≡ []) (λ life. IsLife writer records life)
