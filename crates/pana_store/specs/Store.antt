-- What calls do to a store: to its hall, and to the log that keeps the hall's journal; and what it is to settle them: the entries
-- of the calls since are kept by one line.
use Rattle.std.specs.Prelude.{◌≡◌, ◌≢◌, ◌⊎◌, ◌<◌, ◌^◌, ℕ, Bool, IsTrue, List, ◌++◌, length, None}
use Rattle.pana_journal.specs.declared.entry.Entry.{Entry}
use Rattle.pana_calls.specs.declared.call.Call.{Call}
use Rattle.pana_calls.specs.declared.call.Call.TheVariants.{Report, Sighting, Query}
use Rattle.pana_calls.specs.declared.reply.Reply.{Reply}
use Rattle.pana_hall.specs.Permit.{Permits, journal_after}
use Rattle.pana_hall.specs.Refusal.{refusal}
use Rattle.pana_hall.specs.Step.{Steps}
use Rattle.pana_log.specs.declared.log.Log.{Log}
use Rattle.pana_log.specs.declared.log_state.LogState.TheVariants.{Open}
use Rattle.pana_log.specs.Device.{LeavesOnly}
use Rattle.pana_log.specs.Lines.{recovered, text_of}
use Rattle.pana_log.specs.Log.{IsSettled}
use Rattle.pana_seal.specs.declared.sealer.Sealer.{Sealer}
use Rattle.pana_seal.specs.Seal.{Covers}
use Rattle.pana_calls.specs.declared.answer.Answer.{Answer}
use Rattle.pana_calls.specs.declared.answer.Answer.TheVariants.{Given, NotKept}
use Rattle.pana_store.specs.Entries.{LoadsTo, LoadsFirst, LoadsEither}

-- ---- a store

-- what contracts see of a store: the entries of the hall's journal, the first of them, which the file has, the log, and what its
-- next line is sealed behind
pub record StoreView (D : Type 0) : Type 0 where
  pub entries : List Entry
  pub kept : List Entry
  pub log : Log D
  pub sealer : Sealer

-- entries that a log keeps, all of them
pub record KeptView (D : Type 0) : Type 0 where
  pub entries : List Entry
  pub log : Log D
  pub sealer : Sealer

-- those that are kept
abbrev pub stored : {D : Type 0} → StoreView D → KeptView D
stored store = record { entries = store.kept; log = store.log; sealer = store.sealer }

-- all entries of the store
abbrev pub whole : {D : Type 0} → StoreView D → KeptView D
whole store = record { entries = store.entries; log = store.log; sealer = store.sealer }

-- the entries that aren't kept yet
abbrev pub Waits : {D : Type 0} → StoreView D → List Entry → Type 0
Waits store waiting = store.entries ≡ store.kept ++ waiting

-- While the log is open, the file stands for the entries, and so does each that a crash may leave, and the sealer has
-- taken up its lines.
abbrev pub IsKept : {D : Type 0} → (D → List ℕ) → (D → List ℕ → Type 0) → (D → Bool) → KeptView D → Type 0
IsKept seen may_leave is_usable store = store.log.state ≡ Open → IsSettled seen may_leave is_usable store.log × LoadsTo store.entries (seen store.log.device) × Covers store.sealer (text_of (recovered (seen store.log.device)))

-- the call is one that may make entries: a report or a sighting, and no query
abbrev pub MakesEntries : Call → Type 0
MakesEntries (Report report) = Unit {0}
MakesEntries (Sighting sighting) = Unit {0}
MakesEntries (Query query) = ⊥

-- the call is a query
abbrev pub IsQuery : Call → Type 0
IsQuery (Report report) = ⊥
IsQuery (Sighting sighting) = ⊥
IsQuery (Query query) = Unit {0}

-- a hall alone may make an entry of the call, or two
abbrev pub Grows : List Entry → List ℕ → Call → Type 0
Grows old by call = (reply : Reply) × Permits old by call reply × (length old < length (journal_after old by call reply))

-- what becomes of a call: the same as by a hall alone; or it isn't kept, and nothing has changed: it is a report or a sighting
-- against which nothing stands, and of which a hall alone may make entries
abbrev pub Becomes : List Entry → List ℕ → Call → Answer → List Entry → Type 0
Becomes old by call (Given reply) new = Steps old by call reply new
Becomes old by call NotKept new = MakesEntries call × (refusal old by call ≡ None) × Grows old by call × (new ≡ old)

-- the file has no room for one more line: its lines are longer than 2^60 bytes
abbrev pub IsFull : {D : Type 0} → Log D → Type 0
IsFull log = 2 ^ 60 < log.end

-- a report or a sighting is answered only while the log is open
abbrev pub NeedsOpen : {D : Type 0} → KeptView D → Call → Type 0
NeedsOpen old (Report report) = old.log.state ≡ Open
NeedsOpen old (Sighting sighting) = old.log.state ≡ Open
NeedsOpen old (Query query) = Unit {0}

-- ---- its calls

-- A crash at any moment since leaves a file that loads to the entries that were kept then, or to those that are now.
abbrev pub KeepsWhole : {D : Type 0} → (D → ℕ) → (D → ℕ → List ℕ → Type 0) → StoreView D → StoreView D → Type 0
KeepsWhole moment left_since old new = LeavesOnly moment left_since old.log.device new.log.device (LoadsEither old.kept new.kept)

-- A crash at any moment since leaves a file that loads to the first n entries of now, all that were kept then among them.
abbrev pub KeepsFirst : {D : Type 0} → (D → ℕ) → (D → ℕ → List ℕ → Type 0) → StoreView D → StoreView D → Type 0
KeepsFirst moment left_since old new = LeavesOnly moment left_since old.log.device new.log.device (LoadsFirst (length old.kept) new.entries)

-- A call that is answered: as by a hall alone, or a report or a sighting is NotKept; and a query changes nothing. Its entries aren't
-- kept yet. Those of the calls before may be kept meanwhile, all of them. NotKept has a cause: the device has failed, or the file is full.
pub record Gathers {D : Type 0} (is_known : Bool) (seen : D → List ℕ) (may_leave : D → List ℕ → Type 0) (is_usable : D → Bool) (moment : D → ℕ) (left_since : D → ℕ → List ℕ → Type 0) (has_failed : D → Bool)
    (old : StoreView D) (by : List ℕ) (call : Call) (answer : Answer) (new : StoreView D) : Type 0 where
  pub answers : Becomes old.entries by call answer new.entries
  pub cause : IsTrue is_known → answer ≡ NotKept → IsTrue (has_failed new.log.device) ⊎ IsFull new.log
  pub is_open : NeedsOpen (stored old) call
  pub query : IsQuery call → new ≡ old
  pub state : new.log.state ≡ old.log.state
  pub file : IsTrue is_known → IsKept seen may_leave is_usable (stored new)
  pub kept : (new.kept ≡ old.kept) ⊎ (new.kept ≡ old.entries)
  pub keeps_whole : IsTrue is_known → old.log.state ≡ Open → KeepsWhole moment left_since old new

-- of a call before which nothing had to be kept: what is kept is the same as before
pub record GathersOnly {D : Type 0} (is_known : Bool) (seen : D → List ℕ) (may_leave : D → List ℕ → Type 0) (is_usable : D → Bool) (moment : D → ℕ) (left_since : D → ℕ → List ℕ → Type 0) (has_failed : D → Bool)
    (old : StoreView D) (by : List ℕ) (call : Call) (answer : Answer) (new : StoreView D) : Type 0 where
  pub gathers : Gathers is_known seen may_leave is_usable moment left_since has_failed old by call answer new
  pub same : new.kept ≡ old.kept

-- All entries are kept: none had waited, and nothing is changed, or the log took them.
pub record Settles {D : Type 0} (is_known : Bool) (seen : D → List ℕ) (may_leave : D → List ℕ → Type 0) (is_usable : D → Bool) (moment : D → ℕ) (left_since : D → ℕ → List ℕ → Type 0) (old new : StoreView D) : Type 0 where
  pub entries : new.entries ≡ old.entries
  pub kept : new.kept ≡ new.entries
  pub takes : (new ≡ old) ⊎ ((old.log.state ≡ Open) × (new.log.state ≡ Open))
  pub file : IsTrue is_known → IsKept seen may_leave is_usable (stored new)
  pub keeps_whole : IsTrue is_known → old.log.state ≡ Open → KeepsWhole moment left_since old new

-- The entries that wait can't be kept, and the log is broken: since the device has failed, or it was broken before. A crash leaves
-- all of them or none.
pub record BreaksOff {D : Type 0} (is_known : Bool) (moment : D → ℕ) (left_since : D → ℕ → List ℕ → Type 0) (has_failed : D → Bool) (old new : StoreView D) : Type 0 where
  pub entries : new.entries ≡ old.entries
  pub kept : new.kept ≡ old.kept
  pub waits : length old.kept < length old.entries
  pub broken : new.log.state ≢ Open
  pub cause : IsTrue is_known → old.log.state ≡ Open → IsTrue (has_failed new.log.device)
  pub once : old.log.state ≢ Open → new ≡ old
  pub keeps_whole : IsTrue is_known → old.log.state ≡ Open → LeavesOnly moment left_since old.log.device new.log.device (LoadsEither old.kept old.entries)

-- A call that has no answer is a report or a sighting, of which nothing has come: the log was broken, and nothing is changed, or the
-- entries before it had to be kept first and couldn't be.
abbrev pub FailsToGather : {D : Type 0} → Bool → (D → ℕ) → (D → ℕ → List ℕ → Type 0) → (D → Bool) → StoreView D → List ℕ → Call → StoreView D → Type 0
FailsToGather is_known moment left_since has_failed old by call new = MakesEntries call
    × (((old.log.state ≢ Open) × (new ≡ old)) ⊎ BreaksOff is_known moment left_since has_failed old new)
