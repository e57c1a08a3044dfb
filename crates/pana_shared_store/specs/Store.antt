-- What calls do to a store whose journal is a log that others append to as well.
use Rattle.std.specs.Prelude.{◌≡◌, ◌≢◌, ◌⊎◌, ◌<◌, ◌≤◌, ℕ, ◌+◌, ◌^◌, Bool, true, false, IsTrue, List, [], ◌∷◌, ◌++◌, length, map, Option, Some, None, is_some}
use Rattle.pana_journal.specs.declared.entry.Entry.{Entry}
use Rattle.pana_calls.specs.declared.answer.Answer.{Answer}
use Rattle.pana_calls.specs.declared.answer.Answer.TheVariants.{Given, NotKept}
use Rattle.pana_calls.specs.declared.call.Call.{Call}
use Rattle.pana_calls.specs.declared.call.Call.TheVariants as calls
use Rattle.pana_calls.specs.declared.message.Message.{Message}
use Rattle.pana_calls.specs.declared.reply.Reply.{Reply}
use Rattle.pana_hall.specs.Permit.{Permits, journal_after}
use Rattle.pana_hall.specs.Refusal.{refusal}
use Rattle.pana_hall.specs.Step.{Steps}
use Rattle.pana_shared.specs.declared.read_fault.ReadFault.{ReadFault}
use Rattle.pana_shared.specs.declared.read_fault.ReadFault.TheVariants.{NoAnswer, Foreign, OutOfMemory}
use Rattle.pana_shared.specs.declared.record.Record.{Record}
use Rattle.pana_shared.specs.Log.{Follows, Grows, IsAt, IsOneOf, LogView, ours}

-- what contracts see of a store: the entries of its hall's journal, what it has seen of the log, and how many more times that may give no
-- answer, how many of its calls may have made entries, whether something that is no entry stands in the log, why the last call without an
-- answer had none, and whether it answers questions from what it has followed so far
pub record StoreView : Type 0 where
  pub entries : List Entry
  pub seen : LogView
  pub silences : ℕ
  pub turn : ℕ
  pub broken : Bool
  pub fault : Option ReadFault
  pub is_stale : Bool

-- the number of what stands in the log and is no entry, where that was why
abbrev pub foreign_of : Option ReadFault → Option ℕ
foreign_of (Some (Foreign number)) = Some number
foreign_of (Some NoAnswer) = None
foreign_of (Some OutOfMemory) = None
foreign_of None = None

-- whether a call is made behind all that the log has: each is, but a question to a stale store
abbrev pub asks_all : Bool → Call → Bool
asks_all false call = true
asks_all true (calls.Report report) = true
asks_all true (calls.Sighting sighting) = true
asks_all true (calls.Query query) = false

-- the entries of records
abbrev pub entries_in : List Record → List Entry
entries_in records = map (λ r. r.entry) records

-- entries as the records of a writer's call
abbrev pub recorded : ℕ → ℕ → List Entry → List Record
recorded writer turn entries = map (λ entry. record { entry = entry; writer = writer; turn = turn }) entries

-- calls as a hall alone makes them behind a journal, one behind another, and the entries that each makes
abbrev pub AreMade : List Entry → List Message → List (List Entry) → Type 0
AreMade at [] [] = Unit {0}
AreMade at [] (made ∷ groups) = ⊥
AreMade at (message ∷ messages) [] = ⊥
AreMade at (message ∷ messages) (made ∷ groups) = (reply : Reply) × Steps at message.by message.call reply (at ++ made) × AreMade (at ++ made) messages groups

-- what each makes as records of a writer: each call's are of a turn of its own, the first one's of this
abbrev pub recorded_all : ℕ → ℕ → List (List Entry) → List Record
recorded_all writer turn [] = []
recorded_all writer turn (made ∷ groups) = recorded writer turn made ++ recorded_all writer (turn + 1) groups

-- the entries are those of the log's first records
abbrev pub AreFirst : List Entry → List Record → Type 0
AreFirst entries records = (rest : List Entry) × (entries_in records ≡ entries ++ rest)

-- the journal goes on from the old one
abbrev pub GoesOn : List Entry → List Entry → Type 0
GoesOn old new = (others : List Entry) × (new ≡ old ++ others)

-- the writer has put nothing into the log, and has asked for nothing
pub record IsFresh (view : LogView) : Type 0 where
  pub put : ours view.writer view.records ≡ []
  pub asked : view.loose ≡ []
  pub at : view.at ≡ 0

-- a hall alone may make entries of the call
abbrev pub MayMake : List Entry → List ℕ → Call → Type 0
MayMake at by call = (reply : Reply) × Permits at by call reply × (length at < length (journal_after at by call reply))

-- what becomes of a call on a journal: the same as by a hall alone; or the log takes no more, nothing stands against the call, which
-- may make entries, and nothing has changed
abbrev pub Becomes : List Entry → List ℕ → Call → Answer → List Entry → Type 0
Becomes at by call (Given reply) new = Steps at by call reply new
Becomes at by call NotKept new = (refusal at by call ≡ None) × MayMake at by call × (new ≡ at)

-- A call that is answered. It is made on a journal that goes on from the old one by what others have put since, and has all that
-- the log had when the call began, but where a stale store was asked a question. What it makes stands in the log then, right behind that
-- journal, as records of the writer's turn, and nothing else is new of the writer but what was loose; and nothing is loose that wasn't.
pub record MakesOn (is_known is_stale : Bool) (turn : ℕ) (old : List Entry) (seen_old : LogView) (by : List ℕ) (call : Call) (answer : Answer) (new : List Entry) (seen_new : LogView) : Type 0 where
  pub at : List Entry
  pub goes_on : GoesOn old at
  pub becomes : Becomes at by call answer new
  pub made : List Entry
  pub makes : new ≡ at ++ made
  pub all : IsTrue is_known → IsTrue (asks_all is_stale call) → length seen_old.records ≤ length at
  pub first : IsTrue is_known → AreFirst new seen_new.records
  pub own : IsTrue is_known → Grows seen_old (recorded seen_old.writer turn made) seen_new.records
  pub stands : IsTrue is_known → made ≢ [] → IsAt (length at) (recorded seen_old.writer turn made) seen_new.records
  pub follows : IsTrue is_known → Follows seen_old seen_new

-- A call of which nothing was asked of the log, but to be read.
pub record StaysOn (is_known : Bool) (old : List Entry) (seen_old : LogView) (new : List Entry) (seen_new : LogView) : Type 0 where
  pub goes_on : GoesOn old new
  pub first : IsTrue is_known → AreFirst new seen_new.records
  pub own : IsTrue is_known → Grows seen_old [] seen_new.records
  pub follows : IsTrue is_known → Follows seen_old seen_new

-- Calls that were asked for at once, behind what the store knows then, and of which it isn't known whether they were made: if they were,
-- or ever will be, all of them are, as by a hall alone, and right behind what the store knows, the first one as of this turn.
pub record TriesOn (is_known : Bool) (turn : ℕ) (old : List Entry) (seen_old : LogView) (calls : List Message) (new : List Entry) (seen_new : LogView) : Type 0 where
  pub goes_on : GoesOn old new
  pub asked : List (List Entry)
  pub made : AreMade new calls asked
  pub first : IsTrue is_known → AreFirst new seen_new.records
  pub own : IsTrue is_known → Grows seen_old [] seen_new.records ⊎ (Grows seen_old (recorded_all seen_old.writer turn asked) seen_new.records × IsAt (length new) (recorded_all seen_old.writer turn asked) seen_new.records)
  pub place : IsTrue is_known → seen_new.at ≡ length new
  pub writer : IsTrue is_known → seen_new.writer ≡ seen_old.writer
  -- what may still be put is what might have been before, or what the calls make
  pub loose : IsTrue is_known → length seen_new.records ≤ seen_new.at → (group : List Record) → IsOneOf group seen_new.loose → ((seen_new.at ≡ seen_old.at) × IsOneOf group seen_old.loose) ⊎ (group ≡ recorded_all seen_old.writer turn asked)

-- The same, by a turn that is behind the one before, if it makes entries: so no record is another call's.
pub record MakesBy (is_known is_stale : Bool) (before turn : ℕ) (old : List Entry) (seen_old : LogView) (by : List ℕ) (call : Call) (answer : Answer) (new : List Entry) (seen_new : LogView) : Type 0 where
  pub on : MakesOn is_known is_stale turn old seen_old by call answer new seen_new
  pub later : (on.made ≡ []) ⊎ (before < turn)

-- The same of calls that were asked for at once: the first one's turn is behind the one before, and the last one's is this at most.
pub record TriesBy (is_known : Bool) (before turn : ℕ) (old : List Entry) (seen_old : LogView) (calls : List Message) (new : List Entry) (seen_new : LogView) : Type 0 where
  pub from : ℕ
  pub on : TriesOn is_known from old seen_old calls new seen_new
  pub later : before < from
  pub until : from + length calls ≤ turn + 1

-- the same of a store
pub record Makes (is_known : Bool) (old : StoreView) (by : List ℕ) (call : Call) (answer : Answer) (new : StoreView) : Type 0 where
  pub on : MakesBy is_known old.is_stale old.turn new.turn old.entries old.seen by call answer new.entries new.seen
  pub turn : old.turn ≤ new.turn
  pub whole : old.broken ≡ false
  pub same : new.broken ≡ false
  pub stale : new.is_stale ≡ old.is_stale

-- a store that was opened by a log, all of which it has read: nothing was asked of the log, but to be read
pub record Opens (is_known : Bool) (log : LogView) (store : StoreView) : Type 0 where
  pub on : StaysOn is_known [] log store.entries store.seen
  pub all : IsTrue is_known → length log.records ≤ length store.entries
  pub turn : store.turn ≡ 0
  pub whole : store.broken ≡ false

-- calls that have no answers, by a store that isn't broken: one, or more that were asked for at once
pub record MakesNone (is_known : Bool) (old : StoreView) (calls : List Message) (new : StoreView) : Type 0 where
  pub on : StaysOn is_known old.entries old.seen new.entries new.seen ⊎ TriesBy is_known old.turn new.turn old.entries old.seen calls new.entries new.seen
  pub turn : old.turn ≤ new.turn
  pub whole : old.broken ≡ false
  pub stale : new.is_stale ≡ old.is_stale

-- calls that have no answers: of a store that is broken nothing changes any more
abbrev pub Fails : Bool → StoreView → List Message → StoreView → Type 0
Fails is_known old calls new = ((old.broken ≡ true) × (new ≡ old)) ⊎ MakesNone is_known old calls new

-- no hall alone makes the entry behind the journal
abbrev pub IsStrange : List Entry → Entry → Type 0
IsStrange journal entry = (reply : Reply) → Steps journal entry.by (calls.Report entry.report) reply (journal ++ entry ∷ []) → ⊥

-- how many entries of others come first at least, where a call is given up for them: each try but the first follows one
abbrev pub most_tries : ℕ
most_tries = 4000

-- Why a call has no answer, by a store that had so many turns, these entries, and a log that might give no answer so many times more, and
-- has these and so many then: the log gave no answer; or others were faster, most_tries times; or there is no further turn. Or an entry
-- stands in the log behind the store's that no hall makes, with this number. Memory may run out for any.
abbrev pub Why : ReadFault → ℕ → List Entry → ℕ → List Entry → List Record → ℕ → Type 0
Why NoAnswer turn old before new records after = (after < before) ⊎ (length old + most_tries ≤ length new) ⊎ (2 ^ 64 ≤ turn + 1)
Why (Foreign number) turn old before new records after = (entry : Entry) × AreFirst (new ++ entry ∷ []) records × IsStrange new entry × (number ≡ length new + 1)
Why OutOfMemory turn old before new records after = Unit {0}

-- A call that has no answer has a cause, which the store knows then, unless it was broken before. It is broken then where that is foreign.
pub record IsCause (is_known : Bool) (old : StoreView) (fault : ReadFault) (new : StoreView) : Type 0 where
  pub known : new.fault ≡ Some fault
  pub broken : new.broken ≡ is_some (foreign_of new.fault)
  pub why : IsTrue is_known → Why fault old.turn old.entries old.silences new.entries new.seen.records new.silences

abbrev pub HasCause : Bool → StoreView → StoreView → Type 0
HasCause is_known old new = (old.broken ≡ true) ⊎ ((fault : ReadFault) × IsCause is_known old fault new)
