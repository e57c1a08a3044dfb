-- Words that only inner functions and proofs need: nobody has to believe them.
pub mod Groups
use Rattle.std.specs.Prelude.{◌≡◌, ◌≢◌, ◌⊎◌, ◌<◌, ◌≤◌, ◌+◌, ℕ, Bool, IsTrue, List, [], ◌∷◌, ◌++◌, length}
use Rattle.std.specs.List.{AllByRecursion}
use Rattle.pana_journal.specs.declared.entry.Entry.{Entry}
use Rattle.pana_shared.specs.declared.read_fault.ReadFault.{ReadFault}
use Rattle.pana_shared.specs.declared.read_fault.ReadFault.TheVariants.{NoAnswer, Foreign, OutOfMemory}
use Rattle.pana_shared.specs.declared.record.Record.{Record}
use Rattle.pana_calls.specs.declared.answer.Answer.{Answer}
use Rattle.pana_calls.specs.declared.call.Call.{Call}
use Rattle.pana_calls.specs.declared.cause.Cause.TheVariants as causes
use Rattle.pana_calls.specs.declared.reply.Reply.{Reply}
use Rattle.pana_calls.specs.declared.reply.Reply.TheVariants.{Refused}
use Rattle.pana_hall.specs.Step.{Steps}
use Rattle.pana_shared.specs.Log.{Follows, Grows, HaveSome, IsAt, IsOneOf, LogView, Reads, loose_at, ours}
use Rattle.pana_shared_store.specs.declared.placing.Placed.{Placed}
use Rattle.pana_shared_store.specs.declared.placing.Placed.TheVariants.{Ours, Others, Full}
use Rattle.pana_shared_store.specs.declared.making.Tried.{Tried}
use Rattle.pana_shared_store.specs.declared.making.Tried.TheVariants.{Made, Behind, Not}
use Rattle.pana_shared_store.specs.declared.trying.Attempt.{Attempt}
use Rattle.pana_shared_store.specs.declared.trying.Attempt.TheVariants as attempts
use Rattle.pana_shared_store.specs.Store.{StaysOn, AreFirst, Becomes, GoesOn, IsStrange, recorded}
use Rattle.pana_shared_store.specs.Fill.{Fills}

-- the records are of earlier turns
abbrev pub AreBefore : ℕ → List Record → Type 0
AreBefore turn records = AllByRecursion (λ r. r.turn < turn) records

-- a group of the turn may be put behind the entries: what the writer has put, and what is loose there, is of earlier turns
pub record IsReady (turn : ℕ) (entries : List Entry) (view : LogView) : Type 0 where
  pub put : AreBefore turn (ours view.writer view.records)
  pub loose : (view.at < length entries) ⊎ ((group : List Record) → IsOneOf group view.loose → AreBefore turn group)

-- the hall's entries are the log's first ones; and what is loose was made by earlier calls, behind no more than these entries
pub record IsStore (entries : List Entry) (turn : ℕ) (view : LogView) : Type 0 where
  pub first : AreFirst entries view.records
  pub at : view.at ≤ length entries
  pub some : HaveSome view.loose
  pub ready : IsReady (turn + 1) entries view

-- none of the groups that are loose begins as this one
abbrev pub IsNew : List Record → List (List Record) → Type 0
IsNew group groups = (r s : Record) (rest others : List Record) → group ≡ r ∷ rest → IsOneOf (s ∷ others) groups → s ≢ r

-- nor do the writer's records have its first one
abbrev pub IsUnusedGroup : List Record → List Record → Type 0
IsUnusedGroup group records = (r : Record) (rest front back : List Record) → group ≡ r ∷ rest → records ≢ front ++ (r ∷ back)

-- a hall has gone on to the log's first entries, and nothing was asked of the log but to be read
pub record LooksOn (is_known : Bool) (old : List Entry) (seen_old : LogView) (new : List Entry) (seen_new : LogView) : Type 0 where
  pub goes_on : GoesOn old new
  pub first : IsTrue is_known → AreFirst new seen_new.records
  pub reads : IsTrue is_known → Reads seen_old seen_new

-- whether a page, which stands where a group was to be put, is of the group: it begins with the same record, or with another
abbrev pub IsPlaced : List Record → List Record → Placed → Type 0
IsPlaced page group Ours = (r : Record) × (rest others : List Record) × (group ≡ r ∷ rest) × (page ≡ r ∷ others)
IsPlaced page group (Others stand) = (r s : Record) × (rest others : List Record) × (group ≡ r ∷ rest) × (page ≡ s ∷ others) × (s ≢ r) × (stand.items ≡ page)
IsPlaced page group Full = ⊥

-- a group was asked for: no other is loose that wasn't
pub record Loosens (old : LogView) (at : ℕ) (group : List Record) (new : LogView) : Type 0 where
  pub writer : new.writer ≡ old.writer
  pub place : new.at ≡ at
  pub loose : (g : List Record) → IsOneOf g new.loose → IsOneOf g (loose_at at old) ⊎ (g ≡ group)

-- what has come of a group that was to be put behind so many records
abbrev pub Places : LogView → ℕ → List Record → Placed → LogView → Type 0
Places old at group Ours new = Loosens old at group new × Grows old group new.records × IsAt at group new.records × (length old.records ≤ at) × (at < length new.records)
Places old at group (Others page) new = Loosens old at group new × Grows old [] new.records × (page.items ≢ []) × IsAt at page.items new.records
Places old at group Full new = Reads old new

-- nothing is known of it
abbrev pub PlacesNone : LogView → ℕ → List Record → LogView → Type 0
PlacesNone old at group new = Loosens old at group new × (Grows old [] new.records ⊎ (Grows old group new.records × IsAt at group new.records))

-- what has come of a call that a hall was to make behind its entries
abbrev pub TriesTo : Bool → ℕ → List Entry → LogView → List ℕ → Call → Tried → List Entry → LogView → Type 0
TriesTo is_known turn old seen_old by call (Made reply) new seen_new = (made : List Entry) × (new ≡ old ++ made) × Steps old by call reply new × (IsTrue is_known → Places seen_old (length old) (recorded seen_old.writer turn made) Ours seen_new)
TriesTo is_known turn old seen_old by call (Behind page) new seen_new = (group : List Record) × (new ≡ old) × (IsTrue is_known → Places seen_old (length old) group (Others page) seen_new)
TriesTo is_known turn old seen_old by call (Not answer) new seen_new = (new ≡ old) × Becomes old by call answer new × (IsTrue is_known → Reads seen_old seen_new)

-- nothing is known of it
pub record TriesNone (is_known : Bool) (turn : ℕ) (old : List Entry) (seen_old : LogView) (by : List ℕ) (call : Call) (new : List Entry) (seen_new : LogView) : Type 0 where
  pub same : new ≡ old
  pub reply : Reply
  pub asked : List Entry
  pub steps : Steps old by call reply (old ++ asked)
  pub places : IsTrue is_known → PlacesNone seen_old (length old) (recorded seen_old.writer turn asked) seen_new

-- A call that is answered, as a call of a store is; but nothing is said of whether the journal that it is made on has all that the log had
-- when the call began.
pub record MakesLate (is_known : Bool) (turn : ℕ) (old : List Entry) (seen_old : LogView) (by : List ℕ) (call : Call) (answer : Answer) (new : List Entry) (seen_new : LogView) : Type 0 where
  pub at : List Entry
  pub goes_on : GoesOn old at
  pub becomes : Becomes at by call answer new
  pub made : List Entry
  pub makes : new ≡ at ++ made
  pub first : IsTrue is_known → AreFirst new seen_new.records
  pub own : IsTrue is_known → Grows seen_old (recorded seen_old.writer turn made) seen_new.records
  pub stands : IsTrue is_known → made ≢ [] → IsAt (length at) (recorded seen_old.writer turn made) seen_new.records
  pub follows : IsTrue is_known → Follows seen_old seen_new

-- A call that was asked for, behind what the store knows then, and of which it isn't known whether it was made.
pub record TriesOne (is_known : Bool) (turn : ℕ) (old : List Entry) (seen_old : LogView) (by : List ℕ) (call : Call) (new : List Entry) (seen_new : LogView) : Type 0 where
  pub goes_on : GoesOn old new
  pub reply : Reply
  pub asked : List Entry
  pub steps : Steps new by call reply (new ++ asked)
  pub first : IsTrue is_known → AreFirst new seen_new.records
  pub own : IsTrue is_known → Grows seen_old [] seen_new.records ⊎ (Grows seen_old (recorded seen_old.writer turn asked) seen_new.records × IsAt (length new) (recorded seen_old.writer turn asked) seen_new.records)
  pub place : IsTrue is_known → seen_new.at ≡ length new
  pub writer : IsTrue is_known → seen_new.writer ≡ seen_old.writer
  pub loose : IsTrue is_known → length seen_new.records ≤ seen_new.at → (group : List Record) → IsOneOf group seen_new.loose → ((seen_new.at ≡ seen_old.at) × IsOneOf group seen_old.loose) ⊎ (group ≡ recorded seen_old.writer turn asked)

-- What has come of one try: the call has its answer, behind all that the log had when the try began, unless enough was read before it;
-- or others' entries have come, one at least, and are followed, so it may be tried again, and enough is read then, or maybe not.
abbrev pub Attempts : Bool → ℕ → Bool → List Entry → LogView → List ℕ → Call → Attempt → List Entry → LogView → Type 0
Attempts is_known turn is_read old seen_old by call (attempts.Answered answer) new seen_new = (makes : MakesLate is_known turn old seen_old by call answer new seen_new) × (IsTrue is_known → IsTrue is_read ⊎ (length seen_old.records ≤ length makes.at))
Attempts is_known turn is_read old seen_old by call (attempts.Again is_now) new seen_new = StaysOn is_known old seen_old new seen_new × (IsTrue is_known → IsReady turn new seen_new) × (IsTrue is_known → length old < length new) × (IsTrue is_now → IsTrue is_known → IsTrue is_read ⊎ (length seen_old.records ≤ length new))

-- why an entry of the log isn't followed behind a journal
abbrev pub FollowsNot : ReadFault → List Entry → Entry → Type 0
FollowsNot NoAnswer journal entry = ⊥
FollowsNot (Foreign number) journal entry = IsStrange journal entry × (number ≡ length journal + 1)
FollowsNot OutOfMemory journal entry = Unit {0}

-- why it isn't, from the reply that its report gets: memory ran out, or it is foreign
abbrev pub IsRefusal : Reply → ℕ → ReadFault → Type 0
IsRefusal reply number NoAnswer = ⊥
IsRefusal reply number (Foreign named) = (named ≡ number) × (reply ≢ Refused causes.OutOfMemory)
IsRefusal reply number OutOfMemory = Unit {0}

-- the first of some entries are followed, and the next one isn't
abbrev pub StopsAt : ReadFault → List Entry → List Entry → List Entry → Type 0
StopsAt fault old entries new = (taken : List Entry) × (entry : Entry) × (left : List Entry) × (new ≡ old ++ taken) × (entries ≡ taken ++ entry ∷ left) × FollowsNot fault new entry

-- nothing in the log was found to be foreign
abbrev pub IsNotForeign : ReadFault → Type 0
IsNotForeign NoAnswer = Unit {0}
IsNotForeign (Foreign number) = ⊥
IsNotForeign OutOfMemory = Unit {0}

-- these entries are in a log that had none when the writer began, put by so many turns, and nothing else may come of the writer
pub record HasFilled (start : LogView) (done : List Entry) (turn : ℕ) (view : LogView) : Type 0 where
  pub fills : Fills start done view
  pub store : IsStore done turn view
  pub idle : (view.at < length view.records) ⊎ (view.loose ≡ [])
