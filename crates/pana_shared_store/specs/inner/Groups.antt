-- Calls that are put into a log together.
use Rattle.std.specs.Prelude.{◌≡◌, ◌⊎◌, ◌<◌, ◌≤◌, ◌+◌, ◌^◌, ℕ, Bool, false, IsTrue, List, [], ◌∷◌, ◌++◌, length, take, Option, Some, None}
use Rattle.pana_journal.specs.declared.entry.Entry.{Entry}
use Rattle.pana_calls.specs.declared.answer.Answer.{Answer}
use Rattle.pana_calls.specs.declared.answer.Answer.TheVariants.{Given}
use Rattle.pana_calls.specs.declared.call.Call.{Call}
use Rattle.pana_calls.specs.declared.message.Message.{Message}
use Rattle.pana_calls.specs.declared.reply.Reply.{Reply}
use Rattle.pana_calls.specs.Session.{AddsAll, MakesAll}
use Rattle.pana_hall.specs.Step.{Steps}
use Rattle.pana_shared.specs.declared.record.Record.{Record}
use Rattle.pana_shared.specs.Log.{HaveSome, LogView}
use Rattle.pana_shared_store.specs.declared.grouping.Grouped.{Grouped}
use Rattle.pana_shared_store.specs.declared.grouping.Grouped.TheVariants.{Made, Not}
use Rattle.pana_shared_store.specs.Store.{Fails, HasCause, Makes, MakesBy, StaysOn, StoreView, TriesBy, asks_all, recorded, recorded_all}

-- the entries of a hall that are in its log: all, or its first so many
abbrev pub shown : List Entry → Option ℕ → List Entry
shown journal None = journal
shown journal (Some count) = take count journal

-- what several calls make, one behind another
abbrev pub joined : List (List Entry) → List Entry
joined [] = []
joined (made ∷ groups) = made ++ joined groups

-- what becomes of a call in a hall alone, and the entries that it makes
abbrev pub IsGathered : List Entry → Message → Answer → List Entry → Type 0
IsGathered at message answer made = (reply : Reply) × (answer ≡ Given reply) × Steps at message.by message.call reply (at ++ made)

-- the same of calls that are made one behind another
abbrev pub AreGathered : List Entry → List Message → List Answer → List (List Entry) → Type 0
AreGathered at [] [] [] = Unit {0}
AreGathered at [] [] (made ∷ groups) = ⊥
AreGathered at [] (answer ∷ answers) groups = ⊥
AreGathered at (message ∷ messages) [] groups = ⊥
AreGathered at (message ∷ messages) (answer ∷ answers) [] = ⊥
AreGathered at (message ∷ messages) (answer ∷ answers) (made ∷ groups) = IsGathered at message answer made × AreGathered (at ++ made) messages answers groups

-- a call is made in a hall, and what it makes is added to a group, as a writer's records of this turn; or nothing changes
abbrev pub GathersOne : ℕ → ℕ → List Entry → List Record → Message → Option Reply → List Entry → List Record → Type 0
GathersOne writer turn old group_old message (Some reply) new group_new = (made : List Entry) × (new ≡ old ++ made) × Steps old message.by message.call reply new × (group_new ≡ group_old ++ recorded writer turn made)
GathersOne writer turn old group_old message None new group_new = (new ≡ old) × (group_new ≡ group_old)

-- calls are made in a hall, their answers are added, and what they make is a group of a writer's records, each call's of the next turn
pub record Gathers (writer turn : ℕ) (old : List Entry) (answers_old : List Answer) (calls : List Message) (new : List Entry) (answers_new : List Answer) (group : List Record) : Type 0 where
  pub given : List Answer
  pub asked : List (List Entry)
  pub adds : answers_new ≡ answers_old ++ given
  pub are : AreGathered old calls given asked
  pub makes : new ≡ old ++ joined asked
  pub records : group ≡ recorded_all writer (turn + 1) asked

-- what a step of a store that isn't broken goes by
pub record Moment : Type 0 where
  pub entries : List Entry
  pub seen : LogView
  pub turn : ℕ

abbrev pub moment : List Entry → LogView → ℕ → Moment
moment entries seen turn = record { entries = entries; seen = seen; turn = turn }

-- that of a store
abbrev pub moment_of : StoreView → Moment
moment_of store = moment store.entries store.seen store.turn

-- a call that is answered
abbrev pub Goes : Bool → Bool → Moment → List ℕ → Call → Answer → Moment → Type 0
Goes is_known is_stale old by call answer new = MakesBy is_known is_stale old.turn new.turn old.entries old.seen by call answer new.entries new.seen × (old.turn ≤ new.turn)

-- what has come of calls that were to be made together: the first of them are made, one at least, and their answers are added; or none is
abbrev pub Groups : Bool → Bool → Moment → List Message → List Answer → Grouped → Moment → List Answer → Type 0
Groups is_known is_stale old calls answers_old (Made count) new answers_new = (0 < count) × (count ≤ length calls) × (given : List Answer) × (answers_new ≡ answers_old ++ given) × MakesAll (Goes is_known is_stale) old (take count calls) given new
Groups is_known is_stale old calls answers_old Not new answers_new = StaysOn is_known old.entries old.seen new.entries new.seen

-- the first of them have no answers: nothing was asked of the log but to be read, or all of these were asked for at once
pub record GroupsNot (is_known : Bool) (old : Moment) (calls : List Message) (new : Moment) : Type 0 where
  pub tried : List Message
  pub left : List Message
  pub split : calls ≡ tried ++ left
  pub some : 0 < length tried
  pub on : StaysOn is_known old.entries old.seen new.entries new.seen ⊎ TriesBy is_known old.turn new.turn old.entries old.seen tried new.entries new.seen

-- whether a call needs all that the log had is a question of this; where each that does has it
abbrev pub AreBehind : Bool → List Message → Type 0 → Type 0
AreBehind is_stale [] All = Unit {0}
AreBehind is_stale (message ∷ messages) All = (IsTrue (asks_all is_stale message.call) → All) × AreBehind is_stale messages All

-- calls that have no answers
abbrev pub FailsFor : Bool → StoreView → List Message → StoreView → Type 0
FailsFor is_known old calls new = Fails is_known old calls new × HasCause is_known old new

-- no call is made by then, and one can be: there is a turn for it, if any was used up
pub record Waits (is_known : Bool) (old new : StoreView) : Type 0 where
  pub on : StaysOn is_known old.entries old.seen new.entries new.seen
  pub some : IsTrue is_known → HaveSome old.seen.loose
  pub turn : old.turn ≤ new.turn
  pub room : (new.turn ≡ old.turn) ⊎ (new.turn + 1 < 2 ^ 64)
  pub heard : IsTrue is_known → new.silences ≤ old.silences
  pub whole : old.broken ≡ false
  pub same : new.broken ≡ false
  pub stale : new.is_stale ≡ old.is_stale

-- what has come of calls that were to be made together, by a store: as many of them are made; or none is, and one can be
abbrev pub Calls : Bool → StoreView → List Message → List Answer → Option ℕ → StoreView → List Answer → Type 0
Calls is_known old calls answers_old (Some count) new answers_new = (0 < count) × (count ≤ length calls) × AddsAll (Makes is_known) old (take count calls) answers_old answers_new new
Calls is_known old calls answers_old None new answers_new = Waits is_known old new × (answers_new ≡ answers_old)
