-- The headline: stores that share a log have one history.
use Rattle.std.specs.Prelude.{◌≡◌, ◌≢◌, ◌⊎◌, ◌<◌, ◌≤◌, ◌==◌, ℕ, Bool, true, false, IsTrue, List, [], ◌∷◌, ◌++◌, length, map, filter, Option, Some, None, MatchOption}
use Rattle.std.specs.List.{AllByRecursion, flat_map}
use mathlib.Core.List.{IsPrefix}
use Rattle.pana_journal.specs.declared.entry.Entry.{Entry}
use Rattle.pana_calls.specs.declared.answer.Answer.{Answer}
use Rattle.pana_calls.specs.declared.answer.Answer.TheVariants.{Given}
use Rattle.pana_calls.specs.declared.call.Call.TheVariants as calls
use Rattle.pana_calls.specs.declared.call.Query.{Query}
use Rattle.pana_calls.specs.declared.cause.Cause.{Cause}
use Rattle.pana_calls.specs.declared.reply.Reply.{Reply}
use Rattle.pana_calls.specs.declared.reply.Reply.TheVariants.{Refused}
use Rattle.pana_hall.specs.Run.{Exchange, IsRun, journal_from}
use Rattle.pana_hall.specs.Step.{Steps}
use Rattle.pana_shared.specs.declared.record.Record.{Record}
use Rattle.pana_shared_store.specs.Store.{AreFirst, Becomes, asks_all, entries_in, recorded}
use Rattle.pana_shared_laws.specs.Groups.{AreGroups}
use Rattle.pana_shared_laws.specs.Lives.{Deed, Life, Step, steps_of}

-- where a call stands in the history: the entries before it, those that it has made right behind them, and, if it has made any, their
-- turn, and the reply of a hall alone
pub record Standing : Type 0 where
  pub step : Step
  pub turn : ℕ
  pub before : List Entry
  pub made : List Entry
  pub reply : Reply

-- the place behind which the next calls of the store stand: where this one has its answer, behind what it has made
abbrev pub place_behind : ℕ → Option Answer → ℕ → ℕ
place_behind from None until = from
place_behind from (Some answer) until = until

-- the calls stand in the order made: each behind what those with an answer before it have made
abbrev pub InOrder : ℕ → List Standing → Type 0
InOrder from [] = Unit {0}
InOrder from (call ∷ calls) = (from ≤ length call.before) × InOrder (place_behind from call.step.answer (length (call.before ++ call.made))) calls

-- what calls have made is of turns of their own: each behind those of the calls before it and behind its store's as the call began, and
-- no later than its store's as the call ended
abbrev pub HaveTurns : ℕ → List Standing → Type 0
HaveTurns from [] = Unit {0}
HaveTurns from (call ∷ calls) = ((call.made ≡ []) × HaveTurns from calls) ⊎ ((from < call.turn) × (call.step.begun.turn < call.turn) × (call.turn ≤ call.step.ended.turn) × HaveTurns call.turn calls)

-- what a call has made, as records of its writer and turn, and how many stand before them
abbrev pub group_of : ℕ → Standing → ℕ × List Record
group_of writer call = (length call.before, recorded writer call.turn call.made)

-- whether there are any
abbrev pub are_some : List Entry → Bool
are_some [] = false
are_some (entry ∷ entries) = true

-- a call that has made entries, and its writer
pub record Turn : Type 0 where
  pub writer : ℕ
  pub call : Standing

-- calls as a hall alone would get and answer them
abbrev pub exchanges : List Turn → List Exchange
exchanges turns = map (λ turn. record { by = turn.call.step.by; call = turn.call.step.call; reply = turn.call.reply }) turns

-- each stands right behind what those before it have made
abbrev pub AreBehind : List Entry → List Turn → Type 0
AreBehind journal [] = Unit {0}
AreBehind journal (turn ∷ turns) = (turn.call.before ≡ journal) × AreBehind (journal ++ turn.call.made) turns

-- the calls of one writer, in order
abbrev pub calls_by : ℕ → List Turn → List Standing
calls_by writer turns = map (λ turn. turn.call) (filter (λ turn. turn.writer == writer) turns)

-- The answer is what a hall alone computes from the entries before the call. These have all that the log had when the call began, but
-- where a stale store was asked a question; and what it has made was there when it ended, of its store's turn then. A refused call, and a
-- question, has made nothing.
pub record IsAnswered (call : Standing) (answer : Answer) : Type 0 where
  pub becomes : Becomes call.before call.step.by call.step.call answer (call.before ++ call.made)
  pub replied : call.made ≢ [] → answer ≡ Given call.reply
  pub all : IsTrue (asks_all call.step.begun.is_stale call.step.call) → length call.step.begun.seen.records ≤ length call.before
  pub there : length (call.before ++ call.made) ≤ length call.step.ended.seen.records
  pub turn : call.turn ≡ call.step.ended.turn
  pub refused : (cause : Cause) → answer ≡ Given (Refused cause) → call.made ≡ []
  pub asked : (query : Query) → call.step.call ≡ calls.Query query → call.made ≡ []

-- A call without an answer has made nothing by then, or just what a hall alone would have made there, behind all that the log had
-- when it began.
abbrev pub IsUnanswered : Standing → Type 0
IsUnanswered call = (call.made ≡ []) ⊎ (Steps call.before call.step.by call.step.call call.reply (call.before ++ call.made) × (length call.step.begun.seen.records ≤ length call.before))

-- A call stands so in the journal of the log, which has these records in the end. What its store has seen of the log when it began,
-- and when it ended, are the first of them.
pub record StandsIn (records : List Record) (call : Standing) : Type 0 where
  pub first : AreFirst (call.before ++ call.made) records
  pub begun : IsPrefix call.step.begun.seen.records records
  pub ended : IsPrefix call.step.ended.seen.records records
  pub comes : MatchOption call.step.answer (IsUnanswered call) (λ answer. IsAnswered call answer)

-- none of the calls has made anything
abbrev pub HaveNone : List Standing → Type 0
HaveNone calls = AllByRecursion (λ call. call.made ≡ []) calls

-- all of the calls were made, as by a hall alone, the first one here, and each right behind those before it
abbrev pub AreInARow : List Entry → List Standing → Type 0
AreInARow at [] = Unit {0}
AreInARow at (call ∷ calls) = (call.before ≡ at) × Steps at call.step.by call.step.call call.reply (at ++ call.made) × AreInARow (at ++ call.made) calls

-- the calls of each deed stand so: where they have no answers, all of them were made, or none
abbrev pub AreWhole : List Deed → List Standing → Type 0
AreWhole [] calls = Unit {0}
AreWhole (deed ∷ deeds) calls = (these : List Standing) × (others : List Standing) × (calls ≡ these ++ others) × (length these ≡ length deed.calls) × MatchOption deed.answer (HaveNone these ⊎ ((at : List Entry) × AreInARow at these)) (λ answer. Unit {0})
    × AreWhole deeds others

-- These are the calls of a store's life: they stand in the log's journal, in the order made, and the writer's records are just those
-- that they have made, each where its call stands, and once, and each call's of a turn of its own; and of calls that were asked for
-- at once, without answers, all were made, or none. The store is stale at each of them, or at none, as it was opened.
pub record AreOf (writer : ℕ) (records : List Record) (life : Life) (calls : List Standing) : Type 0 where
  pub steps : map (λ call. call.step) calls ≡ flat_map steps_of life.deeds
  pub stand : AllByRecursion (λ call. StandsIn records call) calls
  pub order : InOrder 0 calls
  pub turns : HaveTurns 0 calls
  pub once : AreGroups 0 writer records (map (λ call. group_of writer call) calls)
  pub whole : AreWhole life.deeds calls
  pub stale : AllByRecursion (λ call. call.step.begun.is_stale ≡ life.opened.is_stale) calls

-- All calls of all stores stand in one journal, that of the log. It is what a hall alone has of a run of the calls that have made
-- entries, each writer's in the order made, and no others.
pub record IsOneHistory (stores : ℕ → Option Life) (records : List Record) : Type 0 where
  pub calls : ℕ → List Standing
  pub own : (writer : ℕ) → MatchOption (stores writer) (calls writer ≡ []) (λ life. AreOf writer records life (calls writer))
  pub turns : List Turn
  pub run : IsRun (exchanges turns)
  pub journal : entries_in records ≡ journal_from [] (exchanges turns)
  pub behind : AreBehind [] turns
  pub each : (writer : ℕ) → calls_by writer turns ≡ filter (λ call. are_some call.made) (calls writer)
