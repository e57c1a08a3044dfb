-- Whether the copy at a place may be overwritten with the one at another.
use Rattle.std.specs.Prelude.{◌≡◌, ◌⊎◌, ℕ, ◌==◌, if◌then◌else◌, List, [], ◌∷◌, ◌++◌, codes, Option, Some, None}
use Rattle.pana_copies.specs.declared.place.Place.{Place}
use Rattle.pana_event.specs.declared.rel.Rel.TheVariants as rels
use Rattle.pana_calls.specs.declared.call.Call.{Call}
use Rattle.pana_calls.specs.declared.call.Call.TheVariants as calls
use Rattle.pana_calls.specs.declared.call.Query.TheVariants as queries
use Rattle.pana_calls.specs.declared.cause.Cause.TheVariants.{OtherFamily, UnknownCopy}
use Rattle.pana_calls.specs.declared.reply.Reply.TheVariants as replies
use Rattle.pana_calls.specs.declared.answer.Answer.{Answer}
use Rattle.pana_calls.specs.declared.answer.Answer.TheVariants.{Given}
use Rattle.pana_ask.specs.declared.ask_fault.AskFault.{AskFault}
use Rattle.pana_ask.specs.declared.ask_fault.AskFault.TheVariants.{NoCopy, NoAnswer, OutOfMemory}
use Rattle.pana_ask.specs.declared.verdict.Verdict.{Verdict}
use Rattle.pana_ask.specs.declared.verdict.Verdict.TheVariants.{Yes, Newer, Conflict, Unrelated}
use Rattle.pana_ask.specs.Looking.{Finds, LooksInVain}
use Rattle.pana_ask.specs.Place.{place_name}

-- ---- what is judged

-- the verdict that follows from how the copy relates to the other: it may be overwritten where it is equal to that or older
abbrev pub verdict_in : Answer → Option Verdict
verdict_in (Given (replies.Pair rels.Equal)) = Some Yes
verdict_in (Given (replies.Pair rels.Older)) = Some Yes
verdict_in (Given (replies.Pair rels.Newer)) = Some Newer
verdict_in (Given (replies.Pair rels.Conflict)) = Some Conflict
verdict_in (Given (replies.Refused OtherFamily)) = Some Unrelated
verdict_in answer = None

-- the copy that an answer says is no more: it went since the question which copy is at its place
abbrev pub gone_in : Answer → Option ℕ
gone_in (Given (replies.Refused (UnknownCopy copy))) = Some copy
gone_in answer = None

-- the question how a copy relates to another
abbrev pub pair : ℕ → ℕ → Call
pair copy other = calls.Query (queries.Pair copy other)

module _ {S : Type 0} (step : S → List ℕ → Call → Answer → S → Type 0) where
  -- a device asks for the copies at both places, and how the one relates to the other, and this is the answer
  pub record Compares (by : List ℕ) (target source : Place) (old new : S) (answer : Answer) (copy : ℕ) : Type 0 where
    pub other : ℕ
    pub mid : S
    pub finds : Finds step by (target ∷ source ∷ []) old (copy ∷ other ∷ []) mid
    pub asks : step mid by (pair copy other) answer new

  -- a verdict is that of the answer
  abbrev pub Judges : List ℕ → Place → Place → S → S → Verdict → Type 0
  Judges by target source old new verdict = (answer : Answer) × (copy : ℕ) × Compares by target source old new answer copy × (verdict_in answer ≡ Some verdict)

  module _ (fails : S → List ℕ → Call → S → Type 0) where
    -- why there is none although both copies were found: one has gone since; the question how they relate has no answer; or
    -- memory ran out for its answer
    abbrev pub IsUncompared : List ℕ → Place → Place → S → S → AskFault → Type 0
    IsUncompared by target source old new (NoCopy missing) = (answer : Answer) × (copy : ℕ) × (gone : ℕ)
        × Compares by target source old new answer copy × (gone_in answer ≡ Some gone) × (missing ≡ (if gone == copy then target else source))
    IsUncompared by target source old new NoAnswer = (copy : ℕ) × (other : ℕ) × (mid : S)
        × Finds step by (target ∷ source ∷ []) old (copy ∷ other ∷ []) mid × fails mid by (pair copy other) new
    IsUncompared by target source old new OutOfMemory = (answer : Answer) × (copy : ℕ) × Compares by target source old new answer copy

    -- why there is no verdict
    abbrev pub JudgesNothing : List ℕ → Place → Place → S → S → AskFault → Type 0
    JudgesNothing by target source old new fault =
        LooksInVain step fails by (target ∷ source ∷ []) old new fault ⊎ IsUncompared by target source old new fault

-- ---- what is printed

-- the line of copies that are named so
abbrev pub line_naming : Verdict → List ℕ → List ℕ → List ℕ
line_naming Yes copy other = codes "yes\n"
line_naming Newer copy other = codes "newer: " ++ (copy ++ (codes " has changes that " ++ (other ++ codes " lacks\n")))
line_naming Conflict copy other = codes "conflict: " ++ (copy ++ (codes " has changes that " ++ (other ++ codes " lacks\n")))
line_naming Unrelated copy other = codes "unrelated: " ++ (copy ++ (codes " and " ++ (other ++ codes " are copies of two files\n")))

-- the line of a verdict
abbrev pub verdict_line : Verdict → Place → Place → List ℕ
verdict_line verdict target source = line_naming verdict (place_name target) (place_name source)

-- its status
abbrev pub verdict_status : Verdict → ℕ
verdict_status Yes = 0
verdict_status verdict = 1
