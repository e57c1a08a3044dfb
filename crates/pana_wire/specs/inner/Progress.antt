-- How far serving has come.
use Rattle.std.specs.Prelude.{◌≡◌, ℕ, ◌+◌, ◌⊎◌, List, [], ◌++◌, take, Option, Bool, true, false}
use Rattle.pana_calls.specs.declared.call.Call.{Call}
use Rattle.pana_calls.specs.declared.answer.Answer.{Answer}
use Rattle.pana_calls.specs.declared.message.Message.{Message}
use Rattle.pana_wire.specs.declared.tap.Tap.{Tap}
use Rattle.pana_wire.specs.declared.serving.Served.{Served}
use Rattle.pana_wire.specs.declared.serving.ServeFault.{ServeFault}
use Rattle.pana_wire.specs.declared.serving.ServeFault.TheVariants.{Read, Write, OutOfMemory, NoAnswer, Turns}
use Rattle.pana_wire.specs.Tap.{Note, IsNoted}
use Rattle.pana_wire.specs.inner.Writing.{Writes, WritesPrefix}
use Rattle.pana_wire.specs.Groups.{joined, AnswersGroups, BreaksAmong}
use Rattle.pana_wire.specs.Session.{AnswersLines}

-- the lines and calls of both
abbrev pub both : Served → Served → Served
both a b = record { lines = a.lines + b.lines; calls = a.calls + b.calls }

-- the bytes that are held of a line: the first 65,537
abbrev pub IsHeldOf : List ℕ → List ℕ → Type 0
IsHeldOf held line = held ≡ take 65537 line

-- the fault comes of the writer or of the session
abbrev pub IsOutFault : Bool → ServeFault → Type 0
IsOutFault failed Read = ⊥
IsOutFault failed Write = failed ≡ true
IsOutFault failed OutOfMemory = failed ≡ false
IsOutFault failed NoAnswer = failed ≡ false
IsOutFault failed Turns = ⊥

-- a call has no answer, or its answer is lost, since memory ran out for it
abbrev pub IsLost : {S : Type 0} → (S → List ℕ → Call → Answer → S → Type 0) → (S → List ℕ → Call → S → Type 0) → S → List ℕ → Call → S → ServeFault → Type 0
IsLost step fails old by call new OutOfMemory = (answer : Answer) × step old by call answer new
IsLost step fails old by call new NoAnswer = fails old by call new
IsLost step fails old by call new fault = ⊥

module _ {W S : Type 0} (contents : W → Option (List ℕ)) (step : S → List ℕ → Call → Answer → S → Type 0) (together : Bool) (fails : S → List Message → S → Type 0) (settles breaks_off : S → S → Type 0) (moment : S → ℕ) where
  -- the calls are settled, and then the text is written
  pub record Releases (writer_old writer_new : Tap W) (old new : S) (text : List ℕ) : Type 0 where
    pub settled : settles old new
    pub writes : Writes contents (moment new) writer_old writer_new text

  -- the text isn't written, or not all of it: the calls are settled and a write failed, or they couldn't be settled
  abbrev pub Holds : Tap W → Tap W → S → S → List ℕ → ServeFault → Type 0
  Holds writer_old writer_new old new text Write = settles old new × WritesPrefix contents (moment new) writer_old writer_new text Write
  Holds writer_old writer_new old new text NoAnswer = breaks_off old new × (writer_new ≡ writer_old)
  Holds writer_old writer_new old new text fault = ⊥

  -- so far, from the beginning: lines are answered in groups, the calls of further ones are made, and their answers are held
  pub record Reaches (writer_old writer_new : Tap W) (old : S) (lines : List (List ℕ)) (new : S) (held : List ℕ) (calls : ℕ) : Type 0 where
    pub groups : List (List (List ℕ))
    pub others : List (List ℕ)
    pub notes : List Note
    pub last : S
    pub made : ℕ
    pub more : ℕ
    pub split : lines ≡ joined groups ++ others
    pub answers : AnswersGroups step settles moment old groups notes last made
    pub answered : AnswersLines step last others held new more
    pub noted : IsNoted contents writer_old writer_new notes
    pub count : calls ≡ made + more

  -- these lines come next, with so many calls
  abbrev pub Advances : Tap W → Tap W → S → S → List ℕ → List ℕ → List (List ℕ) → ℕ → Type 0
  Advances writer_old writer_new old new held_old held_new lines calls = (begun : Tap W) → (first : S) → (before : List (List ℕ)) → (sofar : ℕ)
      → Reaches begun writer_old first before old held_old sofar → Reaches begun writer_new first (before ++ lines) new held_new (sofar + calls)

  -- serving breaks off with the fault
  pub record Breaks (writer_old writer_new : Tap W) (old : S) (lines : List (List ℕ)) (new : S) (fault : ServeFault) : Type 0 where
    pub notes : List Note
    pub noted : IsNoted contents writer_old writer_new notes
    pub breaks : BreaksAmong step together fails settles breaks_off moment fault old lines notes new

  -- among these lines, which come next
  abbrev pub BreaksNext : Tap W → Tap W → S → S → List ℕ → List (List ℕ) → ServeFault → Type 0
  BreaksNext writer_old writer_new old new held lines fault = (begun : Tap W) → (first : S) → (before : List (List ℕ)) → (sofar : ℕ)
      → Reaches begun writer_old first before old held sofar → Breaks begun writer_new first (before ++ lines) new fault

  -- the line's text is held, or the calls are settled, and what was held is written, and the text
  abbrev pub Puts : Tap W → Tap W → S → S → List ℕ → List ℕ → List ℕ → Type 0
  Puts writer_old writer_new old new held_old held_new text = ((writer_new ≡ writer_old) × (new ≡ old) × (held_new ≡ held_old ++ text))
      ⊎ (Releases writer_old writer_new old new (held_old ++ text) × (held_new ≡ []))
