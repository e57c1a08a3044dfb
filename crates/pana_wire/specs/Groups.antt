-- What a session writes whose calls are settled in groups: the calls of a group are made one after another, then the session
-- settles, which keeps what they have made, and only then their answers are written.
use Rattle.std.specs.Prelude.{◌≡◌, ℕ, ◌+◌, ◌≤◌, List, [], ◌∷◌, ◌++◌, length, take, Option, ◌⊎◌, Bool, true, false}
use mathlib.Core.List.{IsPrefix}
use Rattle.std.specs.Io.KnownBytes.{Consumes, IsAtEnd}
use Rattle.pana_calls.specs.declared.call.Call.{Call}
use Rattle.pana_calls.specs.declared.answer.Answer.{Answer}
use Rattle.pana_calls.specs.declared.message.Message.{Message}
use Rattle.pana_wire.specs.declared.tap.Tap.{Tap}
use Rattle.pana_wire.specs.declared.serving.Served.{Served}
use Rattle.pana_wire.specs.declared.serving.ServeFault.{ServeFault}
use Rattle.pana_wire.specs.declared.serving.ServeFault.TheVariants.{Read, Write, OutOfMemory, NoAnswer, Turns}
use Rattle.pana_wire.specs.Lines.{ended, lines_of}
use Rattle.pana_wire.specs.Session.{AnswersLines, Made, LosesNext, FailsNext, MayCallNext, HasCause, lines_come}
use Rattle.pana_wire.specs.Tap.{Ask, Note, asked, inside, has_failed, has_ended, is_flushed, noted, noted_at, IsNoted}

-- the lines of groups, one group after another
abbrev pub joined : List (List (List ℕ)) → List (List ℕ)
joined [] = []
joined (lines ∷ groups) = lines ++ joined groups

-- groups of lines, and the notes of their answers: the calls of a group are made, then the session settles, and then the
-- answers are written, at the moment of the state that this left
abbrev pub AnswersGroups : {S : Type 0} → (S → List ℕ → Call → Answer → S → Type 0) → (S → S → Type 0) → (S → ℕ) → S → List (List (List ℕ)) → List Note → S → ℕ → Type 0
AnswersGroups step settles moment old [] notes new steps = (notes ≡ []) × (new ≡ old) × (steps ≡ 0)
AnswersGroups {S = S} step settles moment old (lines ∷ groups) notes new steps = (made : S) × (settled : S) × (text : List ℕ) × (rest : List Note) × (first : ℕ) × (others : ℕ)
    × AnswersLines step old lines text made first × settles made settled × AnswersGroups step settles moment settled groups rest new others
    × (notes ≡ noted_at (moment settled) text ++ rest) × (steps ≡ first + others)

-- Where serving breaks off in a group, the calls of the first of its lines are made. They are settled, and a prefix of their
-- answers is written, at the moment of the state that this left; or the session couldn't settle, and nothing of them is
-- written. A write failed: what comes next may have been called. Memory ran out for the next answer, or the next call has
-- none: all of their answers are written.
abbrev pub BreaksGroup : {S : Type 0} → (S → List ℕ → Call → Answer → S → Type 0) → Bool → (S → List Message → S → Type 0) → (S → S → Type 0) → (S → S → Type 0) → (S → ℕ) → ServeFault → S → List (List ℕ) → List Note → S → Type 0
BreaksGroup step together fails settles breaks_off moment Read old lines notes new = ⊥
BreaksGroup {S = S} step together fails settles breaks_off moment Write old lines notes new = (made : Made step old lines) × (last : S) × (output : List ℕ)
    × MayCallNext step together fails made.last made.others last × settles last new × IsPrefix output made.text × (notes ≡ noted_at (moment new) output)
BreaksGroup {S = S} step together fails settles breaks_off moment OutOfMemory old lines notes new = (made : Made step old lines) × (last : S)
    × LosesNext step together fails made.last made.others last × settles last new × (notes ≡ noted_at (moment new) made.text)
BreaksGroup {S = S} step together fails settles breaks_off moment NoAnswer old lines notes new = (made : Made step old lines) × (last : S)
    × ((FailsNext together fails made.last made.others last × settles last new × (notes ≡ noted_at (moment new) made.text))
    ⊎ (MayCallNext step together fails made.last made.others last × breaks_off last new × (notes ≡ [])))
BreaksGroup step together fails settles breaks_off moment Turns old lines notes new = ⊥

-- serving breaks off among lines: groups of the first of them are answered, and it breaks off in the next group
pub record BreaksAmong {S : Type 0} (step : S → List ℕ → Call → Answer → S → Type 0) (together : Bool) (fails : S → List Message → S → Type 0) (settles breaks_off : S → S → Type 0) (moment : S → ℕ)
    (fault : ServeFault) (old : S) (lines : List (List ℕ)) (notes : List Note) (new : S) : Type 0 where
  pub groups : List (List (List ℕ))
  pub others : List (List ℕ)
  pub whole : List Note
  pub part : List Note
  pub last : S
  pub steps : ℕ
  pub split : lines ≡ joined groups ++ others
  pub answers : AnswersGroups step settles moment old groups whole last steps
  pub breaks : BreaksGroup step together fails settles breaks_off moment fault last others part new
  pub noted : notes ≡ whole ++ part

-- these lines are answered, in groups
abbrev pub AnswersAll : {S : Type 0} → (S → List ℕ → Call → Answer → S → Type 0) → (S → S → Type 0) → (S → ℕ) → S → List (List ℕ) → List Note → S → ℕ → Type 0
AnswersAll step settles moment old lines notes new steps = (groups : List (List (List ℕ))) × (lines ≡ joined groups) × AnswersGroups step settles moment old groups notes new steps

-- what is written where serving stops, by whether the end of the input was met. No more could be read: the answers to
-- all lines that have ended. Else serving breaks off among the lines that have come.
abbrev pub EndsGroupsBy : {S : Type 0} → (S → List ℕ → Call → Answer → S → Type 0) → Bool → (S → List Message → S → Type 0) → (S → S → Type 0) → (S → S → Type 0) → (S → ℕ) → ServeFault → Bool → S → List ℕ → List Note → S → Type 0
EndsGroupsBy step together fails settles breaks_off moment Read met old input notes new = (steps : ℕ) × AnswersAll step settles moment old (ended [] input) notes new steps
EndsGroupsBy step together fails settles breaks_off moment Write met old input notes new = BreaksAmong step together fails settles breaks_off moment Write old (lines_come met input) notes new
EndsGroupsBy step together fails settles breaks_off moment OutOfMemory met old input notes new = BreaksAmong step together fails settles breaks_off moment OutOfMemory old (lines_come met input) notes new
EndsGroupsBy step together fails settles breaks_off moment NoAnswer met old input notes new = BreaksAmong step together fails settles breaks_off moment NoAnswer old (lines_come met input) notes new
EndsGroupsBy step together fails settles breaks_off moment Turns met old input notes new = (steps : ℕ) × AnswersAll step settles moment old (ended [] input) notes new steps

-- before each of these reads, the first of which comes behind so many bytes, all that was written was flushed, and the bytes that
-- were read are answered by what was written
abbrev pub AreInTime : (ℕ → ℕ → Type 0) → ℕ → List Ask → Type 0
AreInTime answered given [] = Unit {0}
AreInTime answered given (ask ∷ asks) = (ask.flushed ≡ true) × answered given ask.written × AreInTime answered (given + ask.gave) asks

-- the lines that end in so many bytes of the input are answered by so many notes, the first ones of which were there before
abbrev pub AreAnswered : {S : Type 0} → (S → List ℕ → Call → Answer → S → Type 0) → (S → S → Type 0) → (S → ℕ) → S → ℕ → List ℕ → List Note → ℕ → ℕ → Type 0
AreAnswered {S = S} step settles moment old before input notes given written = (own : ℕ) × (written ≡ before + own) × (given ≤ length input) × (own ≤ length notes)
    × ((mid : S) × (steps : ℕ) × AnswersAll step settles moment old (ended [] (take given input)) (take own notes) mid steps)

-- how many bytes reads gave
abbrev pub all_given : List Ask → ℕ
all_given [] = 0
all_given (ask ∷ asks) = ask.gave + all_given asks

-- before each read all lines that have ended are answered, and the answers are flushed, if all was flushed at the start
pub record IsPrompt {R W S : Type 0} (step : S → List ℕ → Call → Answer → S → Type 0) (settles : S → S → Type 0) (moment : S → ℕ) (reader_old reader_new : Tap R) (writer_old : Tap W) (old : S) (input : List ℕ) (notes : List Note) : Type 0 where
  pub asks : List Ask
  pub reads : asked reader_new ≡ asked reader_old ++ asks
  pub given : all_given asks ≡ length input
  pub in_time : is_flushed writer_old ≡ true → AreInTime (AreAnswered step settles moment old (length (noted writer_old)) input notes) 0 asks

-- the reader is read to its end, its lines are answered in groups, and nothing else is written
pub record ServesGroups {R W S : Type 0} (remaining : R → Option (List ℕ)) (contents : W → Option (List ℕ)) (step : S → List ℕ → Call → Answer → S → Type 0) (settles : S → S → Type 0) (moment : S → ℕ)
    (reader_old reader_new : Tap R) (writer_old writer_new : Tap W) (old new : S) (served : Served) : Type 0 where
  pub input : List ℕ
  pub notes : List Note
  pub reads : Consumes (remaining (inside reader_old)) (remaining (inside reader_new)) input
  pub at_end : IsAtEnd (remaining (inside reader_new))
  pub ended : has_ended reader_new ≡ true
  pub writes : IsNoted contents writer_old writer_new notes
  pub answers : AnswersAll step settles moment old (lines_of input) notes new served.calls
  pub lines : served.lines ≡ length (lines_of input)
  pub reader_works : has_failed reader_new ≡ false
  pub writer_works : has_failed writer_new ≡ false
  pub prompt : IsPrompt step settles moment reader_old reader_new writer_old old input notes

-- serving stops with the fault, where it may make so many reads
pub record StopsGroups {R W S : Type 0} (remaining : R → Option (List ℕ)) (contents : W → Option (List ℕ)) (step : S → List ℕ → Call → Answer → S → Type 0) (together : Bool) (fails : S → List Message → S → Type 0)
    (settles breaks_off : S → S → Type 0) (moment : S → ℕ) (most : ℕ) (reader_old reader_new : Tap R) (writer_old writer_new : Tap W) (old new : S) (fault : ServeFault) : Type 0 where
  pub input : List ℕ
  pub notes : List Note
  pub reads : Consumes (remaining (inside reader_old)) (remaining (inside reader_new)) input
  pub writes : IsNoted contents writer_old writer_new notes
  pub ends : EndsGroupsBy step together fails settles breaks_off moment fault (has_ended reader_new) old input notes new
  pub cause : HasCause fault most reader_old reader_new (has_failed writer_new)
  pub prompt : IsPrompt step settles moment reader_old reader_new writer_old old input notes
