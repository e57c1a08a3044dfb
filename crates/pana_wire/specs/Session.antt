-- What a session writes for what it reads.
use Rattle.std.specs.Prelude.{◌≡◌, ℕ, ◌+◌, List, [], ◌∷◌, ◌++◌, length, Option, Result, Ok, Err, ◌⊎◌, Bool, true, false}
use Rattle.pana_calls.specs.Session.{one}
use mathlib.Core.List.{IsPrefix}
use Rattle.std.specs.Io.KnownBytes.{Consumes, Appends, IsAtEnd}
use Rattle.pana_calls.specs.declared.call.Call.{Call}
use Rattle.pana_calls.specs.declared.answer.Answer.{Answer}
use Rattle.pana_wire.specs.declared.fault.WireFault.{WireFault}
use Rattle.pana_wire.specs.declared.fault.WireFault.TheVariants as faults
use Rattle.pana_calls.specs.declared.message.Message.{Message}
use Rattle.pana_wire.specs.declared.tap.Tap.{Tap}
use Rattle.pana_wire.specs.declared.serving.Served.{Served}
use Rattle.pana_wire.specs.declared.serving.ServeFault.{ServeFault}
use Rattle.pana_wire.specs.declared.serving.ServeFault.TheVariants.{Read, Write, OutOfMemory, NoAnswer, Turns}
use Rattle.pana_wire.specs.Fault.{fault_text}
use Rattle.pana_wire.specs.Line.{line_says, IsText}
use Rattle.pana_wire.specs.Lines.{ended, lines_of}
use Rattle.pana_wire.specs.Answer.{answer_text}
use Rattle.pana_wire.specs.Tap.{inside, has_failed, has_ended, MadeReads}

-- the answer to what a line says: for a fault its text, and no step; for a message one step, and the text of its answer
abbrev pub AnswersSaid : {S : Type 0} → (S → List ℕ → Call → Answer → S → Type 0) → S → Result Message WireFault → List ℕ → S → ℕ → Type 0
AnswersSaid step old (Err fault) text new steps = (text ≡ fault_text fault) × (new ≡ old) × (steps ≡ 0)
AnswersSaid step old (Ok m) text new steps = (answer : Answer) × step old m.by m.call answer new × (text ≡ answer_text answer) × (steps ≡ 1)

-- the answer to a line: to what it says, or else, where it is text, that memory ran out, and no step
abbrev pub AnswersLine : {S : Type 0} → (S → List ℕ → Call → Answer → S → Type 0) → S → List ℕ → List ℕ → S → ℕ → Type 0
AnswersLine step old line text new steps = AnswersSaid step old (line_says line) text new steps ⊎ ((text ≡ fault_text faults.OutOfMemory) × (new ≡ old) × (steps ≡ 0) × IsText line)

-- the answers to lines, in order, each with a newline
abbrev pub AnswersLines : {S : Type 0} → (S → List ℕ → Call → Answer → S → Type 0) → S → List (List ℕ) → List ℕ → S → ℕ → Type 0
AnswersLines step old [] output new steps = (output ≡ []) × (new ≡ old) × (steps ≡ 0)
AnswersLines {S = S} step old (line ∷ lines) output new steps = (mid : S) × (text : List ℕ) × (rest : List ℕ) × (first : ℕ) × (others : ℕ)
    × AnswersLine step old line text mid first × AnswersLines step mid lines rest new others × (output ≡ text ++ 10 ∷ rest) × (steps ≡ first + others)

-- the session's text: the state, what is read, what is written, the state after, and how many steps were taken
abbrev pub SessionText : {S : Type 0} → (S → List ℕ → Call → Answer → S → Type 0) → S → List ℕ → List ℕ → S → ℕ → Type 0
SessionText step old input output new steps = AnswersLines step old (lines_of input) output new steps

-- the calls of the first of the lines are made, and these are their answers
pub record Made {S : Type 0} (step : S → List ℕ → Call → Answer → S → Type 0) (old : S) (lines : List (List ℕ)) : Type 0 where
  pub first : List (List ℕ)
  pub others : List (List ℕ)
  pub text : List ℕ
  pub last : S
  pub steps : ℕ
  pub split : lines ≡ first ++ others
  pub answers : AnswersLines step old first text last steps

-- a line makes no call: it has a fault, or memory ran out for it
abbrev pub MakesNone : List ℕ → Type 0
MakesNone line = ((fault : WireFault) × (line_says line ≡ Err fault)) ⊎ IsText line

-- the next calls that lines ask for are these; lines that make none are passed over
abbrev pub AsksOn : List (List ℕ) → List Message → Type 0
AsksOn lines [] = Unit {0}
AsksOn [] (m ∷ messages) = ⊥
AsksOn (line ∷ lines) (m ∷ messages) = ((line_says line ≡ Ok m) × AsksOn lines messages) ⊎ (MakesNone line × AsksOn lines (m ∷ messages))

-- the same, and the first line asks for the first of them
abbrev pub Asks : List (List ℕ) → List Message → Type 0
Asks lines [] = Unit {0}
Asks [] (m ∷ messages) = ⊥
Asks (line ∷ lines) (m ∷ messages) = (line_says line ≡ Ok m) × AsksOn lines messages

-- the next line's call has no answer; where calls are made together, it and those that were made with it have none
abbrev pub FailsNext : {S : Type 0} → Bool → (S → List Message → S → Type 0) → S → List (List ℕ) → S → Type 0
FailsNext true fails old lines new = (messages : List Message) × Asks lines messages × fails old messages new
FailsNext false fails old [] new = ⊥
FailsNext false fails old (line ∷ lines) new = (m : Message) × (line_says line ≡ Ok m) × one fails old m.by m.call new

-- calls that may have been made together: those of the first of the lines, and those of the next ones, which have no answers
abbrev pub MayMake : {S : Type 0} → (S → List ℕ → Call → Answer → S → Type 0) → (S → List Message → S → Type 0) → S → List (List ℕ) → S → Type 0
MayMake step fails old lines new = (made : Made step old lines) × ((new ≡ made.last) ⊎ FailsNext true fails made.last made.others new)

-- the next line's call is made, and its answer is lost, since memory ran out for it; where calls are made together, so is the text
-- of a fault, and further calls may have been made
abbrev pub LosesNext : {S : Type 0} → (S → List ℕ → Call → Answer → S → Type 0) → Bool → (S → List Message → S → Type 0) → S → List (List ℕ) → S → Type 0
LosesNext step together fails old [] new = ⊥
LosesNext {S = S} step true fails old (line ∷ lines) new = (mid : S) × (text : List ℕ) × (steps : ℕ) × AnswersLine step old line text mid steps × MayMake step fails mid lines new
LosesNext step false fails old (line ∷ lines) new = (m : Message) × (answer : Answer) × (line_says line ≡ Ok m) × step old m.by m.call answer new

-- no further call is made, or the next line's, and it has no answer that could be written; where calls are made together, those of
-- further lines may have been made too
abbrev pub MayCallNext : {S : Type 0} → (S → List ℕ → Call → Answer → S → Type 0) → Bool → (S → List Message → S → Type 0) → S → List (List ℕ) → S → Type 0
MayCallNext step true fails old lines new = MayMake step fails old lines new
MayCallNext step false fails old lines new = (new ≡ old) ⊎ (LosesNext step false fails old lines new ⊎ FailsNext false fails old lines new)

-- Where serving breaks off among lines, the calls of the first of them are made. A write failed: a prefix of their answers is
-- written, and what comes next may have been called. Memory ran out for the next answer, or the next call has none: all of
-- theirs are written.
abbrev pub BreaksIn : {S : Type 0} → (S → List ℕ → Call → Answer → S → Type 0) → Bool → (S → List Message → S → Type 0) → ServeFault → S → List (List ℕ) → List ℕ → S → Type 0
BreaksIn step together fails Read old lines output new = ⊥
BreaksIn step together fails Write old lines output new = (made : Made step old lines) × MayCallNext step together fails made.last made.others new × IsPrefix output made.text
BreaksIn step together fails OutOfMemory old lines output new = (made : Made step old lines) × LosesNext step together fails made.last made.others new × (output ≡ made.text)
BreaksIn step together fails NoAnswer old lines output new = (made : Made step old lines) × FailsNext together fails made.last made.others new × (output ≡ made.text)
BreaksIn step together fails Turns old lines output new = ⊥

-- the lines that have come: those that have ended, and once the end of the input was met, also the last one
abbrev pub lines_come : Bool → List ℕ → List (List ℕ)
lines_come true input = lines_of input
lines_come false input = ended [] input

-- what is written where serving stops, by whether the end of the input was met. No more could be read: the answers to
-- all lines that have ended. Else serving breaks off among the lines that have come.
abbrev pub EndsBy : {S : Type 0} → (S → List ℕ → Call → Answer → S → Type 0) → Bool → (S → List Message → S → Type 0) → ServeFault → Bool → S → List ℕ → List ℕ → S → Type 0
EndsBy step together fails Read met old input output new = (steps : ℕ) × AnswersLines step old (ended [] input) output new steps
EndsBy step together fails Write met old input output new = BreaksIn step together fails Write old (lines_come met input) output new
EndsBy step together fails OutOfMemory met old input output new = BreaksIn step together fails OutOfMemory old (lines_come met input) output new
EndsBy step together fails NoAnswer met old input output new = BreaksIn step together fails NoAnswer old (lines_come met input) output new
EndsBy step together fails Turns met old input output new = (steps : ℕ) × AnswersLines step old (ended [] input) output new steps

-- why serving stops: a read or a write failed, as the fault says, or neither did; and where more was to be read, no
-- read met the end
abbrev pub HasCause : {R : Type 0} → ServeFault → ℕ → Tap R → Tap R → Bool → Type 0
HasCause Read most old new write_failed = (has_failed new ≡ true) × (write_failed ≡ false) × (has_ended new ≡ has_ended old)
HasCause Write most old new write_failed = (has_failed new ≡ false) × (write_failed ≡ true)
HasCause OutOfMemory most old new write_failed = (has_failed new ≡ false) × (write_failed ≡ false)
HasCause NoAnswer most old new write_failed = (has_failed new ≡ false) × (write_failed ≡ false)
HasCause Turns most old new write_failed = (has_failed new ≡ false) × (write_failed ≡ false) × (has_ended new ≡ has_ended old) × MadeReads most old new

-- the reader is read to its end, and the session's text is written, and nothing else
pub record Serves {R W S : Type 0} (remaining : R → Option (List ℕ)) (contents : W → Option (List ℕ)) (step : S → List ℕ → Call → Answer → S → Type 0)
    (reader_old reader_new : Tap R) (writer_old writer_new : Tap W) (old new : S) (served : Served) : Type 0 where
  pub input : List ℕ
  pub output : List ℕ
  pub reads : Consumes (remaining (inside reader_old)) (remaining (inside reader_new)) input
  pub at_end : IsAtEnd (remaining (inside reader_new))
  pub ended : has_ended reader_new ≡ true
  pub writes : Appends (contents (inside writer_old)) (contents (inside writer_new)) output
  pub text : SessionText step old input output new served.calls
  pub lines : served.lines ≡ length (lines_of input)
  pub reader_works : has_failed reader_new ≡ false
  pub writer_works : has_failed writer_new ≡ false

-- serving stops with the fault, where it may make so many reads
pub record Stops {R W S : Type 0} (remaining : R → Option (List ℕ)) (contents : W → Option (List ℕ)) (step : S → List ℕ → Call → Answer → S → Type 0) (together : Bool) (fails : S → List Message → S → Type 0)
    (most : ℕ) (reader_old reader_new : Tap R) (writer_old writer_new : Tap W) (old new : S) (fault : ServeFault) : Type 0 where
  pub input : List ℕ
  pub output : List ℕ
  pub reads : Consumes (remaining (inside reader_old)) (remaining (inside reader_new)) input
  pub writes : Appends (contents (inside writer_old)) (contents (inside writer_new)) output
  pub ends : EndsBy step together fails fault (has_ended reader_new) old input output new
  pub cause : HasCause fault most reader_old reader_new (has_failed writer_new)

-- an allocation for serving itself failed, before the first read, and nothing has happened
pub record NeverBegins {R W S : Type 0} (reader_old reader_new : Tap R) (writer_old writer_new : Tap W) (old new : S) (fault : ServeFault) : Type 0 where
  pub memory : fault ≡ OutOfMemory
  pub reader : reader_new ≡ reader_old
  pub writer : writer_new ≡ writer_old
  pub session : new ≡ old
