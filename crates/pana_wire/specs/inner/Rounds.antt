-- Lines whose calls are made together: what was read of them, and the texts of their answers.
use Rattle.std.specs.Prelude.{◌≡◌, ℕ, true, List, [], ◌∷◌, ◌++◌, take, Option, Some, None, Result, Ok, Err}
use Rattle.pana_calls.specs.declared.call.Call.{Call}
use Rattle.pana_calls.specs.declared.answer.Answer.{Answer}
use Rattle.pana_calls.specs.declared.message.Message.{Message}
use Rattle.pana_wire.specs.declared.fault.WireFault.{WireFault}
use Rattle.pana_wire.specs.declared.fault.WireFault.TheVariants as faults
use Rattle.pana_wire.specs.declared.serving.ServeFault.{ServeFault}
use Rattle.pana_wire.specs.declared.serving.ServeFault.TheVariants.{OutOfMemory, NoAnswer}
use Rattle.pana_wire.specs.Answer.{answer_text}
use Rattle.pana_wire.specs.Fault.{fault_text}
use Rattle.pana_wire.specs.Line.{Fails, IsText, line_says}
use Rattle.pana_wire.specs.Lines.{ended, unended}
use Rattle.pana_wire.specs.Session.{Made, FailsNext, LosesNext}
use Rattle.pana_wire.specs.inner.Progress.{IsHeldOf}

-- lines that have ended in a piece, what has begun of the next, and what is left of the piece
pub record IsCut (begun piece : List ℕ) (lines : List (List ℕ)) (now rest : List ℕ) : Type 0 where
  pub ends : ended begun piece ≡ lines ++ ended now rest
  pub left : unended begun piece ≡ unended now rest

-- the messages of a round's lines, and for each line the fault that it has, if it has one; where it has none it has the next message
pub record RoundView : Type 0 where
  pub messages : List Message
  pub faults : List (Option WireFault)

-- no line yet
abbrev pub no_lines : RoundView
no_lines = record { messages = []; faults = [] }

-- one line more
abbrev pub heard : RoundView → Result Message WireFault → RoundView
heard round (Ok m) = record { messages = round.messages ++ m ∷ []; faults = round.faults ++ None ∷ [] }
heard round (Err fault) = record { messages = round.messages; faults = round.faults ++ Some fault ∷ [] }

-- what was read of a line
abbrev pub IsRead : List ℕ → Result Message WireFault → Type 0
IsRead line (Ok m) = line_says (take 65537 line) ≡ Ok m
IsRead line (Err fault) = Fails fault (line_says (take 65537 line)) × (fault ≡ faults.OutOfMemory → IsText (take 65537 line))

-- what was read of lines
abbrev pub AreRead : List (List ℕ) → List Message → List (Option WireFault) → Type 0
AreRead [] messages [] = messages ≡ []
AreRead [] messages (fault ∷ faults) = ⊥
AreRead (line ∷ lines) messages [] = ⊥
AreRead (line ∷ lines) messages (Some fault ∷ faults) = IsRead line (Err fault) × AreRead lines messages faults
AreRead (line ∷ lines) [] (None ∷ faults) = ⊥
AreRead (line ∷ lines) (m ∷ messages) (None ∷ faults) = IsRead line (Ok m) × AreRead lines messages faults

-- lines of a piece are read, and what comes behind them is left
pub record IsGathered (begun piece : List ℕ) (round : RoundView) (held rest : List ℕ) : Type 0 where
  pub lines : List (List ℕ)
  pub now : List ℕ
  pub cut : IsCut begun piece lines now rest
  pub holds : IsHeldOf held now
  pub read : AreRead lines round.messages round.faults

-- the texts of what answers lines: of the faults, and of the answers where there is none, each with a newline
abbrev pub Texts : List (Option WireFault) → List Answer → List ℕ → Type 0
Texts [] [] text = text ≡ []
Texts [] (answer ∷ answers) text = ⊥
Texts (Some fault ∷ faults) answers text = (rest : List ℕ) × Texts faults answers rest × (text ≡ fault_text fault ++ 10 ∷ rest)
Texts (None ∷ faults) [] text = ⊥
Texts (None ∷ faults) (answer ∷ answers) text = (rest : List ℕ) × Texts faults answers rest × (text ≡ answer_text answer ++ 10 ∷ rest)

-- the text of one line's answer is added, and these answers are left
abbrev pub AddsText : Option WireFault → List Answer → List Answer → List ℕ → List ℕ → Type 0
AddsText (Some fault) answers left old new = (left ≡ answers) × (new ≡ old ++ (fault_text fault ++ 10 ∷ []))
AddsText None answers left old new = (answer : Answer) × (answers ≡ answer ∷ left) × (new ≡ old ++ (answer_text answer ++ 10 ∷ []))

-- it isn't added: the line's call has no answer, or memory ran out
abbrev pub LacksText : Option WireFault → List Answer → ServeFault → Type 0
LacksText fault answers NoAnswer = (fault ≡ None) × (answers ≡ [])
LacksText (Some fault) answers OutOfMemory = Unit {0}
LacksText None answers OutOfMemory = (answer : Answer) × (left : List Answer) × (answers ≡ answer ∷ left)
LacksText fault answers other = ⊥

-- the texts so far, and what is left
pub record AreTold (faults : List (Option WireFault)) (answers : List Answer) (text : List ℕ) (rest : List (Option WireFault)) (left : List Answer) : Type 0 where
  pub done : List (Option WireFault)
  pub told : List Answer
  pub lines : faults ≡ done ++ rest
  pub answered : answers ≡ told ++ left
  pub texts : Texts done told text

-- up to a line whose text is lacking
pub record StopsAt (faults : List (Option WireFault)) (answers : List Answer) (text : List ℕ) (why : ServeFault) : Type 0 where
  pub fault : Option WireFault
  pub rest : List (Option WireFault)
  pub left : List Answer
  pub told : AreTold faults answers text (fault ∷ rest) left
  pub lacks : LacksText fault left why

-- the answer to the next line is lacking, and further calls may have been made
abbrev pub LacksNext : {S : Type 0} → (S → List ℕ → Call → Answer → S → Type 0) → (S → List Message → S → Type 0) → S → List (List ℕ) → S → ServeFault → Type 0
LacksNext step fails old lines new OutOfMemory = LosesNext step true fails old lines new
LacksNext step fails old lines new NoAnswer = FailsNext true fails old lines new
LacksNext step fails old lines new fault = ⊥

-- the first of the lines are answered by this text, and the next answer is lacking
abbrev pub AnswersSome : {S : Type 0} → (S → List ℕ → Call → Answer → S → Type 0) → (S → List Message → S → Type 0) → S → List (List ℕ) → List ℕ → S → ServeFault → Type 0
AnswersSome step fails old lines text new fault = (made : Made step old lines) × (made.text ≡ text) × LacksNext step fails made.last made.others new fault
