-- What `show` answers to lines.
use Rattle.std.specs.Prelude.{◌≡◌, ◌⊎◌, ℕ, ◌+◌, List, [], ◌∷◌, ◌++◌, codes, decimal, Option, Some, None, Ok, string_bytes}
use Rattle.pana_journal.specs.declared.entry.Entry.{Entry}
use Rattle.pana_calls.specs.Cause.{shown_cause}
use Rattle.pana_hall.specs.Step.{Steps}
use Rattle.pana_calls.specs.declared.reply.Reply.{Reply}
use Rattle.pana_calls.specs.declared.reply.Reply.TheVariants.{Refused}
use Rattle.pana_wire.specs.Line.{Fails, IsText, line_says}
use Rattle.pana_wire.specs.Lines.{lines_of}
use Rattle.pana_wire.specs.Shown.{shown_fault}
use Rattle.pana_wire.specs.declared.fault.WireFault.{WireFault}
use Rattle.pana_wire.specs.declared.fault.WireFault.TheVariants.{OutOfMemory}
use Rattle.pana_calls.specs.declared.message.Message.{Message}
use Rattle.pana_commands.specs.declared.printout.Printout.{Printout}
use Rattle.pana_commands.specs.declared.showing.Reason.{Reason}
use Rattle.pana_commands.specs.declared.showing.Reason.TheVariants as reasons
use Rattle.pana_commands.specs.Answered.{report_line}
use Rattle.pana_commands.specs.Tables.{tables_text}

-- how it is printed why a line wasn't done
abbrev pub shown_reason : Reason → List ℕ
shown_reason (reasons.Fault fault) = shown_fault fault
shown_reason (reasons.Refused cause) = shown_cause cause

-- why a call wasn't done, where it was refused
abbrev pub why_not : Reply → Option (List ℕ)
why_not (Refused cause) = Some (shown_cause cause)
why_not _ = None

-- the line has a fault, and makes no call
abbrev pub IsFaulty : List Entry → List ℕ → Option (List ℕ) → List Entry → Type 0
IsFaulty old line why new = (fault : WireFault) × Fails fault (line_says line) × (fault ≡ OutOfMemory → IsText line) × (why ≡ Some (shown_fault fault)) × (new ≡ old)

-- the line makes a call, which is done or refused
abbrev pub MakesCall : List Entry → List ℕ → Option (List ℕ) → List Entry → Type 0
MakesCall old line why new = (message : Message) × (reply : Reply) × (line_says line ≡ Ok message) × Steps old message.by message.call reply new × (why ≡ why_not reply)

-- what the line does to the journal, and why it wasn't done, if it wasn't
abbrev pub TakesLine : List Entry → List ℕ → Option (List ℕ) → List Entry → Type 0
TakesLine old line why new = IsFaulty old line why new ⊎ MakesCall old line why new

-- the report about a line that wasn't done, with its number
abbrev pub report_of : ℕ → Option (List ℕ) → List ℕ
report_of number None = []
report_of number (Some why) = report_line (codes "line " ++ decimal number ++ codes ": " ++ why)

-- what lines do, the first of which has this number: the reports about those that weren't done, in order
abbrev pub TakesLines : ℕ → List Entry → List (List ℕ) → List ℕ → List Entry → Type 0
TakesLines number old [] reports new = (reports ≡ []) × (new ≡ old)
TakesLines number old (line ∷ lines) reports new = (mid : List Entry) × (why : Option (List ℕ)) × (rest : List ℕ)
    × TakesLine old line why mid × TakesLines (number + 1) mid lines rest new × (reports ≡ report_of number why ++ rest)

-- the status, by what is reported
abbrev pub status_of : List ℕ → ℕ
status_of [] = 0
status_of reports = 1

-- what is answered to lines: the tables of the journal that they leave, and a report about each that wasn't done
abbrev pub AnswersLines : Option ℕ → List ℕ → Printout → Type 0
AnswersLines terminal bytes answer = (journal : List Entry) × TakesLines 1 [] (lines_of bytes) (string_bytes answer.err) journal
    × (string_bytes answer.out ≡ tables_text terminal journal) × (answer.status ≡ status_of (string_bytes answer.err))
