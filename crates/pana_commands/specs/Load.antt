-- What `load` answers to the bytes of a dump.
use Rattle.std.specs.Prelude.{◌⊎◌, ℕ, List, Option}
use Rattle.pana_journal.specs.declared.entry.Entry.{Entry}
use Rattle.pana_hall.specs.Accepted.{IsAccepted}
use Rattle.pana_hall.specs.Load.{StopsAt, shown_load_fault}
use Rattle.pana_hall.specs.declared.load_fault.LoadFault.{LoadFault}
use Rattle.pana_wire.specs.declared.line_fault.LineFault.{LineFault}
use Rattle.pana_wire.specs.DumpLines.{Say, HasFault}
use Rattle.pana_wire.specs.Lines.{lines_of}
use Rattle.pana_wire.specs.Shown.{shown_line_fault}
use Rattle.pana_seal.specs.Seal.{IsIntact, IsDamagedAt}
use Rattle.pana_seal.specs.Shown.{shown_seal_fault}
use Rattle.pana_seal.specs.declared.seal_fault.SealFault.TheVariants.{Damaged}
use Rattle.pana_commands.specs.declared.printout.Printout.{Printout}
use Rattle.pana_commands.specs.Answered.{Prints, Reports}
use Rattle.pana_commands.specs.Tables.{tables_text}

-- the tables of the entries, where they are a journal; else the first that isn't the next of one is reported
abbrev pub AnswersEntries : Option ℕ → List Entry → Printout → Type 0
AnswersEntries terminal entries answer = (IsAccepted 8 entries × Prints (tables_text terminal entries) answer)
    ⊎ ((fault : LoadFault) × StopsAt entries fault × Reports (shown_load_fault fault) answer)

-- what is answered to lines: of their entries, or the first one with a fault
abbrev pub AnswersLines : Option ℕ → List (List ℕ) → Printout → Type 0
AnswersLines terminal lines answer = ((entries : List Entry) × Say lines entries × AnswersEntries terminal entries answer)
    ⊎ ((fault : LineFault) × HasFault lines fault × Reports (shown_line_fault fault) answer)

-- what is answered to a dump: of its lines, which are as they were sealed, or the first damaged one
abbrev pub AnswersDump : Option ℕ → List ℕ → Printout → Type 0
AnswersDump terminal bytes answer = (IsIntact (lines_of bytes) × AnswersLines terminal (lines_of bytes) answer)
    ⊎ ((number : ℕ) × IsDamagedAt (lines_of bytes) number × Reports (shown_seal_fault (Damaged number)) answer)
