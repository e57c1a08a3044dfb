-- What follows of every session's text.
use Rattle.std.specs.Prelude.{◌≡◌, ℕ, List, [], ◌∷◌, ◌++◌, length, Ok, Err, ◌⊎◌}
use Rattle.pana_journal.specs.declared.entry.Entry.{Entry}
use Rattle.pana_hall.specs.Run.{Exchange, IsRun, journal_from}
use Rattle.pana_wire.specs.declared.fault.WireFault.{WireFault}
use Rattle.pana_wire.specs.declared.fault.WireFault.TheVariants.{OutOfMemory}
use Rattle.pana_wire.specs.Fault.{fault_text}
use Rattle.pana_wire.specs.Line.{line_says, IsText}
use Rattle.pana_wire.specs.Lines.{lines_of}
use Rattle.pana_wire.specs.Reply.{reply_text}

-- the line says just the exchange's device and call, and is answered with the text of its reply
pub record IsExchangeOf (line text : List ℕ) (x : Exchange) : Type 0 where
  pub said : line_says line ≡ Ok (record { by = x.by; call = x.call })
  pub answered : text ≡ reply_text x.reply

-- the line says the fault, or it is text and memory ran out
abbrev pub IsFaultOf : List ℕ → WireFault → Type 0
IsFaultOf line fault = (line_says line ≡ Err fault) ⊎ ((fault ≡ OutOfMemory) × IsText line)

-- the lines are answered in order, each with a newline: by the reply of the next exchange of the run, or by its fault;
-- and the run ends with them
abbrev pub IsRunOf : List (List ℕ) → List Exchange → List ℕ → Type 0
IsRunOf [] run output = (run ≡ []) × (output ≡ [])
IsRunOf (line ∷ lines) run output = (text : List ℕ) × (rest : List ℕ) × (output ≡ text ++ 10 ∷ rest)
    × (((x : Exchange) × (others : List Exchange) × (run ≡ x ∷ others) × IsExchangeOf line text x × IsRunOf lines others rest)
    ⊎ ((fault : WireFault) × IsFaultOf line fault × (text ≡ fault_text fault) × IsRunOf lines run rest))

-- a run that has this journal and so many exchanges, and answers the lines of the input
pub record IsServedByRun (input output : List ℕ) (journal : List Entry) (steps : ℕ) : Type 0 where
  pub run : List Exchange
  pub permitted : IsRun run
  pub left : journal_from [] run ≡ journal
  pub count : length run ≡ steps
  pub answers : IsRunOf (lines_of input) run output
