-- What the lines of a dump say, one after another.
use Rattle.std.specs.Prelude.{◌≡◌, ℕ, ◌+◌, List, [], ◌∷◌, ◌++◌, length, Ok}
use Rattle.pana_journal.specs.declared.entry.Entry.{Entry}
use Rattle.pana_wire.specs.declared.fault.WireFault.{WireFault}
use Rattle.pana_wire.specs.declared.line_fault.LineFault.{LineFault}
use Rattle.pana_wire.specs.declared.fault.WireFault.TheVariants as faults
use Rattle.pana_wire.specs.Dump.{dump_says, IsDumpText}
use Rattle.pana_wire.specs.Line.{Fails}

-- the lines say these entries, one line after another
abbrev pub Say : List (List ℕ) → List Entry → Type 0
Say [] entries = entries ≡ []
Say (line ∷ lines) entries = (first : List Entry) × (rest : List Entry) × (dump_says line ≡ Ok first) × Say lines rest × (entries ≡ first ++ rest)

-- the first of the lines that has a fault is the one with this number, from 1: those before it say entries
pub record HasFaultAt (lines : List (List ℕ)) (number : ℕ) (fault : WireFault) : Type 0 where
  pub before : List (List ℕ)
  pub line : List ℕ
  pub rest : List (List ℕ)
  pub entries : List Entry
  pub whole : lines ≡ before ++ line ∷ rest
  pub read : Say before entries
  pub at : number ≡ length before + 1
  pub says : Fails fault (dump_says line)
  pub memory : fault ≡ faults.OutOfMemory → IsDumpText line

-- the first of the lines that has a fault, with its number
abbrev pub HasFault : List (List ℕ) → LineFault → Type 0
HasFault lines fault = HasFaultAt lines fault.line fault.fault
