-- How faults are printed.
use Rattle.std.specs.Prelude.{ℕ, List, ◌++◌, codes, decimal}
use Rattle.pana_seal.specs.declared.seal_fault.SealFault.{SealFault}
use Rattle.pana_seal.specs.declared.seal_fault.SealFault.TheVariants.{Damaged, OutOfMemory}

-- which line is damaged
abbrev pub shown_seal_fault : SealFault → List ℕ
shown_seal_fault (Damaged line) = codes "line " ++ decimal line ++ codes ": Damaged"
shown_seal_fault OutOfMemory = codes "out of memory"
