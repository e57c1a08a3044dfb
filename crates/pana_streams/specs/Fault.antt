-- What the program's faults are printed as.
use Rattle.std.specs.Prelude.{ℕ, List, codes}
use Rattle.pana_streams.specs.declared.fault.ProgramFault.{ProgramFault}
use Rattle.pana_streams.specs.declared.fault.ProgramFault.TheVariants.{Read, Write, OutOfMemory, TooManyReads}

-- why the program ends
abbrev pub shown : ProgramFault → List ℕ
shown Read = codes "read failed"
shown Write = codes "write failed"
shown OutOfMemory = codes "out of memory"
shown TooManyReads = codes "too many reads"
