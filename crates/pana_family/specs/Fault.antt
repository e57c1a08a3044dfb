-- The texts of faults.
use Rattle.std.specs.Prelude.{ℕ, List, codes}
use Rattle.pana_family.specs.declared.fault.FamilyFault.{FamilyFault}
use Rattle.pana_family.specs.declared.fault.FamilyFault.TheVariants.{SameCopy, FamilyFull, TooDeep, OutOfMemory}

-- what a fault says
abbrev pub fault_text : FamilyFault → List ℕ
fault_text SameCopy = codes "the two copies are one"
fault_text FamilyFull = codes "the family has 256 copies"
fault_text TooDeep = codes "the source's id is too deep to be divided"
fault_text OutOfMemory = codes "out of memory"
