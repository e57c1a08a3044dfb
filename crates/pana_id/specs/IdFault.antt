use Rattle.std.specs.Prelude.{ℕ, List, codes}
use Rattle.pana_id.specs.declared.id_fault.IdFault.{IdFault}
use Rattle.pana_id.specs.declared.id_fault.IdFault.TheVariants.{TooDeep, OutOfMemory}

-- how a fault is printed
abbrev pub fault_text : IdFault → List ℕ
fault_text TooDeep = codes "the id is too deep to be divided"
fault_text OutOfMemory = codes "out of memory"
