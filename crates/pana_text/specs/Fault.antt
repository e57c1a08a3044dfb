-- How a fault is printed.
use Rattle.std.specs.Prelude.{ℕ, List, ◌++◌, codes, decimal}
use Rattle.pana_text.specs.declared.fault.TextFault.{TextFault}
use Rattle.pana_text.specs.declared.fault.TextFault.TheVariants.{Syntax, TooDeep, NotNormal, TooLarge, OutOfMemory}

-- the name of the fault, and after Syntax its position
abbrev pub fault_text : TextFault → List ℕ
fault_text (Syntax position) = codes "Syntax at " ++ decimal position
fault_text TooDeep = codes "TooDeep"
fault_text NotNormal = codes "NotNormal"
fault_text TooLarge = codes "TooLarge"
fault_text OutOfMemory = codes "OutOfMemory"
