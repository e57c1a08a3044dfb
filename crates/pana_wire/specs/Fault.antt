-- The lines that answer a line with a fault.
use Rattle.std.specs.Prelude.{ℕ, List, ◌++◌, codes}
use Rattle.pana_wire.specs.declared.fault.WireFault.{WireFault}
use Rattle.pana_wire.specs.declared.fault.WireFault.TheVariants.{TooLong, NotUtf8, NotJson, NotObject, BadField, OutOfMemory}
use Rattle.pana_wire.specs.Field.{field_name}

-- an object with the fault's name, and for a bad field with the field's
abbrev pub fault_text : WireFault → List ℕ
fault_text TooLong = codes "{\"fault\":\"TooLong\"}"
fault_text NotUtf8 = codes "{\"fault\":\"NotUtf8\"}"
fault_text NotJson = codes "{\"fault\":\"NotJson\"}"
fault_text NotObject = codes "{\"fault\":\"NotObject\"}"
fault_text (BadField field) = codes "{\"fault\":\"BadField\",\"field\":\"" ++ field_name field ++ codes "\"}"
fault_text OutOfMemory = codes "{\"fault\":\"OutOfMemory\"}"
