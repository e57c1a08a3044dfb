-- How faults are printed.
use Rattle.std.specs.Prelude.{ℕ, List, ◌++◌, codes, decimal}
use Rattle.pana_wire.specs.declared.fault.WireFault.{WireFault}
use Rattle.pana_wire.specs.declared.fault.WireFault.TheVariants.{TooLong, NotUtf8, NotJson, NotObject, BadField, OutOfMemory}
use Rattle.pana_wire.specs.declared.line_fault.LineFault.{LineFault}
use Rattle.pana_wire.specs.declared.serving.ServeFault.{ServeFault}
use Rattle.pana_wire.specs.declared.serving.ServeFault.TheVariants as serving
use Rattle.pana_wire.specs.Field.{field_name}

-- the name of a line's fault
abbrev pub fault_name : WireFault → List ℕ
fault_name TooLong = codes "TooLong"
fault_name NotUtf8 = codes "NotUtf8"
fault_name NotJson = codes "NotJson"
fault_name NotObject = codes "NotObject"
fault_name (BadField field) = codes "BadField"
fault_name OutOfMemory = codes "OutOfMemory"

-- the name, and behind BadField the field's
abbrev pub shown_fault : WireFault → List ℕ
shown_fault TooLong = fault_name TooLong
shown_fault NotUtf8 = fault_name NotUtf8
shown_fault NotJson = fault_name NotJson
shown_fault NotObject = fault_name NotObject
shown_fault (BadField field) = fault_name (BadField field) ++ codes " " ++ field_name field
shown_fault OutOfMemory = fault_name OutOfMemory

-- the line's number, and its fault
abbrev pub shown_line_fault : LineFault → List ℕ
shown_line_fault fault = codes "line " ++ decimal fault.line ++ codes ": " ++ shown_fault fault.fault

-- why serving stopped
abbrev pub shown_stop : ServeFault → List ℕ
shown_stop serving.Read = codes "read failed"
shown_stop serving.Write = codes "write failed"
shown_stop serving.OutOfMemory = codes "out of memory"
shown_stop serving.NoAnswer = codes "no answer"
shown_stop serving.Turns = codes "too many reads"
