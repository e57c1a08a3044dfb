-- The names of the fields of a line.
use Rattle.std.specs.Prelude.{ℕ, List, codes}
use Rattle.pana_wire.specs.declared.field.Field.{Field}
use Rattle.pana_wire.specs.declared.field.Field.TheVariants.{By, Do, Device, Path, Copy, Family, A, B, Heir, Sum, Entry, From, Number, Entries, Wait}

-- the name of a field
abbrev pub field_name : Field → List ℕ
field_name By = codes "by"
field_name Do = codes "do"
field_name Device = codes "device"
field_name Path = codes "path"
field_name Copy = codes "copy"
field_name Family = codes "family"
field_name A = codes "a"
field_name B = codes "b"
field_name Heir = codes "heir"
field_name Sum = codes "sum"
field_name Entry = codes "entry"
field_name From = codes "from"
field_name Number = codes "number"
field_name Entries = codes "entries"
field_name Wait = codes "wait"
