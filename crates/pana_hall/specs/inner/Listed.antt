-- A family as the list of them keeps it.
use Rattle.std.specs.Prelude.{ℕ, List, map}
use Rattle.pana_family.specs.declared.report.FamilyReport.{FamilyReport}
use Rattle.pana_family.specs.declared.change.Change.{Change}
use Rattle.pana_family.specs.After.{reported_rows}
use Rattle.pana_family.specs.View.{IsPreparedBehind}
use Rattle.pana_hall.specs.inner.Undo.{KeptRows, IsPreparedIn, new_kept}
use Rattle.pana_hall.specs.declared.listed_family.ListedFamily.{ListedFamily}
use Rattle.pana_hall.specs.declared.listed_family.ListedFamily.TheVariants.{New, Changed}

-- the family that is kept so
abbrev pub listed : ListedFamily → KeptRows
listed (New n) = new_kept n
listed (Changed it) = it.value.kept

-- the families of a list
abbrev pub all_listed : List ListedFamily → List KeptRows
all_listed list = map listed list

-- more may be reported of the family than its Register
abbrev pub IsGrown : ListedFamily → Type 0
IsGrown (New n) = ⊥
IsGrown (Changed it) = Unit {0}

-- the change is what report n makes of the family, and there is room for it
abbrev pub IsPreparedFor : ℕ → FamilyReport → Change → ListedFamily → Type 0
IsPreparedFor n report change (New entry) = ⊥
IsPreparedFor n report change (Changed it) = IsPreparedIn n report change it.value

-- the change is what report m makes of the family once report n is made, and there is room for it then
abbrev pub IsPreparedAfter : ℕ → FamilyReport → ℕ → FamilyReport → Change → ListedFamily → Type 0
IsPreparedAfter n report m second change (New entry) = ⊥
IsPreparedAfter n report m second change (Changed it) = IsPreparedBehind m second change (reported_rows n report it.value.kept.rows) it.value.room
