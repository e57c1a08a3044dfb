-- What a report asks of a family's rows, what stands in its way, and what preparing and making it promise.
use Rattle.std.specs.Prelude.{◌≡◌, ◌⊎◌, ◌==◌, ℕ, true, nat_le, Option, Some, None, IfSome, List, length, if◌then◌else◌}
use Rattle.pana_family.specs.declared.row.StampRow.{StampRow}
use Rattle.pana_family.specs.declared.report.FamilyReport.{FamilyReport}
use Rattle.pana_family.specs.declared.report.FamilyReport.TheVariants.{Duplicate, Edit, Reconcile, Merge, Remove, Touch}
use Rattle.pana_family.specs.declared.fault.FamilyFault.{FamilyFault}
use Rattle.pana_family.specs.declared.fault.FamilyFault.TheVariants.{SameCopy, FamilyFull, TooDeep, OutOfMemory}
use Rattle.pana_family.specs.declared.change.Change.{Change}
use Rattle.pana_family.specs.Change.{after, Fits, IsRoomier, Room, RowList}
use Rattle.pana_family.specs.Report.{IsMade}
use Rattle.pana_family.specs.Rows.{lives, copy_rows, divides}

-- the copies that a report names live
abbrev pub NamesLiving : FamilyReport → List StampRow → Type 0
NamesLiving (Duplicate source) rows = lives rows source ≡ true
NamesLiving (Edit copy) rows = lives rows copy ≡ true
NamesLiving (Reconcile a b) rows = (lives rows a ≡ true) × (lives rows b ≡ true)
NamesLiving (Merge a b) rows = (lives rows a ≡ true) × (lives rows b ≡ true)
NamesLiving (Remove copy heir) rows = (lives rows copy ≡ true) × IfSome heir (λ h. lives rows h ≡ true)
NamesLiving (Touch copy) rows = lives rows copy ≡ true

-- what stands in the way of a report, but for memory
abbrev pub fault_of : FamilyReport → List StampRow → Option FamilyFault
fault_of (Duplicate source) rows = if nat_le 256 (length (copy_rows rows)) then Some FamilyFull else (if divides rows source then None else Some TooDeep)
fault_of (Edit copy) rows = None
fault_of (Reconcile a b) rows = if a == b then Some SameCopy else None
fault_of (Merge a b) rows = if a == b then Some SameCopy else None
fault_of (Remove copy None) rows = None
fault_of (Remove copy (Some heir)) rows = if heir == copy then Some SameCopy else None
fault_of (Touch copy) rows = None

-- the change is what report n makes, and there is room for it
pub record Prepares (n : ℕ) (report : FamilyReport) (change : Change) (f : RowList) : Type 0 where
  pub made : IsMade n report f.rows (after change f.rows)
  pub fits : Fits change f.rows f.room

-- the same, as a word that no crate above looks into
unfoldable pub IsPrepared : ℕ → FamilyReport → Change → RowList → Type 0
IsPrepared n report change f = Prepares n report change f

-- so it is for each family with these rows, and no less room than this
abbrev pub IsPreparedBehind : ℕ → FamilyReport → Change → List StampRow → Room → Type 0
IsPreparedBehind n report change rows room = (f : RowList) → f.rows ≡ rows → IsRoomier room f.room → IsPrepared n report change f

-- why two reports, one behind the other, aren't prepared: memory ran out, or this stands in the way of the first, or of the second
abbrev pub IsFaultOfTwo : FamilyReport → List StampRow → FamilyReport → List StampRow → FamilyFault → Type 0
IsFaultOfTwo report rows second next fault = (fault ≡ OutOfMemory) ⊎ ((fault_of report rows ≡ Some fault) ⊎ (fault_of second next ≡ Some fault))

-- the change gives these rows back, and there is room for it
pub record TakesBack (back : Change) (f : RowList) (old : List StampRow) : Type 0 where
  pub rows : after back f.rows ≡ old
  pub fits : Fits back f.rows f.room
