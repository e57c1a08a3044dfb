-- What a report asks of the rows, and what it leaves.
use Rattle.std.specs.Prelude.{◌≡◌, ◌≢◌, ◌<◌, ◌≤◌, ◌+◌, ◌^◌, ℕ, Bool, true, false, Some, None, List, length, IfSome}
use Rattle.pana_id.specs.Id.{is_single}
use Rattle.pana_family.specs.declared.row.StampRow.{StampRow}
use Rattle.pana_family.specs.declared.report.FamilyReport.{FamilyReport}
use Rattle.pana_family.specs.declared.report.FamilyReport.TheVariants.{Duplicate, Edit, Reconcile, Merge, Remove, Touch}
use Rattle.pana_family.specs.Table.{Known, duplicated, edited, reconciled, merged, removed, touched, AreBelow}
use Rattle.pana_family.specs.Rows.{AreBefore, AreSound, lives, copy_rows, row_in, OwnSame, deepest}
use Rattle.pana_family.specs.Stands.{StandsFor}
use Rattle.pana_family.specs.Kept.{IsKept}
use Rattle.pana_family.specs.After.{reported_rows}

-- the copies that the report names live, and nothing but memory can stand in its way
abbrev pub CanReport : FamilyReport → List StampRow → Type 0
CanReport (Duplicate source) rows = (lives rows source ≡ true) × (length (copy_rows rows) < 256) × (is_single (row_in rows source).stamp.id 256 ≡ false)
CanReport (Edit copy) rows = lives rows copy ≡ true
CanReport (Reconcile a b) rows = (lives rows a ≡ true) × (lives rows b ≡ true) × (a ≢ b)
CanReport (Merge a b) rows = (lives rows a ≡ true) × (lives rows b ≡ true) × (a ≢ b)
CanReport (Remove copy heir) rows = (lives rows copy ≡ true) × IfSome heir (λ h. lives rows h ≡ true) × (heir ≢ Some copy)
CanReport (Touch copy) rows = lives rows copy ≡ true

-- a table of sets after report n
abbrev pub reported : ℕ → FamilyReport → List Known → List Known
reported n (Duplicate source) table = duplicated n source table
reported n (Edit copy) table = edited n copy table
reported n (Reconcile a b) table = reconciled n a b table
reported n (Merge a b) table = merged n a b table
reported n (Remove copy heir) table = removed n copy heir table
reported n (Touch copy) table = touched n copy table

-- what it asks of the table: an update is new to all
abbrev pub Asks : ℕ → FamilyReport → List Known → Type 0
Asks n (Duplicate source) table = Unit {0}
Asks n (Edit copy) table = AreBelow n table
Asks n (Reconcile a b) table = Unit {0}
Asks n (Merge a b) table = AreBelow n table
Asks n (Remove copy heir) table = Unit {0}
Asks n (Touch copy) table = Unit {0}

-- how much deeper ids may get
abbrev pub deeper : FamilyReport → ℕ
deeper (Duplicate source) = 1
deeper (Edit copy) = 0
deeper (Reconcile a b) = 0
deeper (Merge a b) = 0
deeper (Remove copy heir) = 0
deeper (Touch copy) = 0

-- whether points lose their owner
abbrev pub loses : FamilyReport → Bool
loses (Duplicate source) = false
loses (Edit copy) = false
loses (Reconcile a b) = false
loses (Merge a b) = false
loses (Remove copy None) = true
loses (Remove copy (Some heir)) = false
loses (Touch copy) = false

-- what report n leaves of the rows
pub record IsReported (n : ℕ) (report : FamilyReport) (rows new : List StampRow) : Type 0 where
  pub exact : new ≡ reported_rows n report rows
  pub kept : IsKept new
  pub deep : deepest new ≤ deepest rows + deeper report
  pub owned : loses report ≡ false → OwnSame rows new
  pub stands : (table : List Known) → StandsFor rows table → Asks n report table → StandsFor new (reported n report table)

-- rows of which report n can be made
pub record IsReady (n : ℕ) (report : FamilyReport) (rows : List StampRow) : Type 0 where
  pub fits : n < 2 ^ 64
  pub kept : IsKept rows
  pub sound : AreSound rows
  pub able : CanReport report rows
  pub before : AreBefore n rows

-- what report n makes of such rows
pub record IsMade (n : ℕ) (report : FamilyReport) (rows new : List StampRow) : Type 0 where
  pub ready : IsReady n report rows
  pub exact : new ≡ reported_rows n report rows
