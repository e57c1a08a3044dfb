-- The exchanges that leave of each row what becomes of it.
use Rattle.std.specs.Prelude.{◌≡◌, ℕ, Option, Some, None, List}
use Rattle.pana_family.specs.Change.{exchanged_all}
use Rattle.pana_family.specs.Rows.{dropped, put_back}
use Rattle.pana_family.specs.declared.change.Exchange.{Exchange}
use Rattle.pana_family.specs.declared.row.StampRow.{StampRow}
use Rattle.pana_family.specs.declared.settling.Fate.{Fate}
use Rattle.pana_family.specs.declared.settling.Fate.TheVariants.{Stays, Goes, Becomes}
use Rattle.pana_family.specs.inner.Making.{left_of}

-- the rows after what becomes of the row with this number
abbrev pub fated : ℕ → Fate → List StampRow → List StampRow
fated n Stays rows = rows
fated n Goes rows = dropped n rows
fated n (Becomes x) rows = put_back x rows

-- the exchanges go on with one that leaves of the row what becomes of it, or with none
pub record AddsPlanned (r : StampRow) (left : Option StampRow) (old new : List Exchange) : Type 0 where
  pub fate : Fate
  pub is : left_of r fate ≡ left
  pub made : (rows : List StampRow) → exchanged_all new rows ≡ fated r.copy fate (exchanged_all old rows)

-- the rows with the one that comes, if one does
abbrev pub came_behind : Option StampRow → List StampRow → List StampRow
came_behind None rows = rows
came_behind (Some x) rows = put_back x rows
