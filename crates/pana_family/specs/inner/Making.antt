-- The rows that reports make.
use Rattle.std.specs.Prelude.{◌≡◌, ◌≢◌, Option, Some, None, ℕ, false, true, List}
use Rattle.pana_id.specs.Id.{Id, SharesNoPoint, is_zero, IsValid}
use Rattle.pana_event.specs.Event.{Event}
use Rattle.pana_stamp.specs.Fill.{fill}
use Rattle.pana_stamp.specs.Grow.{grow}
use Rattle.pana_stamp.specs.declared.stamp.Stamp.{Stamp}
use Rattle.pana_family.specs.declared.row.StampRow.{StampRow}
use Rattle.pana_family.specs.declared.settling.Fate.{Fate}
use Rattle.pana_family.specs.declared.settling.Fate.TheVariants.{Stays, Goes, Becomes}
use Rattle.pana_family.specs.declared.settling.Plan.{Plan}
use Rattle.pana_family.specs.declared.settling.Plan.TheVariants.{Share, Lose, Bequeath}
use Rattle.pana_family.specs.Holders.{passed}
use Rattle.pana_family.specs.Table.{In}
use Rattle.pana_family.specs.Rows.{row_in}
use Rattle.pana_family.specs.After.{bequeathed, ends, lost, shared}

-- the event after an update: what filling gives where that changes it, and else the event grown
pub record IsUpdate (i : Id) (e new : Event) : Type 0 where
  pub grown : fill i e ≡ e → new ≡ grow i e
  pub filled : ¬ (fill i e ≡ e) → new ≡ fill i e

-- no point has two owners
abbrev pub AreApart : List StampRow → Type 0
AreApart rows = (r q : StampRow) → In r rows → In q rows → r.copy ≢ q.copy → SharesNoPoint r.stamp.id q.stamp.id

-- the row of a living copy
pub record IsRowOf (rows : List StampRow) (copy : ℕ) (row : StampRow) : Type 0 where
  pub is : row ≡ row_in rows copy
  pub there : In row rows
  pub named : row.copy ≡ copy
  pub free : row.holder ≡ None

-- two stamps own points, and none together
pub record CanJoin (s t : Stamp) : Type 0 where
  pub apart : SharesNoPoint s.id t.id
  pub first : is_zero s.id ≡ false
  pub second : is_zero t.id ≡ false

-- a stamp for a copy: it shares no point with the rows that end when the copy has it and is settled
pub record CanGather (from : Option ℕ) (rows : List StampRow) (copy : ℕ) (s : Stamp) : Type 0 where
  pub valid : IsValid s.id
  pub apart : (r : StampRow) → In r rows → ends from copy s.event r ≡ true → SharesNoPoint s.id r.stamp.id

-- the row, which the heir holds where the copy did
abbrev pub passed_row : ℕ → ℕ → StampRow → StampRow
passed_row copy heir r = record { copy = r.copy; holder = passed copy heir r.holder; stamp = r.stamp; touch = r.touch }

-- what is left of a row
abbrev pub left_of : StampRow → Fate → Option StampRow
left_of r Stays = Some r
left_of r Goes = None
left_of r (Becomes x) = Some x

-- what becomes of a row by a plan
abbrev pub planned : ℕ → Plan → List StampRow → StampRow → Option StampRow
planned n (Share a b first second) rows r = shared n a b first second rows r
planned n (Lose copy) rows r = lost copy r
planned n (Bequeath copy heir event) rows r = bequeathed copy heir event rows r

-- the ids that a plan adds share no point
abbrev pub CanPlan : Plan → List StampRow → Type 0
CanPlan (Share a b first second) rows = CanGather None rows a first × CanGather None rows b second
CanPlan (Lose copy) rows = Unit {0}
CanPlan (Bequeath copy heir event) rows = (r : StampRow) → In r rows → r.copy ≡ heir → CanGather (Some copy) rows heir r.stamp
