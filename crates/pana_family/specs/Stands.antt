-- Rows that stand for a table of sets.
use Rattle.std.specs.Prelude.{◌≡◌, ◌≢◌, ◌↔◌, ℕ, ◌≤◌, max, Bool, true, false, List, [], ◌∷◌, length}
use Rattle.pana_id.specs.Id.{has as owns, is_zero, SharesNoPoint, AtPoints}
use Rattle.pana_event.specs.Event.{Event, level}
use Rattle.pana_family.specs.declared.row.StampRow.{StampRow}
use Rattle.pana_family.specs.Updates.{has}
use Rattle.pana_family.specs.Table.{In, Known}

-- the greatest level at a point that the events of some updates have, and 0 where there is none
abbrev pub top : (ℕ → Event) → List ℕ → List Bool → ℕ
top event_of [] point = 0
top event_of (u ∷ us) point = max (level (event_of u) point) (top event_of us point)

-- rows and table name the same copies and parcels in one order, their touches and their holders
abbrev pub AreSame : List StampRow → List Known → Type 0
AreSame [] [] = Unit {0}
AreSame [] (t ∷ table) = ⊥
AreSame (r ∷ rows) [] = ⊥
AreSame (r ∷ rows) (t ∷ table) = (r.copy ≡ t.copy) × (r.touch ≡ t.touch) × (r.holder ≡ t.holder) × AreSame rows table

-- a level at a point marks an update: exactly those reach it who know the update
pub record IsMarked (rows : List StampRow) (table : List Known) (u : ℕ) : Type 0 where
  pub point : List Bool
  pub long : length point ≡ 256
  pub from : ℕ
  pub marks : (r : StampRow) (t : Known) → In r rows → In t table → r.copy ≡ t.copy → (has t.set u ≡ true) ↔ (from ≤ level r.stamp.event point)

-- there is an event for each update, and the rows' events are made of those of their sets
pub record AreMade (rows : List StampRow) (table : List Known) : Type 0 where
  pub event_of : ℕ → Event
  pub levels : (r : StampRow) (t : Known) → In r rows → In t table → r.copy ≡ t.copy → AtPoints (λ point. level r.stamp.event point ≡ top event_of t.set point)

-- the rows stand for the table: they name the same copies and parcels; each owns a point, and no point has two owners; at a point
-- no row has a greater level than its owner; a level at a point marks each update; and the events are made of those of the updates
pub record StandsFor (rows : List StampRow) (table : List Known) : Type 0 where
  pub same : AreSame rows table
  pub owning : (r : StampRow) → In r rows → is_zero r.stamp.id ≡ false
  pub apart : (r q : StampRow) → In r rows → In q rows → r.copy ≢ q.copy → SharesNoPoint r.stamp.id q.stamp.id
  pub owner : (r q : StampRow) → In r rows → In q rows → AtPoints (λ point. owns r.stamp.id point ≡ true → level q.stamp.event point ≤ level r.stamp.event point)
  pub marked : (t : Known) (u : ℕ) → In t table → has t.set u ≡ true → IsMarked rows table u
  pub made : AreMade rows table
