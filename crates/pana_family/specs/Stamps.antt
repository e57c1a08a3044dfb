-- The stamps of a family's copies, as texts.
use Rattle.std.specs.Prelude.{◌≡◌, ◌≢◌, ℕ, false, List, map, string_bytes}
use Rattle.pana_id.specs.Id.{Id, is_zero, IsValid, SharesNoPoint}
use Rattle.pana_event.specs.Event.{Event, IsSound}
use Rattle.pana_event.specs.Relation.{IsRelation}
use Rattle.pana_text.specs.Text.{stamp_text}
use Rattle.pana_calls.specs.declared.copy_stamp.CopyStamp.{CopyStamp}
use Rattle.pana_family.specs.Relation.{relation}
use Rattle.pana_family.specs.declared.row.StampRow.{StampRow}
use Rattle.pana_family.specs.Rows.{copy_rows}
use Rattle.pana_family.specs.Table.{Known, In}

-- the number of a row and the text of its stamp
abbrev pub row_text : StampRow → ℕ × List ℕ
row_text r = (r.copy, stamp_text r.stamp.id r.stamp.event)

-- the texts of the copies' stamps among these rows, by rising number
abbrev pub stamps_in : List StampRow → List (ℕ × List ℕ)
stamps_in rows = map row_text (copy_rows rows)

-- the number of a copy and the text of its stamp
abbrev pub text_of : CopyStamp → ℕ × List ℕ
text_of stamp = (stamp.copy, string_bytes stamp.text)

-- texts of stamps for these copies, in their order: each owns a point, no point has two owners, and comparing two of the
-- stamps gives the relation of the copies' sets
pub record AreStamps (stamps : List (ℕ × List ℕ)) (copies : List Known) : Type 0 where
  pub id_of : ℕ → Id
  pub event_of : ℕ → Event
  pub texts : stamps ≡ map (λ t. (t.copy, stamp_text (id_of t.copy) (event_of t.copy))) copies
  pub valid : (t : Known) → In t copies → IsValid (id_of t.copy) × IsSound (event_of t.copy)
  pub owning : (t : Known) → In t copies → is_zero (id_of t.copy) ≡ false
  pub apart : (t s : Known) → In t copies → In s copies → t.copy ≢ s.copy → SharesNoPoint (id_of t.copy) (id_of s.copy)
  pub compared : (t s : Known) → In t copies → In s copies → IsRelation (event_of t.copy) (event_of s.copy) (relation t.set s.set)
