-- The table of relations that stands beside rows.
use Rattle.std.specs.Prelude.{◌≡◌, ◌≢◌, ◌↔◌, ℕ, true, List, None, Contains}
use Rattle.pana_event.specs.Relation.{IsRelation}
use Rattle.pana_rel.specs.Pairs.{Table, rel_of}
use Rattle.pana_family.specs.declared.row.StampRow.{StampRow}
use Rattle.pana_family.specs.Table.{In}
use Rattle.pana_family.specs.Rows.{lives}

-- the table has the living copies, and of each two of them, both ways round, the relation that comparing their stamps gives
pub record ArePaired (rows : List StampRow) (pairs : Table) : Type 0 where
  pub copies : (copy : ℕ) → Contains pairs.copies copy ↔ (lives rows copy ≡ true)
  pub rels : (r q : StampRow) → In r rows → In q rows → r.holder ≡ None → q.holder ≡ None → r.copy ≢ q.copy
      → IsRelation r.stamp.event q.stamp.event (rel_of pairs r.copy q.copy)
