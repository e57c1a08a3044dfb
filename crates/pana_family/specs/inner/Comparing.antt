-- A table of relations while it follows the rows that it stands beside.
use Rattle.std.specs.Prelude.{◌≡◌, ◌≢◌, ◌↔◌, ◌+◌, ◌==◌, ◌&&◌, not, ℕ, Bool, true, false, List, None, Contains, filter, length, map}
use Rattle.pana_event.specs.Relation.{IsRelation, tested_relation}
use Rattle.pana_event.specs.declared.rel.Rel.{Rel}
use Rattle.pana_rel.specs.Pairs.{Table, rel_of}
use Rattle.pana_family.specs.declared.row.StampRow.{StampRow}
use Rattle.pana_family.specs.Updates.{has}
use Rattle.pana_family.specs.Holders.{is_copy}
use Rattle.pana_family.specs.Table.{In}
use Rattle.pana_family.specs.Rows.{lives}

-- the table has the living copies
abbrev pub HasCopies : List StampRow → Table → Type 0
HasCopies rows pairs = (copy : ℕ) → Contains pairs.copies copy ↔ (lives rows copy ≡ true)

-- of each two copies but these the table holds the relation that comparing their stamps gives
abbrev pub AreCompared : List ℕ → List StampRow → Table → Type 0
AreCompared but rows pairs =
    (r q : StampRow) → In r rows → In q rows → r.holder ≡ None → q.holder ≡ None → r.copy ≢ q.copy → has but r.copy ≡ false → has but q.copy ≡ false
    → IsRelation r.stamp.event q.stamp.event (rel_of pairs r.copy q.copy)

-- how two rows' copies relate, by their events
abbrev pub row_relation : StampRow → StampRow → Rel
row_relation r q = tested_relation r.stamp.event q.stamp.event

-- whether it is another copy's row
abbrev pub is_other : ℕ → StampRow → Bool
is_other copy r = is_copy r.holder && not (r.copy == copy)

-- the relations of a row to those of the other copies
abbrev pub relations : StampRow → List StampRow → List Rel
relations row rows = map (row_relation row) (filter (is_other row.copy) rows)

-- the table follows the rows, but for copies that are gone, or are to come, or are to be compared
pub record IsFollowed (gone coming but : List ℕ) (rows : List StampRow) (pairs : Table) : Type 0 where
  pub inside : (copy : ℕ) → has gone copy ≡ false → Contains pairs.copies copy → lives rows copy ≡ true
  pub there : (copy : ℕ) → has coming copy ≡ false → lives rows copy ≡ true → Contains pairs.copies copy
  pub later : (copy : ℕ) → has but copy ≡ false → has coming copy ≡ false
  pub rels : AreCompared but rows pairs

-- how many copies the table has room for, those that it has among them
abbrev pub most : Table → ℕ
most pairs = length pairs.copies + pairs.room
