-- What a report leaves that writes at a position.
use Rattle.pana_family.proofs.Words.{◌≡◌, ℕ, ◌<◌, List, length, None, ap, ◌∙◌, get_or, arith, nat_tests, Id, Event, Stamp, StampRow, In, row_in, stamp, IsKept}
use Rattle.pana_family.proofs.Places.{in_read, row_found}

-- the row of a copy at its place
pub record IsRowAt (rows : List StampRow) (at copy : ℕ) (r : StampRow) : Type 0 where
  pub within : at < length rows
  pub read : r ≡ get_or rows at r
  pub row : In r rows
  pub named : r.copy ≡ copy
  pub free : r.holder ≡ None

-- rows is what the list was read as
pub row_at : (rows seen : List StampRow) (at copy : ℕ) (r : StampRow) → seen ≡ rows → at < length seen → ((d : StampRow) → (get_or seen at d).copy ≡ copy) → ((d : StampRow) → (get_or seen at d).holder ≡ None) → r ≡ get_or rows at r → IsRowAt rows at copy r
row_at rows seen at copy r same within here free read = grind (arith, nat_tests, in_read)

pub row_found_at : (rows value : List StampRow) (at copy : ℕ) (r : StampRow) → rows ≡ value → IsKept rows → IsRowAt rows at copy r → row_in value copy ≡ r
row_found_at rows value at copy r same k here = grind (arith, nat_tests, row_found)

-- a stamp by its parts
pub stamp_is : (s : Stamp) (i : Id) (e : Event) → s.id ≡ i → s.event ≡ e → s ≡ stamp i e
stamp_is s i e owner event = ap (λ (j : Id). stamp j s.event) owner ∙ ap (stamp i) event
