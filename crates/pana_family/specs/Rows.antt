-- The rows of a family, by rising copy.
use Rattle.std.specs.Prelude.{filter, filter_map, ◌≡◌, ◌&&◌, Option, Some, None, unwrap_or, ℕ, ◌+◌, ◌<◌, ◌≤◌, Bool, ◌==◌, List, [], ◌∷◌, if◌then◌else◌, nat_lt, max, not, count_by}
use Rattle.std.specs.List.{list_any}
use Rattle.pana_id.specs.Id.{AtPoints, has as owns, Id, zero_id, one_id, depth, is_single, sum_of, IsValid}
use Rattle.pana_event.specs.Event.{Event, leaf, IsSound}
use Rattle.pana_stamp.specs.declared.stamp.Stamp.{Stamp}
use Rattle.pana_family.specs.declared.row.StampRow.{StampRow}
use Rattle.pana_family.specs.Holders.{is_copy, is_held}
use Rattle.pana_family.specs.Table.{In}

-- whether a copy lives
abbrev pub lives : List StampRow → ℕ → Bool
lives rows copy = list_any (λ r. r.copy == copy && is_copy r.holder) rows

-- the rows rise by copy, from a number on
abbrev pub IsRising : ℕ → List StampRow → Type 0
IsRising low [] = Unit {0}
IsRising low (r ∷ rows) = (low ≤ r.copy) × IsRising (r.copy + 1) rows

-- the rows without a copy's
abbrev pub dropped : ℕ → List StampRow → List StampRow
dropped copy [] = []
dropped copy (r ∷ rows) = if r.copy == copy then dropped copy rows else r ∷ dropped copy rows

-- no copy and no touch is n or greater
abbrev pub AreBefore : ℕ → List StampRow → Type 0
AreBefore n rows = (r : StampRow) → In r rows → (r.copy < n) × (r.touch < n)

-- whether the row's number and touch are less than n
abbrev pub is_below : ℕ → StampRow → Bool
is_below n r = nat_lt r.copy n && nat_lt r.touch n

-- a row put back: in the place of its copy's, or among the others by its number
abbrev pub put_back : StampRow → List StampRow → List StampRow
put_back x [] = x ∷ []
put_back x (r ∷ rows) = if r.copy == x.copy then x ∷ rows else (if nat_lt x.copy r.copy then x ∷ (r ∷ rows) else r ∷ put_back x rows)

-- the stamp of an id and an event
abbrev pub stamp : Id → Event → Stamp
stamp id event = record { id = id; event = event }

-- the row of a copy
abbrev pub row : ℕ → Stamp → ℕ → StampRow
row copy stamp touch = record { copy = copy; holder = None; stamp = stamp; touch = touch }

-- the row of a number, if it has one
abbrev pub row_at : List StampRow → ℕ → Option StampRow
row_at [] n = None
row_at (r ∷ rows) n = if r.copy == n then Some r else row_at rows n

-- the row of a number, and an empty one where it has none
abbrev pub row_in : List StampRow → ℕ → StampRow
row_in rows n = unwrap_or (row_at rows n) (row n (stamp zero_id (leaf 0)) 0)

-- whether the id of a copy can be divided, within the 256 levels that an id may have
abbrev pub divides : List StampRow → ℕ → Bool
divides rows copy = not (is_single (row_in rows copy).stamp.id 256)

-- an id with those of the rows that pass the test, added in their order
abbrev pub with_ids : (StampRow → Bool) → Id → List StampRow → Id
with_ids test i [] = i
with_ids test i (r ∷ rows) = with_ids test (if test r then sum_of i r.stamp.id else i) rows

-- the greatest depth of an id
abbrev pub deepest : List StampRow → ℕ
deepest [] = 0
deepest (r ∷ rows) = max (depth r.stamp.id) (deepest rows)

-- the rows, with a copy's changed by f
abbrev pub renewed : ℕ → (StampRow → StampRow) → List StampRow → List StampRow
renewed copy f rows = filter_map (λ r. Some (if r.copy == copy then f r else r)) rows

-- the first row of a family
abbrev pub seed_row : ℕ → StampRow
seed_row n = row n (stamp one_id (leaf 0)) n

-- the rows of copies alone
abbrev pub copy_rows : List StampRow → List StampRow
copy_rows rows = filter (λ r. is_copy r.holder) rows

-- how many parcels the copy holds
abbrev pub held_rows : ℕ → List StampRow → ℕ
held_rows copy rows = count_by (λ r. is_held copy r.holder) rows

-- the trees of rows are within the limits, which their types say
abbrev pub AreSound : List StampRow → Type 0
AreSound rows = (r : StampRow) → In r rows → IsValid r.stamp.id × IsSound r.stamp.event

-- whether a row owns the point
abbrev pub owned : List StampRow → List Bool → Bool
owned rows point = list_any (λ r. owns r.stamp.id point) rows

-- one after another, each list of rows owns what the one before does
abbrev pub OwnSame : List StampRow → List StampRow → Type 0
OwnSame rows new = AtPoints (λ point. owned new point ≡ owned rows point)
