-- The rows of a table, by the places of its copies.
use Rattle.std.specs.Prelude.{◌≡◌, ℕ, zero, suc, ◌<◌, ◌≤◌, ◌+◌, false, List, [], length, map, slice_index_or, count_by, Contains, if◌then◌else◌}
use Rattle.std.specs.List.{insert, list_any}
use Rattle.pana_event.specs.declared.rel.Rel.{Rel}
use Rattle.pana_event.specs.declared.rel.Rel.TheVariants.{Equal, Older, Newer, Conflict}
use Rattle.pana_event.specs.Relation.{reverse_of}
use Rattle.pana_rel.specs.declared.counts.Counts.{Counts}
use Rattle.pana_rel.specs.Board.{is_rel}
use Rattle.pana_rel.specs.Pairs.{Table, place_of}

-- the relations of a copy to all, and how many fit without memory
pub record Relations : Type 0 where
  pub items : List Rel
  pub room : ℕ

-- the relations of each row
abbrev pub items_of : List Relations → List (List Rel)
items_of rows = map (λ row. row.items) rows

-- the row at a place
abbrev pub row_in : List Relations → ℕ → Relations
row_in rows i = slice_index_or rows i (record { items = []; room = 0 })

-- the table of these copies and rows, with room for so many more
abbrev pub table_of : List ℕ → List Relations → ℕ → Table
table_of copies rows room = record { copies = copies; rels = items_of rows; room = room }

-- the relation that the rows have of a copy to another
abbrev pub rel_in : List ℕ → List Relations → ℕ → ℕ → Rel
rel_in copies rows a b = slice_index_or (row_in rows (place_of a copies)).items (place_of b copies) Equal

-- each row has a relation for each row
abbrev pub IsWide : List Relations → Type 0
IsWide rows = (i : ℕ) → i < length rows → length (row_in rows i).items ≡ length rows

-- each number is greater than those before it
abbrev pub IsRising : List ℕ → Type 0
IsRising copies = (i j : ℕ) → i < j → j < length copies → slice_index_or copies i 0 < slice_index_or copies j 0

-- a place is one where a copy goes in: those before it are smaller, those from it on greater
pub record IsGap (cs : List ℕ) (n at : ℕ) : Type 0 where
  pub within : at ≤ length cs
  pub below : (k : ℕ) → k < at → slice_index_or cs k 0 < n
  pub above : (k : ℕ) → at ≤ k → k < length cs → n < slice_index_or cs k 0

-- what a table keeps: rising copies, a row for each with a relation to each, itself Equal, and each pair's two relations reversed
pub record IsKept (copies : List ℕ) (rows : List Relations) : Type 0 where
  pub rising : IsRising copies
  pub tall : length rows ≡ length copies
  pub wide : IsWide rows
  pub mirrored : (a b : ℕ) → Contains copies a → Contains copies b → rel_in copies rows b a ≡ reverse_of (rel_in copies rows a b)
  pub itself : (a : ℕ) → Contains copies a → rel_in copies rows a a ≡ Equal

-- each row has room for n relations
abbrev pub HaveRoom : ℕ → List Relations → Type 0
HaveRoom n rows = (i : ℕ) → i < length rows → n ≤ (row_in rows i).room

-- rows without relations
abbrev pub AreEmpty : List Relations → Type 0
AreEmpty rows = (i : ℕ) → i < length rows → (row_in rows i).items ≡ []

-- what more copies need, one for each spare row: these have no relations, and each row has room for a relation to all
pub record AreSpare (rows spare : List Relations) : Type 0 where
  pub empty : AreEmpty spare
  pub rooms : HaveRoom (length rows + length spare) rows
  pub own : HaveRoom (length rows + length spare) spare

-- how many other copies there are to which the copy relates so: those above it are the ones than which it is older
abbrev pub number_of : Rel → Counts → ℕ
number_of Equal counts = counts.equal
number_of Older counts = counts.above
number_of Newer counts = counts.below
number_of Conflict counts = counts.conflict

-- the counts are those of these relations of a copy, of which one is to itself
abbrev pub AreCounted : List Rel → Counts → Type 0
AreCounted rels counts = (wanted : Rel) → number_of wanted counts + (if is_rel wanted Equal then 1 else 0) ≡ count_by (λ rel. is_rel rel wanted) rels

-- the counts at a place
abbrev pub counts_in : List Counts → ℕ → Counts
counts_in counts i = slice_index_or counts i (record { above = 0; below = 0; equal = 0; conflict = 0 })

-- each row is counted at its place
pub record AreAllCounted (rows : List Relations) (counts : List Counts) : Type 0 where
  pub long : length counts ≡ length rows
  pub each : (i : ℕ) → i < length rows → AreCounted (row_in rows i).items (counts_in counts i)

-- each copy is Equal to itself
abbrev pub AreSelfEqual : List Relations → Type 0
AreSelfEqual rows = (i : ℕ) → i < length rows → slice_index_or (row_in rows i).items i Equal ≡ Equal

-- no copy is newer than the one of this row
abbrev pub IsTop : List Rel → Type 0
IsTop rels = list_any (λ rel. is_rel rel Older) rels ≡ false

-- the copy at a place is in conflict with one to which none is newer
pub record Meets (rows : List Relations) (at : ℕ) : Type 0 where
  pub other : ℕ
  pub within : other < length rows
  pub top : IsTop (row_in rows other).items
  pub conflict : slice_index_or (row_in rows at).items other Equal ≡ Conflict

-- two copies are in conflict to which none is newer
pub record IsTorn (rows : List Relations) : Type 0 where
  pub at : ℕ
  pub inside : at < length rows
  pub newest : IsTop (row_in rows at).items
  pub meets : Meets rows at

-- the place of what stood at a place, once there is one more at another
abbrev pub up : ℕ → ℕ → ℕ
up zero i = suc i
up (suc at) zero = zero
up (suc at) (suc i) = suc (up at i)

-- one more row is at a place, with these relations, and in each other row there is its reverse at that place
pub record AreInserted (rows new : List Relations) (at : ℕ) (given : List Rel) : Type 0 where
  pub tall : length new ≡ length rows + 1
  pub wide : IsWide new
  pub own : (row_in new at).items ≡ insert given at Equal
  pub others : (i : ℕ) → i < length rows → (row_in new (up at i)).items ≡ insert (row_in rows i).items at (reverse_of (slice_index_or given i Equal))
