-- A table once a sum was kept.
use Rattle.std.proofs.Common.{◌≡◌, ℕ, ◌+◌, ◌<◌, ◌≤◌, Bool, true, false, cond, ◌&&◌, ◌||◌, nat_lt, List, [], ◌∷◌, ◌++◌, refl, sym, arith}
use Rattle.std.proofs.lemmas.Bool.{ltb-true, lt-ltb}
use Rattle.std.specs.List.{AllByRecursion}
use Rattle.indexmap.specs.IndexMap.{insert_entry}
use Rattle.pana_sums.specs.declared.signature.Signature.{Signature}
use Rattle.pana_sums.specs.Table.{Row, all_inserted, inserted, same_signature, IsRow}

-- all its rows are rows
pub rows_inserted : (table : List Row) (signature : Signature) (sum : List ℕ) → IsRow (signature, sum) → AllByRecursion IsRow table → AllByRecursion IsRow (insert_entry same_signature table signature sum)
rows_inserted [] signature sum fits rows = (fits, tt)
rows_inserted (row ∷ table) signature sum fits rows = by (same_signature signature row.0) (rows_inserted table signature sum fits rows.1)
  where
    kept : IsRow (row.0, sum)
    kept = record { device = rows.0.device; inode = rows.0.inode; size = rows.0.size; modified = rows.0.modified; changed = rows.0.changed; sum = fits.sum }

    by : (b : Bool) → AllByRecursion IsRow (insert_entry same_signature table signature sum) → AllByRecursion IsRow (cond b ((row.0, sum) ∷ table) (row ∷ insert_entry same_signature table signature sum))
    by true later = (kept, rows.1)
    by false later = (rows.0, later)

-- and there are no more than may be
pub few_after : (is_kept : Bool) (n m : ℕ) → (is_kept || nat_lt n 4000000) ≡ true → n ≤ 4000000 → m ≡ n + cond is_kept 0 1 → m ≤ 4000000
few_after true n m may few long = omega arith
few_after false n m may few long = omega (arith, ltb-true n 4000000 may)

-- a sum is kept where it is kept already, and where there is room
pub may_by_key : (is_kept : Bool) (n : ℕ) → is_kept ≡ true → (is_kept || nat_lt n 4000000) ≡ true
may_by_key true n h = refl
may_by_key false n h = absurd (cc)

pub may_by_room : (is_kept : Bool) (n : ℕ) → n < 4000000 → (is_kept || nat_lt n 4000000) ≡ true
may_by_room true n room = refl
may_by_room false n room = lt-ltb n 4000000 room

pub and_may : (b may : Bool) → may ≡ true → b ≡ (b && may)
and_may true may h = sym h
and_may false may h = refl

-- one row more is put in last
pub all_inserted_more : (table rows : List Row) (row : Row) → all_inserted table (rows ++ row ∷ []) ≡ inserted (all_inserted table rows) row.0 row.1
all_inserted_more table [] row = refl
all_inserted_more table (next ∷ rows) row = all_inserted_more (inserted table next.0 next.1) rows row
