-- What waits to be taken by its sum, each once.
use Rattle.std.specs.Prelude.{ℕ, Bool, true, false, not, List, [], ◌∷◌, Option, Some, None, map, filter}
use Rattle.std.specs.List.Sorted.{IsPartitionedBy}
use Rattle.std.specs.Ordering.{is_lt}
use Rattle.std.specs.Str.{bytes_eq}
use Rattle.pana_scan.specs.declared.pool.Waiting.{Waiting}
use Rattle.pana_scan.specs.Order.{by_order, path_cmp}

-- whether the sum is below this one
abbrev pub is_lower : {T : Type 0} → List ℕ → Waiting T → Bool
is_lower sum row = is_lt (path_cmp row.sum.now sum)

-- whether it stands before all that wait with this sum
abbrev pub is_before : {T : Type 0} → List ℕ → Waiting T → Bool
is_before sum row = by_order (path_cmp row.sum.now sum) true row.is_taken false

-- those that wait with this sum
abbrev pub waiting : {T : Type 0} → List ℕ → List (Waiting T) → List T
waiting sum rows = map (λ row. row.item) (filter (λ row. not row.is_taken) (filter (λ row. bytes_eq row.sum.now sum) rows))

-- the sums rise, and of one sum those that were taken stand first
pub record AreInOrder {T : Type 0} (rows : List (Waiting T)) : Type 0 where
  pub lower : (sum : List ℕ) → IsPartitionedBy (is_lower sum) rows
  pub before : (sum : List ℕ) → IsPartitionedBy (is_before sum) rows

-- the first
abbrev pub first : {T : Type 0} → List T → Option T
first [] = None
first (x ∷ xs) = Some x

-- all but the first
abbrev pub rest : {T : Type 0} → List T → List T
rest [] = []
rest (x ∷ xs) = xs
