use Rattle.std.proofs.Common.{◌≡◌, ℕ, ◌<◌, ◌≤◌, length}
use Rattle.std.specs.List.{remove}
use Rattle.pana_rel.specs.inner.Square.{row_in}
use Rattle.pana_rel.proofs.rows.close_column.Given as goal

-- the rows before the place of the loop lack the relation, and the others are as they were
abbrev pub invariant-loop-i : goal.invariant-loop-i
invariant-loop-i l =
    (length l.rows ≡ length l.initial.rows)
    × ((k : ℕ) → k < l.i → (row_in l.rows k).items ≡ remove (row_in l.initial.rows k).items l.fn.at)
    × ((k : ℕ) → l.i ≤ k → row_in l.rows k ≡ row_in l.initial.rows k)
    × ((k : ℕ) → k < l.i → (row_in l.initial.rows k).room ≤ (row_in l.rows k).room)
