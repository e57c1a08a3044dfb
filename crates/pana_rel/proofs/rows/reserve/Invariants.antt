use Rattle.std.proofs.Common.{◌≡◌, ℕ, ◌<◌, ◌≤◌, length}
use Rattle.pana_rel.specs.inner.Square.{row_in}
use Rattle.pana_rel.proofs.rows.reserve.Given as goal

abbrev pub invariant-loop-i : goal.invariant-loop-i
invariant-loop-i l =
    (length l.rows ≡ length l.initial.rows)
    × ((k : ℕ) → (row_in l.rows k).items ≡ (row_in l.initial.rows k).items)
    × ((k : ℕ) → (row_in l.initial.rows k).room ≤ (row_in l.rows k).room)
    × ((k : ℕ) → k < l.i → length (row_in l.rows k).items < (row_in l.rows k).room)
