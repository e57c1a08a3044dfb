use Rattle.std.proofs.Common.{◌≡◌, ℕ, ◌<◌, ◌≤◌, length}
use Rattle.std.specs.Prelude.{slice_index_or, slice_set}
use Rattle.pana_event.specs.declared.rel.Rel.TheVariants.{Equal}
use Rattle.pana_event.specs.Relation.{reverse_of}
use Rattle.pana_rel.specs.inner.Square.{row_in}
use Rattle.pana_rel.proofs.rows.mirror.Given as goal

-- the rows before the place of the loop have the new relation, and the others are as they were
abbrev pub invariant-loop-i : goal.invariant-loop-i
invariant-loop-i l =
    (length l.rows ≡ length l.initial.rows)
    × ((k : ℕ) → k < l.i → ¬ (k ≡ l.fn.at) → (row_in l.rows k).items ≡ slice_set (row_in l.initial.rows k).items l.fn.at (reverse_of (slice_index_or (row_in l.initial.rows l.fn.at).items k Equal)))
    × ((k : ℕ) → l.i ≤ k → row_in l.rows k ≡ row_in l.initial.rows k)
    × (row_in l.rows l.fn.at ≡ row_in l.initial.rows l.fn.at)
    × ((k : ℕ) → (row_in l.rows k).room ≡ (row_in l.initial.rows k).room)
