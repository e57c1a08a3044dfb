use Rattle.std.proofs.Common.{◌≡◌, ℕ, ◌<◌, ◌≤◌, length}
use Rattle.std.specs.Prelude.{slice_index_or}
use Rattle.std.specs.List.{insert}
use Rattle.pana_event.specs.declared.rel.Rel.TheVariants.{Equal}
use Rattle.pana_event.specs.Relation.{reverse_of}
use Rattle.pana_rel.specs.inner.Square.{row_in}
use Rattle.pana_rel.proofs.rows.open_column.Given as goal

-- the rows before the place of the loop have the new relation, and the others are as they were
abbrev pub invariant-loop-i : goal.invariant-loop-i
invariant-loop-i l =
    (length l.rows ≡ length l.initial.rows)
    × ((k : ℕ) → k < l.i → (row_in l.rows k).items ≡ insert (row_in l.initial.rows k).items l.fn.at (reverse_of (slice_index_or l.fn.given.items k Equal)))
    × ((k : ℕ) → l.i ≤ k → row_in l.rows k ≡ row_in l.initial.rows k)
    × ((k : ℕ) → (row_in l.initial.rows k).room ≤ (row_in l.rows k).room)
