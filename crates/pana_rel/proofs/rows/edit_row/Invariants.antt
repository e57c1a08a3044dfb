use Rattle.std.proofs.Common.{◌≡◌, ℕ, ◌<◌, ◌≤◌, length}
use Rattle.std.specs.Prelude.{slice_index_or}
use Rattle.pana_event.specs.declared.rel.Rel.TheVariants.{Equal}
use Rattle.pana_rel.specs.Pairs.{edited_rel}
use Rattle.pana_rel.proofs.rows.edit_row.Given as goal

-- the relations before the place of the loop are those after the edit, and the others are as they were
abbrev pub invariant-loop-k : goal.invariant-loop-k
invariant-loop-k l =
    (length l.row.items ≡ length l.initial.row.items)
    × ((j : ℕ) → j < l.k → ¬ (j ≡ l.fn.at) → slice_index_or l.row.items j Equal ≡ edited_rel (slice_index_or l.initial.row.items j Equal))
    × ((j : ℕ) → l.k ≤ j → slice_index_or l.row.items j Equal ≡ slice_index_or l.initial.row.items j Equal)
    × (slice_index_or l.row.items l.fn.at Equal ≡ slice_index_or l.initial.row.items l.fn.at Equal)
    × (l.row.room ≡ l.initial.row.room)
