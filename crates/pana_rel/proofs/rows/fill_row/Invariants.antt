use Rattle.std.proofs.Common.{◌≡◌, ℕ, ◌<◌, ◌≤◌, length}
use Rattle.std.specs.Prelude.{slice_index_or}
use Rattle.std.specs.List.{insert}
use Rattle.pana_event.specs.declared.rel.Rel.TheVariants.{Equal}
use Rattle.pana_rel.proofs.rows.fill_row.Given as goal

-- the relations before the place of the loop are the new ones, and the others are as they were
abbrev pub invariant-loop-k : goal.invariant-loop-k
invariant-loop-k l =
    (length l.row.items ≡ length l.initial.row.items)
    × ((j : ℕ) → j < l.k → slice_index_or l.row.items j Equal ≡ slice_index_or (insert l.rels l.fn.at Equal) j Equal)
    × ((j : ℕ) → l.k ≤ j → slice_index_or l.row.items j Equal ≡ slice_index_or l.initial.row.items j Equal)
    × (l.row.room ≡ l.initial.row.room)
