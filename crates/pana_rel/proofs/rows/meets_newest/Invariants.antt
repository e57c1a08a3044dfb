use Rattle.std.proofs.Common.{◌≡◌, ℕ, ◌<◌}
use Rattle.std.specs.Prelude.{slice_index_or}
use Rattle.pana_event.specs.declared.rel.Rel.TheVariants.{Equal, Conflict}
use Rattle.pana_rel.specs.inner.Square.{row_in, IsTop}
use Rattle.pana_rel.proofs.rows.meets_newest.Given as goal

-- none was found before the place of the loop
abbrev pub invariant-loop-other : goal.invariant-loop-other
invariant-loop-other l =
    (k : ℕ) → k < l.other → slice_index_or (row_in l.fn.rows l.fn.at).items k Equal ≡ Conflict → ¬ IsTop (row_in l.fn.rows k).items
