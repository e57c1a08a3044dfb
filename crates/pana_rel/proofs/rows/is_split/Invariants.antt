use Rattle.std.proofs.Common.{ℕ, ◌<◌}
use Rattle.pana_rel.specs.inner.Square.{row_in, IsTop, Meets}
use Rattle.pana_rel.proofs.rows.is_split.Given as goal

-- none was found before the place of the loop
abbrev pub invariant-loop-at : goal.invariant-loop-at
invariant-loop-at l = (k : ℕ) → k < l.at → IsTop (row_in l.fn.rows k).items → ¬ Meets l.fn.rows k
