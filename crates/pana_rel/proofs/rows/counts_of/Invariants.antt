use Rattle.std.proofs.Common.{◌≡◌, ℕ, ◌<◌, length}
use Rattle.pana_rel.specs.inner.Square.{counts_in, row_in, AreCounted}
use Rattle.pana_rel.proofs.rows.counts_of.Given as goal

-- those before the place of the loop are counted
abbrev pub invariant-loop-at : goal.invariant-loop-at
invariant-loop-at l = record {
  long : length l.counts.items ≡ l.at;
  each : (i : ℕ) → i < l.at → AreCounted (row_in l.fn.rows i).items (counts_in l.counts.items i);
}
