-- The lines that have ended are read, and what comes behind them is left.
use Rattle.std.proofs.Common.{◌≡◌, ℕ, ◌+◌, ◌≤◌, List, length}
use Rattle.pana_wire.specs.Lines.{ended}
use Rattle.pana_wire.specs.inner.Progress.{IsHeldOf}
use Rattle.pana_wire.specs.inner.Rounds.{IsGathered}
use Rattle.pana_wire.proofs.round.Round.gather.Given as goal

abbrev pub invariant-loop : goal.invariant-loop
invariant-loop l = record {
  read : (begun : List ℕ) → IsHeldOf l.fn.held begun → IsGathered begun l.piece l.self l.held l.rest;
  lines : (begun now : List ℕ) → length (ended begun l.piece) ≡ length l.self.faults + length (ended now l.rest);
  few : length l.self.faults + length l.rest ≤ length l.piece;
  count : length l.self.faults ≡ l.counter;
  begins : l.counter ≡ 0 → l.rest ≡ l.piece;
}
