-- The lines that have ended are answered, and what came since is held.
use Rattle.std.proofs.Common.{◌≡◌, ℕ, ◌+◌, ◌≤◌, List, false, true, length}
use Rattle.pana_wire.specs.Lines.{ended}
use Rattle.pana_wire.specs.Tap.{has_failed, is_flushed}
use Rattle.pana_wire.specs.inner.Progress.{Advances, IsHeldOf}
use Rattle.pana_wire.specs.inner.Rounds.{IsCut}
use Rattle.pana_wire.proofs.serving.take_lines.Given as goal

abbrev pub invariant-loop-end : goal.invariant-loop-end
invariant-loop-end g l = record {
  goes : (begun : List ℕ) → IsHeldOf l.fn.held begun → (lines : List (List ℕ)) × (now : List ℕ) × IsCut begun l.piece lines now l.rest × IsHeldOf l.held now
      × Advances g.W.Write.contents g.S.Session.step g.S.Session.keeps_together g.S.Session.fails g.S.Session.settles g.S.Session.breaks_off g.S.Session.moment
      l.fn.writer l.writer l.fn.session l.session l.fn.answers l.answers lines l.served.calls;
  lines : (begun now : List ℕ) → length (ended begun l.piece) ≡ l.served.lines + length (ended now l.rest);
  calls : l.served.calls ≤ l.served.lines;
  few : l.served.lines + length l.rest ≤ length l.piece;
  works : has_failed l.writer ≡ false;
  flushed : is_flushed l.fn.writer ≡ true → is_flushed l.writer ≡ true;
}

abbrev pub decreases-loop-end : goal.decreases-loop-end
decreases-loop-end g l = length l.rest
