-- What is gone from the rest was written.
use Rattle.std.proofs.Common.{◌≡◌, ℕ, false, List, ◌++◌, length}
use Rattle.std.specs.Io.KnownBytes.{Appends}
use Rattle.pana_wire.specs.Tap.{inside, has_failed, noted, noted_at}
use Rattle.pana_wire.proofs.flushing.write_whole.Given as goal

abbrev pub invariant-loop-rest : goal.invariant-loop-rest
invariant-loop-rest g l = record {
  said : (done : List ℕ) × (l.fn.bytes ≡ done ++ l.rest) × Appends (g.W.Write.contents (inside l.fn.writer)) (g.W.Write.contents (inside l.writer)) done
      × (noted l.writer ≡ noted l.fn.writer ++ noted_at (g.S.Session.moment l.session) done);
  works : has_failed l.writer ≡ false;
}

abbrev pub decreases-loop-rest : goal.decreases-loop-rest
decreases-loop-rest g l = length l.rest
