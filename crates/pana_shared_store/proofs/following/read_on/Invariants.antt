use Rattle.std.specs.Prelude.{◌≤◌, ◌+◌, IsTrue, length}
use Rattle.pana_shared_store.specs.inner.{LooksOn}
use Rattle.pana_shared_store.proofs.following.read_on.Given as goal

-- the hall has gone on so far, by an entry at least for each page
abbrev pub invariant-loop : goal.invariant-loop
invariant-loop g l = record {
  looks : LooksOn g.L.SharedLog.is_known l.fn.hall (g.L.SharedLog.seen l.fn.log) l.hall (g.L.SharedLog.seen l.log);
  heard : IsTrue g.L.SharedLog.is_known → g.L.SharedLog.silences l.log ≤ g.L.SharedLog.silences l.fn.log;
  pages : length l.fn.hall + l.counter ≤ length l.hall;
}
