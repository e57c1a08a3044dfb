use Rattle.std.specs.Prelude.{◌≤◌, ◌+◌, IsTrue, length}
use Rattle.pana_shared_store.specs.Store.{StaysOn}
use Rattle.pana_shared_store.specs.inner.{IsReady, IsStore}
use Rattle.pana_shared_store.proofs.trying.make.Given as goal

-- others' entries are followed so far, one at least for each try, and all that the log had when the call began, where that was read
abbrev pub invariant-loop : goal.invariant-loop
invariant-loop g l = record {
  stays : StaysOn g.L.SharedLog.is_known l.fn.hall (g.L.SharedLog.seen l.fn.log) l.hall (g.L.SharedLog.seen l.log);
  store : IsTrue g.L.SharedLog.is_known → IsStore l.hall l.turn (g.L.SharedLog.seen l.log);
  ready : IsTrue g.L.SharedLog.is_known → IsReady l.turn l.hall (g.L.SharedLog.seen l.log);
  read : IsTrue l.is_read → IsTrue g.L.SharedLog.is_known → length (g.L.SharedLog.seen l.fn.log).records ≤ length l.hall;
  heard : IsTrue g.L.SharedLog.is_known → g.L.SharedLog.silences l.log ≤ g.L.SharedLog.silences l.fn.log;
  tries : IsTrue g.L.SharedLog.is_known → length l.fn.hall + l.counter ≤ length l.hall;
}
