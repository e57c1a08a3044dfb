use Rattle.std.proofs.Common.{◌≡◌, List, ◌++◌}
use Rattle.pana_shared_laws.specs.Lives.{Deed, Lives}
use Rattle.pana_shared_tests.specs.Life.{asked_in}
use Rattle.pana_shared_tests.proofs.life.call_all.Given as goal

abbrev pub invariant-loop-by : goal.invariant-loop-by
invariant-loop-by g l = record {
  lives : (deeds : List Deed) × Lives g.L.SharedLog.is_known l.fn.store deeds l.store × (asked_in deeds ≡ l.yielded);
  rest : l.fn.calls.items ≡ l.yielded ++ l.by-iterator.rest.items;
}
