use Rattle.std.proofs.Common.{◌≡◌, ◌++◌, List, length}
use Rattle.std.specs.Prelude.{IsTrue}
use Rattle.pana_journal.specs.declared.entry.Entry.{Entry}
use Rattle.pana_shared_store.specs.inner.{HasFilled}
use Rattle.pana_shared_store.proofs.filling.fill.Given as goal

-- what is gone from the rest is in the log
abbrev pub invariant-loop-rest : goal.invariant-loop-rest
invariant-loop-rest g l = (done : List Entry) × (l.fn.entries ≡ done ++ l.rest)
    × (IsTrue g.L.SharedLog.is_known → HasFilled (g.L.SharedLog.seen l.fn.log) done l.turn (g.L.SharedLog.seen l.log))

abbrev pub decreases-loop-rest : goal.decreases-loop-rest
decreases-loop-rest g l = length l.rest
