use Rattle.pana_shared_tests.proofs.Remembered.{come_both}
use Rattle.pana_shared_tests.proofs.memory.come.Goals as goal

pub loop-record-preserved : goal.loop-record-preserved
loop-record-preserved c = come_both _ _ _ _ c.loop-record.invariant c.add.ensures
