use Rattle.pana_shared_store.proofs.Followed.{reads_none}
use Rattle.pana_shared_tests.proofs.memory.MemoryShared.wait.Goals as goal

pub returns-in_default-clause-reads : goal.returns-in_default-clause-reads
returns-in_default-clause-reads c = reads_none _
