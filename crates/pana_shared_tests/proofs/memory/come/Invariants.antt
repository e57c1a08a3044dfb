use Rattle.pana_shared_tests.specs.Memory.{ComeOf}
use Rattle.pana_shared_tests.proofs.memory.come.Given as goal

abbrev pub invariant-loop-record : goal.invariant-loop-record
invariant-loop-record l = ComeOf l.writer l.initial.records.items l.records.items
