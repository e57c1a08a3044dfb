use Rattle.std.proofs.Common.{List, map, ap, subst}
use Rattle.pana_shared.specs.declared.record.Record.{Record}
use Rattle.pana_shared_tests.specs.Memory.{ComeOf}
use Rattle.pana_shared_tests.proofs.Remembered.{fresh}
use Rattle.pana_shared_tests.proofs.memory.MemoryShared.new.Goals as goal

pub returns : goal.returns
returns c = fresh c.args.writer c.come.new.records.items _ (subst (λ (l : List Record). ComeOf c.args.writer l c.come.new.records.items) c.new-records.ensures.items c.come.ensures) (ap (map _) c.new.ensures.items)
