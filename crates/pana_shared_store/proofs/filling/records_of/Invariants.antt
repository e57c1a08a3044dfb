use Rattle.std.proofs.Common.{◌≡◌, take}
use Rattle.pana_shared_store.specs.Store.{recorded}
use Rattle.pana_shared_store.proofs.filling.records_of.Given as goal

abbrev pub invariant-loop-entry : goal.invariant-loop-entry
invariant-loop-entry l = l.group.items ≡ recorded l.writer l.turn (take l.entry-index l.entries)
