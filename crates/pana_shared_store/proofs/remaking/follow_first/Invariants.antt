use Rattle.std.proofs.Common.{◌≡◌, take}
use Rattle.pana_shared_store.proofs.remaking.follow_first.Given as goal

abbrev pub invariant-loop-index : goal.invariant-loop-index
invariant-loop-index l = l.hall ≡ take l.index l.other
