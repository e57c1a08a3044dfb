use Rattle.pana_hall.proofs.Words.{◌≡◌, map, take, living}
use Rattle.pana_hall.specs.inner.Relatives.{relative}
use Rattle.pana_hall.proofs.state.State.relatives_among.Given as goal

abbrev pub invariant-loop-other : goal.invariant-loop-other
invariant-loop-other l = l.made.items ≡ map (relative (living l.self.journal.entries) l.copy) (take l.other-index l.numbers)
