-- The texts of the lines before are added, and the answers to those that come are left.
use Rattle.std.proofs.Common.{drop}
use Rattle.pana_wire.specs.inner.Rounds.{AreTold}
use Rattle.pana_wire.proofs.together.write_texts.Given as goal

abbrev pub invariant-loop-fault : goal.invariant-loop-fault
invariant-loop-fault l = AreTold l.fn.faults l.fn.answers l.texts.items (drop l.fault-index l.fn.faults) l.left
