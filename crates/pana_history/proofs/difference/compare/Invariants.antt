use Rattle.std.proofs.Common.{[], ◌∷◌, length}
use Rattle.pana_history.specs.inner.Alone.{IsFit}
use Rattle.pana_history.proofs.Alone.{IsFoundSoFar}
use Rattle.pana_history.proofs.difference.compare.Given as goal

abbrev pub invariant-loop-entry : goal.invariant-loop-entry
invariant-loop-entry l = record {
  fit : IsFit l.entries.items;
  ours : IsFoundSoFar l.fn.entries.items (l.a ∷ []) (l.b ∷ []) l.found.first.items l.entries.items l.sources.first.items l.sources.second.items;
  theirs : IsFoundSoFar l.fn.entries.items (l.b ∷ []) (l.a ∷ []) l.found.second.items l.entries.items l.sources.second.items l.sources.first.items;
}

abbrev pub decreases-loop-entry : goal.decreases-loop-entry
decreases-loop-entry l = length l.entries.items
