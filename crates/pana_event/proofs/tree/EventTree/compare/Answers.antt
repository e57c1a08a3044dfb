-- Each is below the other, so they agree at all points and are one tree.
use Rattle.std.proofs.Common.{refl}
use Rattle.pana_event.proofs.Sound.{same_below}
use Rattle.pana_event.proofs.tree.EventTree.compare.Goals as goal

pub returns-in-true-true-clause-same : goal.returns-in-true-true-clause-same
returns-in-true-true-clause-same c =
    (λ _. same_below _ _ c.node.ensures.normal c.node-2.ensures.normal c.node.ensures.shallow c.node-2.ensures.shallow (c.in-true-true.ensures.levels.0 refl) (c.in-true-true.ensures'.levels.0 refl), λ _. refl)
