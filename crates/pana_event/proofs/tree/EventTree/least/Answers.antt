use Rattle.pana_event.proofs.Sound.{IsLeastLevel-least}
use Rattle.pana_event.proofs.tree.EventTree.least.Goals as goal

pub returns-clause-level : goal.returns-clause-level
returns-clause-level c =
    rw (c.least.ensures, ← c.self.view_is) (IsLeastLevel-least _ c.self.invariant.shallow)
