use Rattle.pana_event.proofs.Sound.{IsGreatestLevel-greatest}
use Rattle.pana_event.proofs.tree.EventTree.greatest.Goals as goal

pub returns-clause-level : goal.returns-clause-level
returns-clause-level c =
    rw (c.greatest.ensures, ← c.self.view_is) (IsGreatestLevel-greatest _ c.self.invariant.shallow)
