use Rattle.pana_event.proofs.Sound.{leq_says}
use Rattle.pana_event.proofs.tree.EventTree.leq.Goals as goal

pub returns-clause-levels : goal.returns-clause-levels
returns-clause-levels c =
    rw (c.is_below.ensures, ← c.self.view_is, ← c.other.view_is) (leq_says _ _ c.other.invariant.normal c.self.invariant.shallow c.other.invariant.shallow)
