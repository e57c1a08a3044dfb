use Rattle.std.proofs.Common.{arith, ap, sym, ◌∙◌}
use Rattle.pana_ticks.proofs.Steps.{looks}
use Rattle.pana_ticks.proofs.ticks.Ticks.look.Goals as goal

pub load-word-requires : goal.load-word-requires
load-word-requires c = (
  ap (λ w. w.id) c.watcher.view_is ∙ c.requires.of ∙ sym c.self.view_is,
  (let words = c.self.invariant in omega arith),
  looks _ _ _ c.watcher.invariant.0,
)
