use Rattle.std.proofs.Common.{arith, ap, sym, ◌∙◌}
use Rattle.pana_ticks.proofs.Steps.{divides}
use Rattle.pana_ticks.proofs.ticks.Ticks.watcher.Goals as goal

pub split_seat-requires : goal.split_seat-requires
split_seat-requires c = (
  ap (λ w. w.id) c.counter.view_is ∙ c.requires.of ∙ sym c.self.view_is,
  (let words = c.self.invariant in omega arith),
  divides _ _,
)
