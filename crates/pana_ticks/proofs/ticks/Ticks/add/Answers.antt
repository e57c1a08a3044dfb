use Rattle.std.proofs.Common.{◌≡◌, false, arith, ap, sym, ◌∙◌, subst}
use Rattle.pana_ticks.specs.Hands.{ShareView}
use Rattle.pana_ticks.proofs.Steps.{adds}
use Rattle.pana_ticks.proofs.ticks.Ticks.add.Goals as goal

pub fetch_add-requires : goal.fetch_add-requires
fetch_add-requires c =
    let counts = c.counter.invariant in (
      ap (λ s. s.id) c.counter.view_is ∙ c.requires.of ∙ sym c.self.view_is,
      (let words = c.self.invariant in omega arith),
      adds _ _ _ _ c.min-more.result counts.0 (subst (λ (s : ShareView). s.count.is_over ≡ false) (sym c.counter.view_is) c.requires.going) (omega arith) (omega arith),
    )
