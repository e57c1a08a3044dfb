use Rattle.std.proofs.Common.{◌≡◌, false, arith, ap, sym, ◌∙◌, subst}
use Rattle.pana_ticks.specs.Hands.{ShareView}
use Rattle.pana_ticks.proofs.Steps.{closes}
use Rattle.pana_ticks.proofs.ticks.Ticks.end.Goals as goal

pub fetch_add-requires : goal.fetch_add-requires
fetch_add-requires c =
    let counts = c.counter.invariant in (
      ap (λ s. s.id) c.counter.view_is ∙ c.requires.of ∙ sym c.self.view_is,
      (let words = c.self.invariant in omega arith),
      closes _ _ _ counts.0 (subst (λ (s : ShareView). s.count.is_over ≡ false) (sym c.counter.view_is) c.requires.going) (let is = counts.1 in let few = counts.2 in omega (arith, is, few)),
    )
