use Rattle.std.proofs.Common.{Some, sym, ap, ◌∙◌}
use Rattle.pana_copies.specs.Spots.{kept}
use Rattle.pana_copies.proofs.Kept.{free_place, copy_at, found_place}
use Rattle.pana_copies.proofs.copy_table.CopyTable.at.Goals as goal

pub returns-in_err-index : goal.returns-in_err-index
unfolding kept
returns-in_err-index c = λ copy. (
  λ h. let none = c.from_residual.ensures in absurd (cc),
  rw (← c.self.view_is) (λ h. absurd (free_place _ _ c.self.invariant.0.even c.args.place.now (sym c.in_err-index.ensures.found) copy h)),
)

pub returns : goal.returns
unfolding kept
returns c =
    let place = found_place c.self.inside.places.keys c.args.place.now c.in_ok-index.field-0-1.now c.in_ok-index.ensures.key in
    rw (← c.self.view_is) (copy_at c.self.inside.families.entries c.self.inside.places.keys c.self.invariant.0.even c.in_ok-index.index (c.in_ok-copy.copy.now, c.in_ok-copy.field-0-1.now) c.args.place.now (sym c.in_ok-copy.ensures.entry) (c.in_ok-index.ensures.stored ∙ ap Some place))
