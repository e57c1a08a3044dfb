use Rattle.std.proofs.Common.{sym}
use Rattle.pana_copies.specs.Spots.{kept}
use Rattle.pana_copies.proofs.Kept.{kept_found, none-spots}
use Rattle.pana_copies.proofs.copy_table.CopyTable.get.Goals as goal

pub returns-in_err-index : goal.returns-in_err-index
unfolding kept
returns-in_err-index c = rw (← c.self.view_is, c.from_residual.ensures) (sym (none-spots _ _ c.self.invariant.0.even _ (sym c.in_err-index.ensures.value)))

pub returns : goal.returns
unfolding kept
returns c =
    rw (← c.self.view_is) (sym (kept_found _ _ c.self.invariant.0.even c.args.copy c.in_ok-index.index (c.in_ok-index.field-0-1.now, c.in_ok-index.family.now) c.in_ok-place.place.now (sym c.in_ok-index.ensures.key) c.in_ok-index.ensures.entry (sym c.in_ok-place.ensures.key)))
