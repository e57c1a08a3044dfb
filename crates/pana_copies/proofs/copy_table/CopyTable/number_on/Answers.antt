use Rattle.std.proofs.Common.{refl, sym, arith}
use Rattle.pana_copies.proofs.OnDevice.{none_behind, beside}
use Rattle.pana_copies.proofs.copy_table.CopyTable.number_on.Goals as goal

pub returns-in_err-place : goal.returns-in_err-place
returns-in_err-place c = rw (← c.self.view_is, c.from_residual.ensures, none_behind _ _ c.args.index (sym c.in_err-place.ensures.key)) refl

pub returns-then-ne : goal.returns-then-ne
returns-then-ne c =
    let e = beside _ _ c.self.invariant.0.even c.args.index _ (sym c.in_ok-place.ensures.key) in
    rw (← c.self.view_is, e.2) (grind (arith, c.ne.ensures, c.if-ne.true))

pub returns : goal.returns
returns c =
    let e = beside _ _ c.self.invariant.0.even c.args.index _ (sym c.in_ok-place.ensures.key) in
    rw (← c.self.view_is, e.2) (grind (arith, c.ne.ensures, c.if-ne.false, c.then_some.ensures, c.in_ok-copy.ensures, e.1))
