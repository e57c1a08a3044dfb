use Rattle.std.proofs.Common.{sym, ap, ◌∙◌, subst}
use Rattle.std.specs.Prelude.{remove}
use Rattle.pana_scan.specs.Baseline.{MarksRise}
use Rattle.pana_scan.proofs.Settled.{removed_at, kept_at, without_rise}
use Rattle.pana_scan.proofs.baseline.Baseline.take_out.Goals as goal

pub returns-in-Ok : goal.returns-in-Ok
returns-in-Ok c =
    c.remove.ensures.items ∙ ap (λ rows. remove rows c.in-Ok.at) c.self.view_is
    ∙ removed_at c.args.path.now c.args.self.now c.in-Ok.at (subst MarksRise c.self.view_is c.self.invariant) c.in-Ok.ensures

pub invariant_of-self : goal.invariant_of-self
invariant_of-self c = subst MarksRise (sym (returns-in-Ok c)) (without_rise c.args.path.now c.args.self.now (subst MarksRise c.self.view_is c.self.invariant))

pub returns-in_default : goal.returns-in_default
returns-in_default c = kept_at c.args.path.now c.args.self.now c.in_default.field-0 c.in_default.ensures
