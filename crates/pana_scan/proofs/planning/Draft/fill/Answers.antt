use Rattle.std.proofs.Common.{◌++◌, append-nil, sym, ap, ◌∙◌}
use Rattle.pana_scan.specs.Plan.{steps_for, rows_for}
use Rattle.pana_scan.proofs.planning.Draft.fill.Goals as goal

pub returns-clause-steps : goal.returns-clause-steps
returns-clause-steps c =
    sym (append-nil c.loop-spot.self.steps.items) ∙ sym (ap (λ known. c.loop-spot.self.steps.items ++ steps_for c.args.device.now known) c.in_default.ensures.none) ∙ c.loop-spot.invariant.1

pub returns-clause-rows : goal.returns-clause-rows
returns-clause-rows c =
    sym (append-nil c.loop-spot.self.rows.items) ∙ sym (ap (λ known. c.loop-spot.self.rows.items ++ rows_for c.args.device.now known) c.in_default.ensures.none) ∙ c.loop-spot.invariant.2
