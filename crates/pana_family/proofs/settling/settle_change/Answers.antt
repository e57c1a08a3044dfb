use Rattle.pana_family.proofs.Words.{◌∙◌, ap}
use Rattle.std.proofs.lemmas.Result.{IfOk-weaker}
use Rattle.pana_family.specs.inner.Exchanging.{came_behind}
use Rattle.pana_family.proofs.Planned.{comes_last}
use Rattle.pana_family.proofs.settling.settle_change.Goals as goal

pub returns-in-Ok : goal.returns-in-Ok
returns-in-Ok c =
    IfOk-weaker c.with_row.result _ _
    (λ change is. is c.args.rows.now ∙ ap (came_behind c.args.came) c.in-Ok.ensures ∙ comes_last c.args.entry c.args.plan c.args.rows.now c.args.came c.requires.new c.requires.came) c.with_row.ensures
