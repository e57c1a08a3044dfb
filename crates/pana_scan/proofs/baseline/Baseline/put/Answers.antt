use Rattle.std.proofs.Common.{sym, ◌∙◌, subst}
use Rattle.std.specs.Prelude.{insert}
use Rattle.pana_scan.specs.declared.baseline.BaselineRow.{BaselineRow}
use Rattle.pana_scan.specs.Baseline.{MarksRise}
use Rattle.pana_scan.proofs.Settled.{put_changed, inserted_at, with_row_rise}
use Rattle.pana_scan.proofs.baseline.Baseline.put.Goals as goal

pub returns-in-Ok-clause-ok : goal.returns-in-Ok-clause-ok
returns-in-Ok-clause-ok c =
    put_changed _ c.args.self.now c.args.path.now c.args.mark c.in-Ok.at _ c.self.view_is (subst MarksRise c.self.view_is c.self.invariant) c.in-Ok.ensures c.index_mut.ensures.value

pub invariant_of-self : goal.invariant_of-self
invariant_of-self c =
    subst MarksRise (sym (returns-in-Ok-clause-ok c)) (with_row_rise (record { path = c.args.path.now; mark = c.args.mark }) c.args.self.now (subst MarksRise c.self.view_is c.self.invariant))

pub returns-in_ok-insert-in-Err-clause-ok : goal.returns-in_ok-insert-in-Err-clause-ok
returns-in_ok-insert-in-Err-clause-ok c =
    let new : BaselineRow = record { path = c.args.path.now; mark = c.args.mark } in
    c.in_ok-insert-in-Err.ensures.items
    ∙ (λ t. insert (c.self.view_is t) c.in-Err.at (record { path = c.in_ok-path-in-Err.ensures t; mark = c.args.mark }))
    ∙ inserted_at new c.args.self.now c.in-Err.at c.in-Err.ensures

pub invariant_of-self-in-Continue-branch-2 : goal.invariant_of-self-in-Continue-branch-2
invariant_of-self-in-Continue-branch-2 c =
    subst MarksRise (sym (returns-in_ok-insert-in-Err-clause-ok c)) (with_row_rise (record { path = c.args.path.now; mark = c.args.mark }) c.args.self.now (subst MarksRise c.self.view_is c.self.invariant))
