use Rattle.std.proofs.lemmas.Result.{err_from_is_err_and}
use Rattle.pana_text.proofs.Checked.{checked_ok, checked_fault}
use Rattle.pana_text.proofs.reading.check.Goals as goal

pub returns-in_err-judge-clause-fault : goal.returns-in_err-judge-clause-fault
returns-in_err-judge-clause-fault c =
    let p = err_from_is_err_and c.from_residual-in_err-judge.result c.from_residual-in_err-judge.ensures.1 in
    rw (p.1, p.2) (checked_fault c.args.text.now (c.in_ok-id.id, c.in_ok-id.event) c.in_err-judge.field-0.0 c.in_ok-id.ensures c.in_err-judge.ensures)

pub returns-clause-ok : goal.returns-clause-ok
returns-clause-ok c = checked_ok c.args.text.now (c.in_ok-id.id, c.in_ok-id.event) c.in_ok-id.ensures c.in_ok-judge.ensures
