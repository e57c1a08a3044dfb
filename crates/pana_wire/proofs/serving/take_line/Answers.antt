-- The line is what had begun, with the bytes that end it.
use Rattle.std.proofs.Common.{◌≡◌, ◌==◌, true, ◌++◌, length, sym, ◌∙◌}
use Rattle.std.proofs.lemmas.Result.{err_from_is_err_and, IfErr-weaker, IfOk-weaker}
use Rattle.pana_wire.proofs.Lines.{held_so, whole_held}
use Rattle.pana_wire.proofs.serving.take_line.Goals as goal

pub returns-then-is_empty-clause-ok : goal.returns-then-is_empty-clause-ok
returns-then-is_empty-clause-ok g c =
    let none : (length c.args.held.now == 0) ≡ true = sym c.is_empty.ensures ∙ c.if-is_empty.true in
    IfOk-weaker c.answer.result _ _ (λ served h begun is. h (begun ++ c.args.last.now) (whole_held c.args.held.now begun c.args.last.now c.first_bytes.result.now is none c.first_bytes.ensures)) c.answer.ensures.ok

pub returns-then-is_empty-clause-fault : goal.returns-then-is_empty-clause-fault
returns-then-is_empty-clause-fault g c =
    let none : (length c.args.held.now == 0) ≡ true = sym c.is_empty.ensures ∙ c.if-is_empty.true in
    IfErr-weaker c.answer.result _ _ (λ fault h begun is. h (begun ++ c.args.last.now) (whole_held c.args.held.now begun c.args.last.now c.first_bytes.result.now is none c.first_bytes.ensures)) c.answer.ensures.fault

pub returns-in_err-answered-clause-fault : goal.returns-in_err-answered-clause-fault
returns-in_err-answered-clause-fault g c =
    let p = err_from_is_err_and c.from_residual.result c.from_residual.ensures.1 in
    rw (p.1, p.2) (λ begun is.
    c.in_err-answered.ensures.fault (begun ++ c.args.last.now) (held_so c.args.held.now begun c.args.last.now _ _ is c.extend.ensures c.as_slice.ensures))

pub returns-clause-ok : goal.returns-clause-ok
returns-clause-ok g c begun is =
    c.in_ok-answered.ensures.ok (begun ++ c.args.last.now) (held_so c.args.held.now begun c.args.last.now _ _ is c.extend.ensures c.as_slice.ensures)
