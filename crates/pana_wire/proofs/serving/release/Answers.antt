-- What was held is written, or a prefix of it.
use Rattle.std.proofs.Common.{rules, List, ℕ, subst}
use Rattle.std.proofs.lemmas.Result.{err_from_is_err_and}
use Rattle.pana_wire.specs.inner.Writing.{WritesPrefix}
use Rattle.pana_wire.proofs.Groups.{kept_written}
use Rattle.pana_wire.proofs.serving.release.Goals as goal

pub returns-in_err-write_out-clause-err : goal.returns-in_err-write_out-clause-err
returns-in_err-write_out-clause-err g c =
    let contents = g.W.Write.contents in
    let new = c.settle.new.self in
    let moment = g.S.Session.moment new in
    let a = c.args.writer.now in
    let b = c.write_out.new.writer in
    let settled : g.S.Session.settles c.args.session.now new = search rules in
    let why = c.in_err-write_out.field-0.0 in
    let p = err_from_is_err_and c.from_residual.result c.from_residual.ensures.1 in
    rw (p.1, p.2) (kept_written contents g.S.Session.step g.S.Session.keeps_together g.S.Session.fails g.S.Session.settles g.S.Session.breaks_off g.S.Session.moment a b c.args.session.now new c.args.answers.now why settled
    (subst (λ (l : List ℕ). WritesPrefix contents moment a b l why) c.as_slice.ensures c.in_err-write_out.ensures.err))
