-- Where one of the writes fails, what was written is a prefix of the line.
use Rattle.std.proofs.Common.{[], ◌∷◌}
use Rattle.std.proofs.lemmas.Result.{err_from_is_err_and, on_ok_weaker, IfErr-weaker}
use Rattle.pana_wire.specs.inner.Writing.{Writes}
use Rattle.pana_wire.proofs.Prefixes.{writes_both, breaks_first, breaks_second}
use Rattle.pana_wire.proofs.flushing.write_line.Goals as goal

pub returns-in_err-write_whole-clause-err : goal.returns-in_err-write_whole-clause-err
returns-in_err-write_whole-clause-err g c =
    let contents = g.W.Write.contents in
    let moment = g.S.Session.moment c.args.session.now in
    let old = c.args.writer.now in
    let new = c.write_whole.new.writer in
    let p = err_from_is_err_and c.from_residual.result c.from_residual.ensures.1 in
    rw (p.1, p.2) (breaks_first contents moment old new c.args.text.now (10 ∷ []) _ c.in_err-write_whole.ensures.err)

pub returns-clause-ok : goal.returns-clause-ok
returns-clause-ok g c =
    let contents = g.W.Write.contents in
    let moment = g.S.Session.moment c.args.session.now in
    let old = c.args.writer.now in
    let mid = c.write_whole.new.writer in
    let text : Writes contents moment old mid c.args.text.now = c.in_ok-write_whole.ensures.ok in
    on_ok_weaker c.write_out.result (λ last. writes_both contents moment old mid c.write_out.new.writer c.args.text.now (10 ∷ []) text last) c.write_out.ensures.ok

pub returns-clause-err : goal.returns-clause-err
returns-clause-err g c =
    let contents = g.W.Write.contents in
    let moment = g.S.Session.moment c.args.session.now in
    let old = c.args.writer.now in
    let mid = c.write_whole.new.writer in
    let text : Writes contents moment old mid c.args.text.now = c.in_ok-write_whole.ensures.ok in
    IfErr-weaker c.write_out.result _ _ (λ why last. breaks_second contents moment old mid c.write_out.new.writer c.args.text.now (10 ∷ []) why text last) c.write_out.ensures.err
