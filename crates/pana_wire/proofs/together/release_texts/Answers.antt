-- What was held is written, and then the texts; a write that fails leaves a prefix of both.
use Rattle.std.proofs.Common.{rules, List, ℕ, ◌++◌, subst}
use Rattle.std.proofs.lemmas.Result.{err_from_is_err_and}
use Rattle.pana_wire.specs.inner.Writing.{Writes, WritesPrefix}
use Rattle.pana_wire.proofs.Groups.{kept_written}
use Rattle.pana_wire.proofs.Prefixes.{writes_both, breaks_first, breaks_second}
use Rattle.pana_wire.proofs.together.release_texts.Goals as goal

pub returns-in_err-write_whole-clause-err : goal.returns-in_err-write_whole-clause-err
returns-in_err-write_whole-clause-err g c =
    let contents = g.W.Write.contents in
    let new = c.settle.new.self in
    let moment = g.S.Session.moment new in
    let a = c.args.writer.now in
    let b = c.write_whole.new.writer in
    let settled : g.S.Session.settles c.args.session.now new = search rules in
    let why = c.in_err-write_whole.field-0.0 in
    let p = err_from_is_err_and c.from_residual.result c.from_residual.ensures.1 in
    rw (p.1, p.2) (kept_written contents g.S.Session.step g.S.Session.keeps_together g.S.Session.fails g.S.Session.settles g.S.Session.breaks_off g.S.Session.moment a b c.args.session.now new (c.args.answers.now ++ c.args.texts.now) why settled
    (breaks_first contents moment a b c.args.answers.now c.args.texts.now why (subst (λ (l : List ℕ). WritesPrefix contents moment a b l why) c.as_slice.ensures c.in_err-write_whole.ensures.err)))

pub returns-in_err-write_out-clause-err : goal.returns-in_err-write_out-clause-err
returns-in_err-write_out-clause-err g c =
    let contents = g.W.Write.contents in
    let new = c.settle.new.self in
    let moment = g.S.Session.moment new in
    let a = c.args.writer.now in
    let b = c.write_whole.new.writer in
    let settled : g.S.Session.settles c.args.session.now new = search rules in
    let first : Writes contents moment a b c.args.answers.now = subst (λ (l : List ℕ). Writes contents moment a b l) c.as_slice.ensures c.in_ok-write_whole.ensures.ok in
    let why = c.in_err-write_out.field-0.0 in
    let p = err_from_is_err_and c.from_residual-in_err-write_out.result c.from_residual-in_err-write_out.ensures.1 in
    rw (p.1, p.2) (kept_written contents g.S.Session.step g.S.Session.keeps_together g.S.Session.fails g.S.Session.settles g.S.Session.breaks_off g.S.Session.moment a c.write_out.new.writer c.args.session.now new (c.args.answers.now ++ c.args.texts.now) why settled
    (breaks_second contents moment a b c.write_out.new.writer c.args.answers.now c.args.texts.now why first c.in_err-write_out.ensures.err))

pub returns-clause-ok : goal.returns-clause-ok
returns-clause-ok g c =
    let contents = g.W.Write.contents in
    let new = c.settle.new.self in
    let moment = g.S.Session.moment new in
    let a = c.args.writer.now in
    let b = c.write_whole.new.writer in
    let settled : g.S.Session.settles c.args.session.now new = search rules in
    let first : Writes contents moment a b c.args.answers.now = subst (λ (l : List ℕ). Writes contents moment a b l) c.as_slice.ensures c.in_ok-write_whole.ensures.ok in
    record { settled = settled; writes = writes_both contents moment a b c.write_out.new.writer c.args.answers.now c.args.texts.now first c.in_ok-write_out.ensures.ok }
