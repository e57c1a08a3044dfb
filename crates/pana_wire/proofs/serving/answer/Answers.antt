-- A line is answered by its fault, or by the answer of its call; where that is lost, what was held before is written.
use Rattle.std.proofs.Common.{sym, ap, ◌∙◌}
use Rattle.std.proofs.lemmas.Result.{err_from_is_err_and}
use Rattle.pana_wire.specs.Line.{line_says}
use Rattle.pana_wire.specs.Session.{AnswersLine}
use Rattle.pana_wire.proofs.Groups.{line_put, put_breaks, lost_held, lost_breaks}
use Rattle.pana_wire.proofs.Lines.{says_cut}
use Rattle.pana_wire.proofs.Prefixes.{said_line, faulty_line}
use Rattle.pana_wire.proofs.serving.answer.Goals as goal

pub returns-in_err-put-in-Err-clause-fault : goal.returns-in_err-put-in-Err-clause-fault
returns-in_err-put-in-Err-clause-fault g c =
    let old = c.args.session.now in
    let p = err_from_is_err_and c.from_residual.result c.from_residual.ensures.1 in
    rw (p.1, p.2) (λ line is.
    let answers : AnswersLine g.S.Session.step old line c.as_bytes.result.now old 0 = faulty_line g.S.Session.step old c.args.held.now line c.as_bytes.result.now c.in-Err.fault is c.in-Err.ensures.exact c.in-Err.ensures.memory (c.as_bytes.ensures.value ∙ c.answer.ensures) in
    put_breaks g.W.Write.contents g.S.Session.step g.S.Session.keeps_together g.S.Session.fails g.S.Session.settles g.S.Session.breaks_off g.S.Session.moment c.args.writer.now c.put.new.writer old old c.put.new.session c.args.answers.now line c.as_bytes.result.now 0 c.in_err-put-in-Err.field-0.0 answers c.in_err-put-in-Err.ensures.err)

pub returns-in-Err-clause-ok : goal.returns-in-Err-clause-ok
returns-in-Err-clause-ok g c line is =
    let old = c.args.session.now in
    let answers : AnswersLine g.S.Session.step old line c.as_bytes.result.now old 0 = faulty_line g.S.Session.step old c.args.held.now line c.as_bytes.result.now c.in-Err.fault is c.in-Err.ensures.exact c.in-Err.ensures.memory (c.as_bytes.ensures.value ∙ c.answer.ensures) in
    line_put g.W.Write.contents g.S.Session.step g.S.Session.keeps_together g.S.Session.fails g.S.Session.settles g.S.Session.breaks_off g.S.Session.moment c.args.writer.now c.put.new.writer old old c.put.new.session c.args.answers.now c.put.new.answers line c.as_bytes.result.now 0 answers c.in_ok-put-in-Err.ensures.ok

pub returns-clause-ok : goal.returns-clause-ok
returns-clause-ok g c line is =
    let old = c.args.session.now in
    let mid = c.make.new.session in
    let text = c.as_slice.result.now in
    let (answer, done, says) = c.in-Ok-make.ensures.answer in
    let answers : AnswersLine g.S.Session.step old line text mid 1 = said_line g.S.Session.step old c.args.held.now line c.in-Ok.message text mid is c.in-Ok.ensures.exact (answer, done, c.as_slice.ensures.value ∙ says) in
    line_put g.W.Write.contents g.S.Session.step g.S.Session.keeps_together g.S.Session.fails g.S.Session.settles g.S.Session.breaks_off g.S.Session.moment c.args.writer.now c.put-in-Ok-make.new.writer old mid c.put-in-Ok-make.new.session c.args.answers.now c.put-in-Ok-make.new.answers line text 1 answers c.in_ok-put-in-Ok-make.ensures.ok

pub returns-in_err-put-in-Ok-make-clause-fault : goal.returns-in_err-put-in-Ok-make-clause-fault
returns-in_err-put-in-Ok-make-clause-fault g c =
    let old = c.args.session.now in
    let mid = c.make.new.session in
    let text = c.as_slice.result.now in
    let (answer, done, says) = c.in-Ok-make.ensures.answer in
    let p = err_from_is_err_and c.from_residual-in_err-put-in-Ok-make.result c.from_residual-in_err-put-in-Ok-make.ensures.1 in
    rw (p.1, p.2) (λ line is.
    let answers : AnswersLine g.S.Session.step old line text mid 1 = said_line g.S.Session.step old c.args.held.now line c.in-Ok.message text mid is c.in-Ok.ensures.exact (answer, done, c.as_slice.ensures.value ∙ says) in
    put_breaks g.W.Write.contents g.S.Session.step g.S.Session.keeps_together g.S.Session.fails g.S.Session.settles g.S.Session.breaks_off g.S.Session.moment c.args.writer.now c.put-in-Ok-make.new.writer old mid c.put-in-Ok-make.new.session c.args.answers.now line text 1 c.in_err-put-in-Ok-make.field-0.0 answers c.in_err-put-in-Ok-make.ensures.err)

pub returns-in_err-release-in-Err-make-clause-fault : goal.returns-in_err-release-in-Err-make-clause-fault
returns-in_err-release-in-Err-make-clause-fault g c =
    let old = c.args.session.now in
    let mid = c.make.new.session in
    let p = err_from_is_err_and c.from_residual-in_err-release-in-Err-make.result c.from_residual-in_err-release-in-Err-make.ensures.1 in
    rw (p.1, p.2) (λ line is.
    lost_held g.W.Write.contents g.S.Session.step g.S.Session.keeps_together g.S.Session.fails g.S.Session.settles g.S.Session.breaks_off g.S.Session.moment c.args.writer.now c.release.new.writer old mid c.release.new.session c.args.answers.now line c.in-Ok.message c.in-Err-make.fault c.in_err-release-in-Err-make.field-0.0
    (sym (says_cut line) ∙ ap line_says (sym is) ∙ c.in-Ok.ensures.exact) c.in-Err-make.ensures.fault c.in_err-release-in-Err-make.ensures.err)

pub returns-in-Err-make-clause-fault : goal.returns-in-Err-make-clause-fault
returns-in-Err-make-clause-fault g c line is =
    let old = c.args.session.now in
    let mid = c.make.new.session in
    lost_breaks g.W.Write.contents g.S.Session.step g.S.Session.keeps_together g.S.Session.fails g.S.Session.settles g.S.Session.breaks_off g.S.Session.moment c.args.writer.now c.release.new.writer old mid c.release.new.session c.args.answers.now line c.in-Ok.message c.in-Err-make.fault
    (sym (says_cut line) ∙ ap line_says (sym is) ∙ c.in-Ok.ensures.exact) c.in-Err-make.ensures.fault c.in_ok-release-in-Err-make.ensures.ok
