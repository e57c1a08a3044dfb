-- What was made is answered: all lines, or the first of them.
use Rattle.std.proofs.Common.{Bool, List, ℕ, ◌++◌, sym, subst}
use Rattle.std.proofs.lemmas.Result.{err_from_is_err_and}
use Rattle.pana_wire.specs.inner.Progress.{Advances, Holds, IsOutFault, Puts, Releases}
use Rattle.pana_wire.proofs.Groups.{lines_put, some_breaks, some_held, texts_held}
use Rattle.pana_wire.proofs.together.answer_round.Goals as goal

pub returns-in_err-put_texts-in-Ok-clause-fault : goal.returns-in_err-put_texts-in-Ok-clause-fault
returns-in_err-put_texts-in-Ok-clause-fault g c =
    let old = c.args.session.now in
    let mid = c.make_all.new.session in
    let texts = c.make_all.new.texts.items in
    let p = err_from_is_err_and c.from_residual.result c.from_residual.ensures.1 in
    rw (p.1, p.2) (λ lines read.
    let kept = subst (λ (t : List ℕ). Holds g.W.Write.contents g.S.Session.step g.S.Session.keeps_together g.S.Session.fails g.S.Session.settles g.S.Session.breaks_off g.S.Session.moment c.args.writer.now c.put_texts.new.writer mid c.put_texts.new.session (c.args.answers.now ++ t) c.in_err-put_texts-in-Ok.field-0.0) c.as_slice.ensures.value c.in_err-put_texts-in-Ok.ensures.err in
    texts_held g.W.Write.contents g.S.Session.step g.S.Session.keeps_together g.S.Session.fails g.S.Session.settles g.S.Session.breaks_off g.S.Session.moment c.args.writer.now c.put_texts.new.writer old mid c.put_texts.new.session c.args.answers.now lines texts _ c.in_err-put_texts-in-Ok.field-0.0 (c.in-Ok.ensures.ok lines read) kept)

pub returns-in_err-release_texts-in-Err-clause-fault : goal.returns-in_err-release_texts-in-Err-clause-fault
returns-in_err-release_texts-in-Err-clause-fault g c =
    let old = c.args.session.now in
    let mid = c.make_all.new.session in
    let texts = c.make_all.new.texts.items in
    let why = c.in-Err.fault in
    let fault = c.in_err-release_texts-in-Err.field-0.0 in
    let p = err_from_is_err_and c.from_residual-in_err-release_texts-in-Err.result c.from_residual-in_err-release_texts-in-Err.ensures.1 in
    rw (p.1, p.2) (λ lines read.
    let kept = subst (λ (t : List ℕ). Holds g.W.Write.contents g.S.Session.step g.S.Session.keeps_together g.S.Session.fails g.S.Session.settles g.S.Session.breaks_off g.S.Session.moment c.args.writer.now c.release_texts.new.writer mid c.release_texts.new.session (c.args.answers.now ++ t) fault) c.as_slice-in-Err.ensures.value c.in_err-release_texts-in-Err.ensures.err in
    some_held g.W.Write.contents g.S.Session.step g.S.Session.keeps_together g.S.Session.fails g.S.Session.settles g.S.Session.breaks_off g.S.Session.moment c.requires.together c.args.writer.now c.release_texts.new.writer old mid c.release_texts.new.session c.args.answers.now lines texts why (c.in-Err.ensures.fault lines read) fault kept)

pub returns-in-Err-clause-fault : goal.returns-in-Err-clause-fault
returns-in-Err-clause-fault g c lines read =
    let old = c.args.session.now in
    let mid = c.make_all.new.session in
    let texts = c.make_all.new.texts.items in
    let out = subst (λ (t : List ℕ). Releases g.W.Write.contents g.S.Session.step g.S.Session.keeps_together g.S.Session.fails g.S.Session.settles g.S.Session.breaks_off g.S.Session.moment c.args.writer.now c.release_texts.new.writer mid c.release_texts.new.session (c.args.answers.now ++ t)) c.as_slice-in-Err.ensures.value c.in_ok-release_texts-in-Err.ensures.ok in
    some_breaks g.W.Write.contents g.S.Session.step g.S.Session.keeps_together g.S.Session.fails g.S.Session.settles g.S.Session.breaks_off g.S.Session.moment c.requires.together c.args.writer.now c.release_texts.new.writer old mid c.release_texts.new.session c.args.answers.now lines texts c.in-Err.fault (c.in-Err.ensures.fault lines read) out

pub returns-in-Err-clause-out : goal.returns-in-Err-clause-out
returns-in-Err-clause-out g c = subst (λ (failed : Bool). IsOutFault failed c.in-Err.fault) (sym c.in_ok-release_texts-in-Err.ensures.works) c.in-Err.ensures.out

pub returns-clause-ok : goal.returns-clause-ok
returns-clause-ok g c lines read =
    let old = c.args.session.now in
    let mid = c.make_all.new.session in
    let texts = c.make_all.new.texts.items in
    let puts = subst (λ (t : List ℕ). Puts g.W.Write.contents g.S.Session.step g.S.Session.keeps_together g.S.Session.fails g.S.Session.settles g.S.Session.breaks_off g.S.Session.moment c.args.writer.now c.put_texts.new.writer mid c.put_texts.new.session c.args.answers.now c.put_texts.new.answers t) c.as_slice.ensures.value c.in_ok-put_texts-in-Ok.ensures.ok in
    subst (λ (n : ℕ). Advances g.W.Write.contents g.S.Session.step g.S.Session.keeps_together g.S.Session.fails g.S.Session.settles g.S.Session.breaks_off g.S.Session.moment c.args.writer.now c.put_texts.new.writer old c.put_texts.new.session c.args.answers.now c.put_texts.new.answers lines n) (sym c.served-served.ensures.calls)
    (lines_put g.W.Write.contents g.S.Session.step g.S.Session.keeps_together g.S.Session.fails g.S.Session.settles g.S.Session.breaks_off g.S.Session.moment c.args.writer.now c.put_texts.new.writer old mid c.put_texts.new.session c.args.answers.now c.put_texts.new.answers lines texts _ (c.in-Ok.ensures.ok lines read) puts)
