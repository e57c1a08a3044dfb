-- What is held is the last line, if anything is.
use Rattle.std.proofs.Common.{◌≡◌, ℕ, ◌+◌, ◌==◌, false, true, List, [], ◌∷◌, length, refl, sym, ap, subst, ◌∙◌, arith}
use Rattle.std.proofs.lemmas.Result.{err_from_is_err_and}
use Rattle.pana_wire.specs.Lines.{last_line}
use Rattle.pana_wire.specs.inner.Progress.{Advances}
use Rattle.pana_wire.proofs.Groups.{none_next, next_then, next_same, sent, breaks_after, ends_same, kept_breaks}
use Rattle.pana_wire.proofs.Lines.{held_none, held_some}
use Rattle.pana_wire.proofs.serving.finish.Goals as goal

pub returns-in_err-last-clause-fault : goal.returns-in_err-last-clause-fault
returns-in_err-last-clause-fault g c =
    let fault = c.in_err-last.field-0.0 in
    let p = err_from_is_err_and c.from_residual.result c.from_residual.ensures.1 in
    rw (p.1, p.2) (λ line is.
    let some : (length c.args.held.now == 0) ≡ false = sym c.is_empty.ensures ∙ c.if-is_empty.false in
    ends_same g.W.Write.contents g.S.Session.step g.S.Session.keeps_together g.S.Session.fails g.S.Session.settles g.S.Session.breaks_off g.S.Session.moment c.args.writer.now c.answer.new.writer c.args.session.now c.answer.new.session c.args.answers.now (line ∷ []) (last_line line) fault (held_some line c.args.held.now is some)
    (c.in_err-last.ensures.fault line (c.as_slice.ensures ∙ is)))

pub returns-in_err-send-clause-fault : goal.returns-in_err-send-clause-fault
returns-in_err-send-clause-fault g c =
    let fault = c.in_err-send.field-0.0 in
    let p = err_from_is_err_and c.from_residual-in_err-send.result c.from_residual-in_err-send.ensures.1 in
    rw (p.1, p.2) (λ line is.
    let some : (length c.args.held.now == 0) ≡ false = sym c.is_empty.ensures ∙ c.if-is_empty.false in
    ends_same g.W.Write.contents g.S.Session.step g.S.Session.keeps_together g.S.Session.fails g.S.Session.settles g.S.Session.breaks_off g.S.Session.moment c.args.writer.now c.send.new.writer c.args.session.now c.send.new.session c.args.answers.now (line ∷ []) (last_line line) fault (held_some line c.args.held.now is some)
    (breaks_after g.W.Write.contents g.S.Session.step g.S.Session.keeps_together g.S.Session.fails g.S.Session.settles g.S.Session.breaks_off g.S.Session.moment c.args.writer.now c.answer.new.writer c.send.new.writer c.args.session.now c.answer.new.session c.send.new.session c.args.answers.now c.answer.new.answers (line ∷ []) [] c.in_ok-last.last.calls fault
    (c.in_ok-last.ensures.ok line (c.as_slice.ensures ∙ is))
    (kept_breaks g.W.Write.contents g.S.Session.step g.S.Session.keeps_together g.S.Session.fails g.S.Session.settles g.S.Session.breaks_off g.S.Session.moment c.answer.new.writer c.send.new.writer c.answer.new.session c.send.new.session c.answer.new.answers [] fault c.in_err-send.ensures.err)))

pub returns-clause-ok : goal.returns-clause-ok
returns-clause-ok g c line is =
    let calls = c.in_ok-last.last.calls in
    let some : (length c.args.held.now == 0) ≡ false = sym c.is_empty.ensures ∙ c.if-is_empty.false in
    next_same g.W.Write.contents g.S.Session.step g.S.Session.keeps_together g.S.Session.fails g.S.Session.settles g.S.Session.breaks_off g.S.Session.moment c.args.writer.now c.send.new.writer c.args.session.now c.send.new.session c.args.answers.now [] (line ∷ []) (last_line line) (calls + 0) calls (held_some line c.args.held.now is some) (omega arith)
    (next_then g.W.Write.contents g.S.Session.step g.S.Session.keeps_together g.S.Session.fails g.S.Session.settles g.S.Session.breaks_off g.S.Session.moment c.args.writer.now c.answer.new.writer c.send.new.writer c.args.session.now c.answer.new.session c.send.new.session c.args.answers.now c.answer.new.answers [] (line ∷ []) [] calls 0
    (c.in_ok-last.ensures.ok line (c.as_slice.ensures ∙ is))
    (sent g.W.Write.contents g.S.Session.step g.S.Session.keeps_together g.S.Session.fails g.S.Session.settles g.S.Session.breaks_off g.S.Session.moment c.answer.new.writer c.send.new.writer c.answer.new.session c.send.new.session c.answer.new.answers [] refl c.in_ok-send.ensures.ok))

pub returns-clause-lines : goal.returns-clause-lines
returns-clause-lines g c line is =
    let some : (length c.args.held.now == 0) ≡ false = sym c.is_empty.ensures ∙ c.if-is_empty.false in
    c.in_ok-last.ensures.few.1 ∙ ap length (sym (held_some line c.args.held.now is some))

pub returns-then-is_empty-clause-ok : goal.returns-then-is_empty-clause-ok
returns-then-is_empty-clause-ok g c line is =
    let none : (length c.args.held.now == 0) ≡ true = sym c.is_empty.ensures ∙ c.if-is_empty.true in
    let same : last_line line ≡ [] = ap last_line (held_none line c.args.held.now is none) in
    next_same g.W.Write.contents g.S.Session.step g.S.Session.keeps_together g.S.Session.fails g.S.Session.settles g.S.Session.breaks_off g.S.Session.moment c.args.writer.now c.args.writer.now c.args.session.now c.args.session.now c.args.answers.now [] [] (last_line line) 0 0 same refl
    (subst (λ (q : List ℕ). Advances g.W.Write.contents g.S.Session.step g.S.Session.keeps_together g.S.Session.fails g.S.Session.settles g.S.Session.breaks_off g.S.Session.moment c.args.writer.now c.args.writer.now c.args.session.now c.args.session.now c.args.answers.now q [] 0) c.requires.empty
    (none_next g.W.Write.contents g.S.Session.step g.S.Session.keeps_together g.S.Session.fails g.S.Session.settles g.S.Session.breaks_off g.S.Session.moment c.args.writer.now c.args.session.now c.args.answers.now))

pub returns-then-is_empty-clause-lines : goal.returns-then-is_empty-clause-lines
returns-then-is_empty-clause-lines g c line is =
    let none : (length c.args.held.now == 0) ≡ true = sym c.is_empty.ensures ∙ c.if-is_empty.true in
    ap length (sym (ap last_line (held_none line c.args.held.now is none)))
