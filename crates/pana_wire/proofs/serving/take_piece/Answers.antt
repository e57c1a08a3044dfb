-- The lines are answered, and then what is held is written.
use Rattle.std.proofs.Common.{◌+◌, [], ◌++◌, refl, sym, append-nil, arith}
use Rattle.std.proofs.lemmas.Result.{err_from_is_err_and}
use Rattle.pana_wire.specs.Lines.{ended}
use Rattle.pana_wire.proofs.Groups.{next_then, next_same, sent, breaks_after, ends_same, kept_breaks}
use Rattle.pana_wire.proofs.serving.take_piece.Goals as goal

pub returns-in_err-served-clause-fault : goal.returns-in_err-served-clause-fault
returns-in_err-served-clause-fault g c =
    let p = err_from_is_err_and c.from_residual.result c.from_residual.ensures.1 in
    rw (p.1, p.2) c.in_err-served.ensures.fault

pub returns-in_err-send-clause-fault : goal.returns-in_err-send-clause-fault
returns-in_err-send-clause-fault g c =
    let fault = c.in_err-send.field-0.0 in
    let p = err_from_is_err_and c.from_residual-in_err-send.result c.from_residual-in_err-send.ensures.1 in
    rw (p.1, p.2) (λ begun is.
    let lines = ended begun c.args.piece.now in
    ends_same g.W.Write.contents g.S.Session.step g.S.Session.keeps_together g.S.Session.fails g.S.Session.settles g.S.Session.breaks_off g.S.Session.moment c.args.writer.now c.send.new.writer c.args.session.now c.send.new.session c.args.answers.now (lines ++ []) lines fault (sym (append-nil lines))
    (breaks_after g.W.Write.contents g.S.Session.step g.S.Session.keeps_together g.S.Session.fails g.S.Session.settles g.S.Session.breaks_off g.S.Session.moment c.args.writer.now c.take_ended.new.writer c.send.new.writer c.args.session.now c.take_ended.new.session c.send.new.session c.args.answers.now c.take_ended.new.answers lines [] c.in_ok-served.served.calls fault
    (c.in_ok-served.ensures.ok begun is)
    (kept_breaks g.W.Write.contents g.S.Session.step g.S.Session.keeps_together g.S.Session.fails g.S.Session.settles g.S.Session.breaks_off g.S.Session.moment c.take_ended.new.writer c.send.new.writer c.take_ended.new.session c.send.new.session c.take_ended.new.answers [] fault c.in_err-send.ensures.err)))

pub returns-clause-ok : goal.returns-clause-ok
returns-clause-ok g c begun is =
    let lines = ended begun c.args.piece.now in
    let calls = c.in_ok-served.served.calls in
    next_same g.W.Write.contents g.S.Session.step g.S.Session.keeps_together g.S.Session.fails g.S.Session.settles g.S.Session.breaks_off g.S.Session.moment c.args.writer.now c.send.new.writer c.args.session.now c.send.new.session c.args.answers.now [] (lines ++ []) lines (calls + 0) calls (sym (append-nil lines)) (omega arith)
    (next_then g.W.Write.contents g.S.Session.step g.S.Session.keeps_together g.S.Session.fails g.S.Session.settles g.S.Session.breaks_off g.S.Session.moment c.args.writer.now c.take_ended.new.writer c.send.new.writer c.args.session.now c.take_ended.new.session c.send.new.session c.args.answers.now c.take_ended.new.answers [] lines [] calls 0
    (c.in_ok-served.ensures.ok begun is)
    (sent g.W.Write.contents g.S.Session.step g.S.Session.keeps_together g.S.Session.fails g.S.Session.settles g.S.Session.breaks_off g.S.Session.moment c.take_ended.new.writer c.send.new.writer c.take_ended.new.session c.send.new.session c.take_ended.new.answers [] refl c.in_ok-send.ensures.ok))
