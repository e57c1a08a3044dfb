-- A round of lines, or one line.
use Rattle.std.proofs.Common.{◌≡◌, ℕ, ◌+◌, ◌-◌, ◌==◌, List, [], ◌∷◌, ◌++◌, length, take, drop, position, Some, refl, arith}
use Rattle.std.proofs.lemmas.Result.{err_from_is_err_and}
use Rattle.pana_wire.specs.Lines.{ended}
use Rattle.pana_wire.specs.inner.Rounds.{IsCut}
use Rattle.pana_wire.proofs.Cut.{cut_next, many_next}
use Rattle.pana_wire.proofs.Groups.{breaks_more, ends_same}
use Rattle.pana_wire.proofs.together.take_some.Goals as goal

-- the first line of a piece
cut_one : (begun piece : List ℕ) (end : ℕ) → position (λ (b : ℕ). b == 10) piece ≡ Some end → IsCut begun piece ((begun ++ take end piece) ∷ []) [] (take (length piece - (end + 1)) (drop (end + 1) piece))
cut_one begun piece end found = cut_next begun piece [] begun piece end (record { ends = refl; left = refl }) found

pub returns-in_err-served-clause-fault : goal.returns-in_err-served-clause-fault
returns-in_err-served-clause-fault g c =
    let piece = c.args.piece.now in
    let end = c.args.end in
    let later = take (length piece - (end + 1)) (drop (end + 1) piece) in
    let fault = c.in_err-served.field-0.0 in
    let p = err_from_is_err_and c.from_residual.result c.from_residual.ensures.1 in
    rw (p.1, p.2) (λ begun is.
    let line = begun ++ take end piece in
    ends_same g.W.Write.contents g.S.Session.step g.S.Session.keeps_together g.S.Session.fails g.S.Session.settles g.S.Session.breaks_off g.S.Session.moment c.args.writer.now c.take_line.new.writer c.args.session.now c.take_line.new.session c.args.answers.now ((line ∷ []) ++ ended [] later) (ended begun piece) fault (cut_one begun piece end c.requires.end).ends
    (breaks_more g.W.Write.contents g.S.Session.step g.S.Session.keeps_together g.S.Session.fails g.S.Session.settles g.S.Session.breaks_off g.S.Session.moment c.args.writer.now c.take_line.new.writer c.args.session.now c.take_line.new.session c.args.answers.now (line ∷ []) (ended [] later) fault (c.in_err-served.ensures.fault begun is)))

pub returns-in_default-clause-ok : goal.returns-in_default-clause-ok
returns-in_default-clause-ok g c begun is =
    let piece = c.args.piece.now in
    let end = c.args.end in
    ((begun ++ take end piece) ∷ [], [], cut_one begun piece end c.requires.end, c.in_ok-served.ensures.held, c.in_ok-served.ensures.ok begun is)

pub returns-in_default-clause-lines : goal.returns-in_default-clause-lines
returns-in_default-clause-lines g c begun now = omega (arith, c.in_ok-served.ensures.few.1, many_next begun now c.args.piece.now c.args.end c.requires.end)

pub returns-in_err-served-2-clause-fault : goal.returns-in_err-served-2-clause-fault
returns-in_err-served-2-clause-fault g c =
    let piece = c.args.piece.now in
    let fault = c.in_err-served-2.field-0.0 in
    let p = err_from_is_err_and c.from_residual-in_err-served-2.result c.from_residual-in_err-served-2.ensures.1 in
    rw (p.1, p.2) (λ begun is.
    let read = c.gather-rest.ensures.read begun is in
    let later = ended read.now c.gather-rest.result.now in
    ends_same g.W.Write.contents g.S.Session.step g.S.Session.keeps_together g.S.Session.fails g.S.Session.settles g.S.Session.breaks_off g.S.Session.moment c.args.writer.now c.answer_round.new.writer c.args.session.now c.answer_round.new.session c.args.answers.now (read.lines ++ later) (ended begun piece) fault read.cut.ends
    (breaks_more g.W.Write.contents g.S.Session.step g.S.Session.keeps_together g.S.Session.fails g.S.Session.settles g.S.Session.breaks_off g.S.Session.moment c.args.writer.now c.answer_round.new.writer c.args.session.now c.answer_round.new.session c.args.answers.now read.lines later fault (c.in_err-served-2.ensures.fault read.lines read.read)))

pub returns-clause-ok : goal.returns-clause-ok
returns-clause-ok g c begun is =
    let read = c.gather-rest.ensures.read begun is in
    (read.lines, read.now, read.cut, read.holds, c.in_ok-served-2.ensures.ok read.lines read.read)
