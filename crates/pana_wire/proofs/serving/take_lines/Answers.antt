-- Each line that ends is answered, and what comes behind the last is held.
use Rattle.std.proofs.Common.{rules, ◌≡◌, ℕ, ◌+◌, [], ◌∷◌, ◌++◌, ◌-◌, ◌==◌, length, take, drop, position, Some, refl, sym, ap, ◌∙◌, arith, length-drop}
use Rattle.std.proofs.lemmas.List.{length-take}
use Rattle.std.proofs.lemmas.Result.{err_from_is_err_and}
use Rattle.pana_wire.specs.Lines.{ended, unended}
use Rattle.pana_wire.proofs.Cut.{cut_next, cut_done, found_within, many_next, many_none}
use Rattle.pana_wire.proofs.Groups.{none_next, next_then, next_same, breaks_after, breaks_more, ends_same}
use Rattle.pana_wire.proofs.Lines.{ended_many, held_then}
use Rattle.pana_wire.proofs.serving.take_lines.Goals as goal

pub loop-end-init : goal.loop-end-init
loop-end-init g c = record {
  goes = λ begun is. ([], begun, record { ends = refl; left = refl }, is, none_next g.W.Write.contents g.S.Session.step g.S.Session.keeps_together g.S.Session.fails g.S.Session.settles g.S.Session.breaks_off g.S.Session.moment c.args.writer.now c.args.session.now c.args.answers.now);
  lines = λ begun now. omega (arith, ended_many begun now c.args.piece.now);
  calls = search rules;
  few = search rules;
  works = search rules;
  flushed = λ so. so;
}

pub loop-end-preserved : goal.loop-end-preserved
loop-end-preserved g c =
    let so = c.loop-end.invariant in
    let rest = c.loop-end.rest.now in
    let end = c.in-Some.end in
    let later = take (length rest - (end + 1)) (drop (end + 1) rest) in
    let found : position (λ (b : ℕ). b == 10) rest ≡ Some end = sym c.end_of_line.ensures ∙ c.in-Some.is in
    let answered = c.in_ok-answered.answered in
    let few = c.in_ok-answered.ensures.few in
    let calls : c.and-served.result.calls ≡ c.loop-end.served.calls + answered.calls = ap (λ s. s.calls) c.and-served.ensures in
    let lines : c.and-served.result.lines ≡ c.loop-end.served.lines + answered.lines = ap (λ s. s.lines) c.and-served.ensures in
    record {
      goes = λ begun is.
          let (ls, now, cut, held, goes) = so.goes begun is in
          let line = now ++ take end rest in (
            ls ++ line ∷ [],
            [],
            cut_next begun c.args.piece.now ls now rest end cut found,
            c.in_ok-answered.ensures.held,
            next_same g.W.Write.contents g.S.Session.step g.S.Session.keeps_together g.S.Session.fails g.S.Session.settles g.S.Session.breaks_off g.S.Session.moment c.args.writer.now c.take_line.new.writer c.args.session.now c.take_line.new.session c.args.answers.now c.take_line.new.answers
                (ls ++ line ∷ []) (ls ++ line ∷ []) (c.loop-end.served.calls + answered.calls) c.and-served.result.calls refl calls
                (next_then g.W.Write.contents g.S.Session.step g.S.Session.keeps_together g.S.Session.fails g.S.Session.settles g.S.Session.breaks_off g.S.Session.moment c.args.writer.now c.loop-end.writer c.take_line.new.writer c.args.session.now c.loop-end.session c.take_line.new.session c.args.answers.now c.loop-end.answers c.take_line.new.answers
                ls (line ∷ []) c.loop-end.served.calls answered.calls goes (c.in_ok-answered.ensures.ok now held)),
          );
      lines = λ begun now. omega (arith, lines, few.1, so.lines begun now, many_next now now rest end found);
      calls = omega (arith, calls, lines, few.0, few.1, so.calls);
      few = omega (arith, lines, few.1, so.few, length-take (length rest - (end + 1)) (drop (end + 1) rest), length-drop (end + 1) rest, (found_within rest end found).1, (found_within rest end found).0);
      works = c.in_ok-answered.ensures.works;
      flushed = λ begun. c.in_ok-answered.ensures.flushed (so.flushed begun);
    }

pub returns-in_err-answered-clause-fault : goal.returns-in_err-answered-clause-fault
returns-in_err-answered-clause-fault g c =
    let rest = c.loop-end.rest.now in
    let end = c.in-Some.end in
    let piece = c.args.piece.now in
    let found : position (λ (b : ℕ). b == 10) rest ≡ Some end = sym c.end_of_line.ensures ∙ c.in-Some.is in
    let fault = c.in_err-answered.field-0.0 in
    let p = err_from_is_err_and c.from_residual.result c.from_residual.ensures.1 in
    rw (p.1, p.2) (λ begun is.
    let (ls, now, cut, held, goes) = c.loop-end.invariant.goes begun is in
    let line = now ++ take end rest in
    let later = take (length rest - (end + 1)) (drop (end + 1) rest) in
    ends_same g.W.Write.contents g.S.Session.step g.S.Session.keeps_together g.S.Session.fails g.S.Session.settles g.S.Session.breaks_off g.S.Session.moment c.args.writer.now c.take_line.new.writer c.args.session.now c.take_line.new.session c.args.answers.now ((ls ++ line ∷ []) ++ ended [] later) (ended begun piece) fault (cut_next begun piece ls now rest end cut found).ends
    (breaks_more g.W.Write.contents g.S.Session.step g.S.Session.keeps_together g.S.Session.fails g.S.Session.settles g.S.Session.breaks_off g.S.Session.moment c.args.writer.now c.take_line.new.writer c.args.session.now c.take_line.new.session c.args.answers.now (ls ++ line ∷ []) (ended [] later) fault
    (breaks_after g.W.Write.contents g.S.Session.step g.S.Session.keeps_together g.S.Session.fails g.S.Session.settles g.S.Session.breaks_off g.S.Session.moment c.args.writer.now c.loop-end.writer c.take_line.new.writer c.args.session.now c.loop-end.session c.take_line.new.session c.args.answers.now c.loop-end.answers ls (line ∷ []) c.loop-end.served.calls fault
    goes (c.in_err-answered.ensures.fault now held))))

pub returns-clause-ok : goal.returns-clause-ok
returns-clause-ok g c begun is =
    let (ls, now, cut, held, goes) = c.loop-end.invariant.goes begun is in
    let calls = c.loop-end.served.calls in
    next_same g.W.Write.contents g.S.Session.step g.S.Session.keeps_together g.S.Session.fails g.S.Session.settles g.S.Session.breaks_off g.S.Session.moment c.args.writer.now c.loop-end.writer c.args.session.now c.loop-end.session c.args.answers.now c.loop-end.answers ls (ended begun c.args.piece.now) calls calls
    (cut_done begun c.args.piece.now ls now c.loop-end.rest.now cut (sym c.end_of_line.ensures ∙ c.in_default.is)).0 refl goes

pub returns-clause-held : goal.returns-clause-held
returns-clause-held g c begun is =
    let rest = c.loop-end.rest.now in
    let (ls, now, cut, held, goes) = c.loop-end.invariant.goes begun is in
    held_then c.loop-end.held now rest (unended begun c.args.piece.now) _ held c.extend.ensures (cut_done begun c.args.piece.now ls now rest cut (sym c.end_of_line.ensures ∙ c.in_default.is)).1

pub returns-clause-lines : goal.returns-clause-lines
returns-clause-lines g c begun =
    omega (arith, c.loop-end.invariant.lines begun [], many_none [] c.loop-end.rest.now (sym c.end_of_line.ensures ∙ c.in_default.is))
