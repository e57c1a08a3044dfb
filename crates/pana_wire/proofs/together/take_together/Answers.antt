-- Some lines more are answered, and what comes behind the last is held.
use Rattle.std.proofs.Common.{rules, ◌≡◌, ℕ, ◌+◌, List, [], ◌++◌, refl, sym, ap, ◌∙◌, append_assoc, arith}
use Rattle.std.proofs.lemmas.Result.{err_from_is_err_and}
use Rattle.pana_wire.specs.Lines.{ended, unended}
use Rattle.pana_wire.specs.inner.Rounds.{IsCut}
use Rattle.pana_wire.proofs.Cut.{cut_done, many_none}
use Rattle.pana_wire.proofs.Groups.{none_next, next_then, next_same, breaks_after, ends_same}
use Rattle.pana_wire.proofs.Lines.{ended_many, held_then}
use Rattle.pana_wire.proofs.together.take_together.Goals as goal

-- lines behind others
cut_then : (begun piece : List ℕ) (lines more : List (List ℕ)) (now later rest left : List ℕ) → IsCut begun piece lines now rest → IsCut now rest more later left → IsCut begun piece (lines ++ more) later left
cut_then begun piece lines more now later rest left one two = record {
  ends = one.ends ∙ ap (λ (ls : List (List ℕ)). lines ++ ls) two.ends ∙ sym (append_assoc lines more (ended later left));
  left = one.left ∙ two.left;
}

pub loop-end-init : goal.loop-end-init
loop-end-init g c = record {
  goes = λ begun is. ([], begun, record { ends = refl; left = refl }, is, none_next g.W.Write.contents g.S.Session.step g.S.Session.keeps_together g.S.Session.fails g.S.Session.settles g.S.Session.breaks_off g.S.Session.moment c.args.writer.now c.args.session.now c.args.answers.now);
  lines = λ begun now. omega (arith, ended_many begun now c.args.piece.now);
  calls = search rules;
  few = search rules;
  works = search rules;
  flushed = λ so. so;
}

pub loop-end-preserved : goal.loop-end-preserved
loop-end-preserved g c =
    let so = c.loop-end.invariant in
    let rest = c.loop-end.rest.now in
    let taken = c.in_ok-taken.taken in
    let left = taken.rest.now in
    let few = c.in_ok-taken.ensures.few in
    let calls : c.and-served.result.calls ≡ c.loop-end.served.calls + taken.served.calls = ap (λ s. s.calls) c.and-served.ensures in
    let lines : c.and-served.result.lines ≡ c.loop-end.served.lines + taken.served.lines = ap (λ s. s.lines) c.and-served.ensures in
    record {
      goes = λ begun is.
          let (ls, now, cut, held, goes) = so.goes begun is in
          let (more, later, next, holds, far) = c.in_ok-taken.ensures.ok now held in (
            ls ++ more,
            later,
            cut_then begun c.args.piece.now ls more now later rest left cut next,
            holds,
            next_same g.W.Write.contents g.S.Session.step g.S.Session.keeps_together g.S.Session.fails g.S.Session.settles g.S.Session.breaks_off g.S.Session.moment c.args.writer.now c.take_some.new.writer c.args.session.now c.take_some.new.session c.args.answers.now c.take_some.new.answers
                (ls ++ more) (ls ++ more) (c.loop-end.served.calls + taken.served.calls) c.and-served.result.calls refl calls
                (next_then g.W.Write.contents g.S.Session.step g.S.Session.keeps_together g.S.Session.fails g.S.Session.settles g.S.Session.breaks_off g.S.Session.moment c.args.writer.now c.loop-end.writer c.take_some.new.writer c.args.session.now c.loop-end.session c.take_some.new.session c.args.answers.now c.loop-end.answers c.take_some.new.answers
                ls more c.loop-end.served.calls taken.served.calls goes far),
          );
      lines = λ begun now. omega (arith, lines, so.lines begun now, c.in_ok-taken.ensures.lines now now);
      calls = omega (arith, calls, lines, few.0, so.calls);
      few = omega (arith, lines, few.1, so.few);
      works = c.in_ok-taken.ensures.works;
      flushed = λ begun. c.in_ok-taken.ensures.flushed (so.flushed begun);
    }

pub returns-in_err-taken-clause-fault : goal.returns-in_err-taken-clause-fault
returns-in_err-taken-clause-fault g c =
    let rest = c.loop-end.rest.now in
    let piece = c.args.piece.now in
    let fault = c.in_err-taken.field-0.0 in
    let p = err_from_is_err_and c.from_residual.result c.from_residual.ensures.1 in
    rw (p.1, p.2) (λ begun is.
    let (ls, now, cut, held, goes) = c.loop-end.invariant.goes begun is in
    ends_same g.W.Write.contents g.S.Session.step g.S.Session.keeps_together g.S.Session.fails g.S.Session.settles g.S.Session.breaks_off g.S.Session.moment c.args.writer.now c.take_some.new.writer c.args.session.now c.take_some.new.session c.args.answers.now (ls ++ ended now rest) (ended begun piece) fault cut.ends
    (breaks_after g.W.Write.contents g.S.Session.step g.S.Session.keeps_together g.S.Session.fails g.S.Session.settles g.S.Session.breaks_off g.S.Session.moment c.args.writer.now c.loop-end.writer c.take_some.new.writer c.args.session.now c.loop-end.session c.take_some.new.session c.args.answers.now c.loop-end.answers ls (ended now rest) c.loop-end.served.calls fault
    goes (c.in_err-taken.ensures.fault now held)))

pub returns-clause-ok : goal.returns-clause-ok
returns-clause-ok g c begun is =
    let (ls, now, cut, held, goes) = c.loop-end.invariant.goes begun is in
    let calls = c.loop-end.served.calls in
    next_same g.W.Write.contents g.S.Session.step g.S.Session.keeps_together g.S.Session.fails g.S.Session.settles g.S.Session.breaks_off g.S.Session.moment c.args.writer.now c.loop-end.writer c.args.session.now c.loop-end.session c.args.answers.now c.loop-end.answers ls (ended begun c.args.piece.now) calls calls
    (cut_done begun c.args.piece.now ls now c.loop-end.rest.now cut (sym c.end_of_line.ensures ∙ c.in_default.is)).0 refl goes

pub returns-clause-held : goal.returns-clause-held
returns-clause-held g c begun is =
    let rest = c.loop-end.rest.now in
    let (ls, now, cut, held, goes) = c.loop-end.invariant.goes begun is in
    held_then c.loop-end.held now rest (unended begun c.args.piece.now) _ held c.extend.ensures (cut_done begun c.args.piece.now ls now rest cut (sym c.end_of_line.ensures ∙ c.in_default.is)).1

pub returns-clause-lines : goal.returns-clause-lines
returns-clause-lines g c begun =
    omega (arith, c.loop-end.invariant.lines begun [], many_none [] c.loop-end.rest.now (sym c.end_of_line.ensures ∙ c.in_default.is))
