-- Each piece goes on where the last one ended, and at the end what is held is the last line.
use Rattle.std.proofs.Common.{rules, ◌≡◌, ℕ, ◌+◌, ◌<◌, ◌≤◌, List, [], ◌++◌, true, false, length, take, refl, sym, ap, subst, ◌∙◌, append-nil, length-append, arith}
use Rattle.std.proofs.lemmas.Grind.{common_steps}
use Rattle.std.proofs.lemmas.Result.{err_from_is_err_and}
use Rattle.std.proofs.KnownBytes.{Consumes-nil, Consumes-trans, Consumes-kept}
use Rattle.pana_wire.specs.Groups.{AnswersAll, IsPrompt}
use Rattle.pana_wire.specs.Lines.{ended, unended, last_line}
use Rattle.pana_wire.specs.Tap.{has_failed, has_ended, noted, MadeReads}
use Rattle.pana_wire.specs.inner.Progress.{Reaches}
use Rattle.pana_wire.proofs.Ends.{read_nothing, reads_more, failed_is_no_end, byte_is_no_end, none_is_end, out_cause}
use Rattle.pana_wire.proofs.Groups.{begun, all_answered, ends_by, ends_last}
use Rattle.pana_wire.proofs.Lines.{ended_append, unended_append}
use Rattle.pana_wire.proofs.Prompt.{prompt_begun, prompt_more}
use Rattle.pana_wire.proofs.serving.serve_lines.Goals as goal

pub loop-init : goal.loop-init
loop-init g c = record {
  said = ([], Consumes-nil _, (begun g.W.Write.contents g.S.Session.step g.S.Session.keeps_together g.S.Session.fails g.S.Session.settles g.S.Session.breaks_off g.S.Session.moment c.args.writer.now c.args.session.now, prompt_begun g.S.Session.step g.S.Session.settles g.S.Session.moment c.args.session.now c.args.reader.now c.args.writer.now _), c.requires.held, refl);
  empty = c.requires.answers;
  piece = c.requires.piece;
  calls = omega arith;
  few = omega arith;
  reader = c.requires.reader;
  writer = c.requires.writer;
  flushed = λ so. so;
  unended = refl;
  made = search rules;
}

pub returns-in-Err-clause-fault : goal.returns-in-Err-clause-fault
returns-in-Err-clause-fault g c =
    let (input, consumed, (reached, prompt), held, lines) = c.loop.invariant.said in
    record {
      input = input;
      notes = reached.notes;
      reads = Consumes-kept _ _ _ input consumed c.in-Err.ensures.bytes;
      writes = reached.noted;
      ends = (c.loop.served.calls, all_answered g.W.Write.contents g.S.Session.step g.S.Session.keeps_together g.S.Session.fails g.S.Session.settles g.S.Session.breaks_off g.S.Session.moment c.args.writer.now c.loop.writer c.args.session.now (ended [] input) c.loop.session c.loop.served.calls reached);
      cause = (search rules, c.loop.invariant.writer, failed_is_no_end _ _ _ c.loop.invariant.unended c.in-Err.ensures.ended);
      prompt = subst (λ (bytes : List ℕ). IsPrompt g.S.Session.step g.S.Session.settles g.S.Session.moment c.args.reader.now c.read_behind.new.self c.args.writer.now c.args.session.now bytes reached.notes) (append-nil input) (prompt_more g.S.Session.step g.S.Session.settles g.S.Session.moment c.args.session.now c.args.reader.now c.loop.reader c.read_behind.new.self c.args.writer.now c.loop.writer input [] reached.notes [] reached.notes _ c.loop.session c.loop.served.calls prompt c.in-Err.ensures.asked refl refl c.loop.invariant.flushed reached.noted.0 (sym reached.noted.0 ∙ sym (append-nil (noted c.loop.writer))) (all_answered g.W.Write.contents g.S.Session.step g.S.Session.keeps_together g.S.Session.fails g.S.Session.settles g.S.Session.breaks_off g.S.Session.moment c.args.writer.now c.loop.writer c.args.session.now (ended [] input) c.loop.session c.loop.served.calls reached));
    }

pub returns-clause-fault : goal.returns-clause-fault
returns-clause-fault g c =
    let (input, consumed, (reached, prompt), held, lines) = c.loop.invariant.said in
    let all : c.loop.counter ≡ c.args.reads = omega arith in
    record {
      input = input;
      notes = reached.notes;
      reads = consumed;
      writes = reached.noted;
      ends = (c.loop.served.calls, all_answered g.W.Write.contents g.S.Session.step g.S.Session.keeps_together g.S.Session.fails g.S.Session.settles g.S.Session.breaks_off g.S.Session.moment c.args.writer.now c.loop.writer c.args.session.now (ended [] input) c.loop.session c.loop.served.calls reached);
      cause = (c.loop.invariant.reader, c.loop.invariant.writer, c.loop.invariant.unended, subst (λ n. MadeReads n c.args.reader.now c.loop.reader) all c.loop.invariant.made);
      prompt = prompt;
    }

pub returns-in-Err-clause-reads : goal.returns-in-Err-clause-reads
returns-in-Err-clause-reads g c =
    (c.loop.counter + 1, omega arith, reads_more c.args.reader.now.reads c.loop.reader.reads c.read_behind.new.self.reads c.loop.counter c.loop.invariant.made c.read_behind.ensures.count)

pub returns-in_err-last-in-Ok-eq0-clause-reads : goal.returns-in_err-last-in-Ok-eq0-clause-reads
returns-in_err-last-in-Ok-eq0-clause-reads g c =
    (c.loop.counter + 1, omega arith, reads_more c.args.reader.now.reads c.loop.reader.reads c.read_behind.new.self.reads c.loop.counter c.loop.invariant.made c.read_behind.ensures.count)

pub returns-in-Ok-eq0-clause-reads : goal.returns-in-Ok-eq0-clause-reads
returns-in-Ok-eq0-clause-reads g c =
    (c.loop.counter + 1, omega arith, reads_more c.args.reader.now.reads c.loop.reader.reads c.read_behind.new.self.reads c.loop.counter c.loop.invariant.made c.read_behind.ensures.count)

pub returns-in_err-more-in-Ok-clause-reads : goal.returns-in_err-more-in-Ok-clause-reads
returns-in_err-more-in-Ok-clause-reads g c =
    (c.loop.counter + 1, omega arith, reads_more c.args.reader.now.reads c.loop.reader.reads c.read_behind.new.self.reads c.loop.counter c.loop.invariant.made c.read_behind.ensures.count)

pub returns-in_err-last-in-Ok-eq0-clause-fault : goal.returns-in_err-last-in-Ok-eq0-clause-fault
returns-in_err-last-in-Ok-eq0-clause-fault g c =
    let (input, consumed, (reached, prompt), held, lines) = c.loop.invariant.said in
    let line = unended [] input in
    let none : c.in-Ok-eq0.field-0 ≡ 0 = search rules in
    let room : 0 < length c.read_behind.new.buffer = search rules in
    let met : has_ended c.read_behind.new.self ≡ true = none_is_end _ _ c.in-Ok-eq0.field-0 c.read_behind.new.buffer none room c.in-Ok-eq0.ensures.ended in
    let works : has_failed c.read_behind.new.self ≡ false = search rules in
    let fault = c.in_err-last-in-Ok-eq0.field-0.0 in
    let p = err_from_is_err_and c.from_residual.result c.from_residual.ensures.1 in
    rw (p.1, p.2) (
    let broken = c.in_err-last-in-Ok-eq0.ensures.fault line held c.args.writer.now c.args.session.now (ended [] input) c.loop.served.calls (subst (λ (q : List ℕ). Reaches g.W.Write.contents g.S.Session.step g.S.Session.keeps_together g.S.Session.fails g.S.Session.settles g.S.Session.breaks_off g.S.Session.moment c.args.writer.now c.loop.writer c.args.session.now (ended [] input) c.loop.session q c.loop.served.calls) (sym c.loop.invariant.empty) reached) in
    let here = c.in_err-last-in-Ok-eq0.ensures.fault line held c.loop.writer c.loop.session [] 0 (subst (λ (q : List ℕ). Reaches g.W.Write.contents g.S.Session.step g.S.Session.keeps_together g.S.Session.fails g.S.Session.settles g.S.Session.breaks_off g.S.Session.moment c.loop.writer c.loop.writer c.loop.session [] c.loop.session q 0) (sym c.loop.invariant.empty) (begun g.W.Write.contents g.S.Session.step g.S.Session.keeps_together g.S.Session.fails g.S.Session.settles g.S.Session.breaks_off g.S.Session.moment c.loop.writer c.loop.session)) in
    record {
      input = input;
      notes = broken.notes;
      reads = read_nothing _ _ _ input c.read_behind.new.buffer c.in-Ok-eq0.field-0 none consumed c.in-Ok-eq0.ensures.bytes.0;
      writes = broken.noted;
      ends = ends_last g.W.Write.contents g.S.Session.step g.S.Session.keeps_together g.S.Session.fails g.S.Session.settles g.S.Session.breaks_off g.S.Session.moment fault _ c.args.session.now input broken.notes c.finish.new.session met broken.breaks;
      cause = out_cause fault c.args.reads _ _ _ works c.in_err-last-in-Ok-eq0.ensures.out;
      prompt = subst (λ (bytes : List ℕ). IsPrompt g.S.Session.step g.S.Session.settles g.S.Session.moment c.args.reader.now c.read_behind.new.self c.args.writer.now c.args.session.now bytes broken.notes) (append-nil input) (prompt_more g.S.Session.step g.S.Session.settles g.S.Session.moment c.args.session.now c.args.reader.now c.loop.reader c.read_behind.new.self c.args.writer.now c.loop.writer input [] reached.notes here.notes broken.notes _ c.loop.session c.loop.served.calls prompt c.in-Ok-eq0.ensures.asked none refl c.loop.invariant.flushed reached.noted.0 (sym broken.noted.0 ∙ here.noted.0) (all_answered g.W.Write.contents g.S.Session.step g.S.Session.keeps_together g.S.Session.fails g.S.Session.settles g.S.Session.breaks_off g.S.Session.moment c.args.writer.now c.loop.writer c.args.session.now (ended [] input) c.loop.session c.loop.served.calls reached));
    })

pub returns-in-Ok-eq0-clause-ok : goal.returns-in-Ok-eq0-clause-ok
returns-in-Ok-eq0-clause-ok g c =
    let (input, consumed, (reached, prompt), held, lines) = c.loop.invariant.said in
    let line = unended [] input in
    let none : c.in-Ok-eq0.field-0 ≡ 0 = search rules in
    let room : 0 < length c.read_behind.new.buffer = search rules in
    let last = c.in_ok-last-in-Ok-eq0.last in
    let calls : c.and.result.calls ≡ c.loop.served.calls + last.calls = ap (λ s. s.calls) c.and.ensures in
    let count : c.and.result.lines ≡ c.loop.served.lines + last.lines = ap (λ s. s.lines) c.and.ensures in
    let whole = c.in_ok-last-in-Ok-eq0.ensures.ok line held c.args.writer.now c.args.session.now (ended [] input) c.loop.served.calls (subst (λ (q : List ℕ). Reaches g.W.Write.contents g.S.Session.step g.S.Session.keeps_together g.S.Session.fails g.S.Session.settles g.S.Session.breaks_off g.S.Session.moment c.args.writer.now c.loop.writer c.args.session.now (ended [] input) c.loop.session q c.loop.served.calls) (sym c.loop.invariant.empty) reached) in
    let here = c.in_ok-last-in-Ok-eq0.ensures.ok line held c.loop.writer c.loop.session [] 0 (subst (λ (q : List ℕ). Reaches g.W.Write.contents g.S.Session.step g.S.Session.keeps_together g.S.Session.fails g.S.Session.settles g.S.Session.breaks_off g.S.Session.moment c.loop.writer c.loop.writer c.loop.session [] c.loop.session q 0) (sym c.loop.invariant.empty) (begun g.W.Write.contents g.S.Session.step g.S.Session.keeps_together g.S.Session.fails g.S.Session.settles g.S.Session.breaks_off g.S.Session.moment c.loop.writer c.loop.session)) in
    record {
      input = input;
      notes = whole.notes;
      reads = read_nothing _ _ _ input c.read_behind.new.buffer c.in-Ok-eq0.field-0 none consumed c.in-Ok-eq0.ensures.bytes.0;
      at_end = c.in-Ok-eq0.ensures.bytes.1 none room;
      ended = none_is_end _ _ c.in-Ok-eq0.field-0 c.read_behind.new.buffer none room c.in-Ok-eq0.ensures.ended;
      writes = whole.noted;
      answers = subst (λ (n : ℕ). AnswersAll g.S.Session.step g.S.Session.settles g.S.Session.moment c.args.session.now (ended [] input ++ last_line line) whole.notes c.finish.new.session n) (sym calls)
          (all_answered g.W.Write.contents g.S.Session.step g.S.Session.keeps_together g.S.Session.fails g.S.Session.settles g.S.Session.breaks_off g.S.Session.moment c.args.writer.now c.finish.new.writer c.args.session.now (ended [] input ++ last_line line) c.finish.new.session (c.loop.served.calls + last.calls) whole);
      lines = omega (arith, count, lines, c.in_ok-last-in-Ok-eq0.ensures.lines line held, length-append (ended [] input) (last_line line));
      reader_works = search rules;
      writer_works = c.in_ok-last-in-Ok-eq0.ensures.works;
      prompt = subst (λ (bytes : List ℕ). IsPrompt g.S.Session.step g.S.Session.settles g.S.Session.moment c.args.reader.now c.read_behind.new.self c.args.writer.now c.args.session.now bytes whole.notes) (append-nil input) (prompt_more g.S.Session.step g.S.Session.settles g.S.Session.moment c.args.session.now c.args.reader.now c.loop.reader c.read_behind.new.self c.args.writer.now c.loop.writer input [] reached.notes here.notes whole.notes _ c.loop.session c.loop.served.calls prompt c.in-Ok-eq0.ensures.asked none refl c.loop.invariant.flushed reached.noted.0 (sym whole.noted.0 ∙ here.noted.0) (all_answered g.W.Write.contents g.S.Session.step g.S.Session.keeps_together g.S.Session.fails g.S.Session.settles g.S.Session.breaks_off g.S.Session.moment c.args.writer.now c.loop.writer c.args.session.now (ended [] input) c.loop.session c.loop.served.calls reached));
    }

pub returns-in_err-more-in-Ok-clause-fault : goal.returns-in_err-more-in-Ok-clause-fault
returns-in_err-more-in-Ok-clause-fault g c =
    let (input, consumed, (reached, prompt), held, lines) = c.loop.invariant.said in
    let buffer = c.read_behind.new.buffer in
    let piece = take c.in-Ok.length buffer in
    let works : has_failed c.read_behind.new.self ≡ false = search rules in
    let fault = c.in_err-more-in-Ok.field-0.0 in
    let p = err_from_is_err_and c.from_residual-in_err-more-in-Ok.result c.from_residual-in_err-more-in-Ok.ensures.1 in
    rw (p.1, p.2) (
    let broken = c.in_err-more-in-Ok.ensures.fault (unended [] input) held c.args.writer.now c.args.session.now (ended [] input) c.loop.served.calls (subst (λ (q : List ℕ). Reaches g.W.Write.contents g.S.Session.step g.S.Session.keeps_together g.S.Session.fails g.S.Session.settles g.S.Session.breaks_off g.S.Session.moment c.args.writer.now c.loop.writer c.args.session.now (ended [] input) c.loop.session q c.loop.served.calls) (sym c.loop.invariant.empty) reached) in
    let here = c.in_err-more-in-Ok.ensures.fault (unended [] input) held c.loop.writer c.loop.session [] 0 (subst (λ (q : List ℕ). Reaches g.W.Write.contents g.S.Session.step g.S.Session.keeps_together g.S.Session.fails g.S.Session.settles g.S.Session.breaks_off g.S.Session.moment c.loop.writer c.loop.writer c.loop.session [] c.loop.session q 0) (sym c.loop.invariant.empty) (begun g.W.Write.contents g.S.Session.step g.S.Session.keeps_together g.S.Session.fails g.S.Session.settles g.S.Session.breaks_off g.S.Session.moment c.loop.writer c.loop.session)) in
    let gave : c.in-Ok.length ≡ length piece = grind (arith, common_steps) in
    record {
      input = input ++ piece;
      notes = broken.notes;
      reads = Consumes-trans _ _ _ input piece consumed c.in-Ok.ensures.bytes.0;
      writes = broken.noted;
      ends = ends_by g.W.Write.contents g.S.Session.step g.S.Session.keeps_together g.S.Session.fails g.S.Session.settles g.S.Session.breaks_off g.S.Session.moment fault _ c.args.session.now input piece broken.notes c.take_piece.new.session broken.breaks;
      cause = out_cause fault c.args.reads _ _ _ works c.in_err-more-in-Ok.ensures.out;
      prompt = prompt_more g.S.Session.step g.S.Session.settles g.S.Session.moment c.args.session.now c.args.reader.now c.loop.reader c.read_behind.new.self c.args.writer.now c.loop.writer input piece reached.notes here.notes broken.notes _ c.loop.session c.loop.served.calls prompt c.in-Ok.ensures.asked gave refl c.loop.invariant.flushed reached.noted.0 (sym broken.noted.0 ∙ here.noted.0) (all_answered g.W.Write.contents g.S.Session.step g.S.Session.keeps_together g.S.Session.fails g.S.Session.settles g.S.Session.breaks_off g.S.Session.moment c.args.writer.now c.loop.writer c.args.session.now (ended [] input) c.loop.session c.loop.served.calls reached);
    })

pub loop-preserved : goal.loop-preserved
loop-preserved g c =
    let (input, consumed, (reached, prompt), held, lines) = c.loop.invariant.said in
    let buffer = c.read_behind.new.buffer in
    let piece = take c.in-Ok.length buffer in
    let more = c.in_ok-more-in-Ok.more in
    let small : length (take c.in-Ok.length buffer) ≤ 65536 = grind (arith, common_steps) in
    let calls : c.and-served.result.calls ≡ c.loop.served.calls + more.calls = ap (λ s. s.calls) c.and-served.ensures in
    let count : c.and-served.result.lines ≡ c.loop.served.lines + more.lines = ap (λ s. s.lines) c.and-served.ensures in
    let here = c.in_ok-more-in-Ok.ensures.ok (unended [] input) held c.args.writer.now c.args.session.now (ended [] input) c.loop.served.calls (subst (λ (q : List ℕ). Reaches g.W.Write.contents g.S.Session.step g.S.Session.keeps_together g.S.Session.fails g.S.Session.settles g.S.Session.breaks_off g.S.Session.moment c.args.writer.now c.loop.writer c.args.session.now (ended [] input) c.loop.session q c.loop.served.calls) (sym c.loop.invariant.empty) reached) in
    let far = c.in_ok-more-in-Ok.ensures.ok (unended [] input) held c.loop.writer c.loop.session [] 0 (subst (λ (q : List ℕ). Reaches g.W.Write.contents g.S.Session.step g.S.Session.keeps_together g.S.Session.fails g.S.Session.settles g.S.Session.breaks_off g.S.Session.moment c.loop.writer c.loop.writer c.loop.session [] c.loop.session q 0) (sym c.loop.invariant.empty) (begun g.W.Write.contents g.S.Session.step g.S.Session.keeps_together g.S.Session.fails g.S.Session.settles g.S.Session.breaks_off g.S.Session.moment c.loop.writer c.loop.session)) in
    let gave : c.in-Ok.length ≡ length piece = grind (arith, common_steps) in
    let same = subst (λ (ls : List (List ℕ)). Reaches g.W.Write.contents g.S.Session.step g.S.Session.keeps_together g.S.Session.fails g.S.Session.settles g.S.Session.breaks_off g.S.Session.moment c.args.writer.now c.take_piece.new.writer c.args.session.now ls c.take_piece.new.session [] c.and-served.result.calls) (sym (ended_append [] input piece))
    (subst (λ (n : ℕ). Reaches g.W.Write.contents g.S.Session.step g.S.Session.keeps_together g.S.Session.fails g.S.Session.settles g.S.Session.breaks_off g.S.Session.moment c.args.writer.now c.take_piece.new.writer c.args.session.now (ended [] input ++ ended (unended [] input) piece) c.take_piece.new.session [] n) (sym calls) here) in
    record {
      said = (
        input ++ piece,
        Consumes-trans _ _ _ input piece consumed c.in-Ok.ensures.bytes.0,
        (same, prompt_more g.S.Session.step g.S.Session.settles g.S.Session.moment c.args.session.now c.args.reader.now c.loop.reader c.read_behind.new.self c.args.writer.now c.loop.writer input piece reached.notes far.notes same.notes _ c.loop.session c.loop.served.calls prompt c.in-Ok.ensures.asked gave refl c.loop.invariant.flushed reached.noted.0 (sym same.noted.0 ∙ far.noted.0) (all_answered g.W.Write.contents g.S.Session.step g.S.Session.keeps_together g.S.Session.fails g.S.Session.settles g.S.Session.breaks_off g.S.Session.moment c.args.writer.now c.loop.writer c.args.session.now (ended [] input) c.loop.session c.loop.served.calls reached)),
        c.in_ok-more-in-Ok.ensures.held (unended [] input) held ∙ ap (take 65537) (sym (unended_append [] input piece)),
        omega (arith, count, lines, c.in_ok-more-in-Ok.ensures.lines (unended [] input), ap length (ended_append [] input piece), length-append (ended [] input) (ended (unended [] input) piece)),
      );
      empty = c.in_ok-more-in-Ok.ensures.empty;
      piece = search rules;
      calls = omega (arith, calls, count, c.loop.invariant.calls, c.in_ok-more-in-Ok.ensures.few.0);
      few = omega (arith, count, c.loop.invariant.few, c.in_ok-more-in-Ok.ensures.few.1, small);
      reader = search rules;
      writer = c.in_ok-more-in-Ok.ensures.works;
      flushed = λ begun. c.in_ok-more-in-Ok.ensures.flushed (c.loop.invariant.flushed begun);
      unended = byte_is_no_end _ _ _ c.in-Ok.length buffer (search rules) c.loop.invariant.unended c.in-Ok.ensures.ended;
      made = reads_more c.args.reader.now.reads c.loop.reader.reads c.read_behind.new.self.reads c.loop.counter c.loop.invariant.made c.read_behind.ensures.count;
    }
