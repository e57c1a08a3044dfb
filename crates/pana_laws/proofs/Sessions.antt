-- The calls by which a session's lines were answered.
use Rattle.std.proofs.Common.{◌≡◌, ◌⊎◌, inl, inr, ℕ, Bool, true, false, List, [], ◌∷◌, ◌++◌, Result, Ok, Err, refl, sym, ap, subst, ◌∙◌, append-nil, append_assoc}
use mathlib.Core.List.{IsPrefix}
use Rattle.pana_calls.specs.declared.call.Call.{Call}
use Rattle.pana_hall.specs.Run.{Exchange}
use Rattle.pana_calls.specs.declared.answer.Answer.{Answer}
use Rattle.pana_wire.specs.declared.fault.WireFault.{WireFault}
use Rattle.pana_wire.specs.declared.fault.WireFault.TheVariants as faults
use Rattle.pana_calls.specs.declared.message.Message.{Message}
use Rattle.pana_wire.specs.declared.serving.ServeFault.{ServeFault}
use Rattle.pana_wire.specs.declared.serving.ServeFault.TheVariants.{Read, Write, OutOfMemory, NoAnswer, Turns}
use Rattle.pana_wire.specs.Answer.{answer_text}
use Rattle.pana_wire.specs.Fault.{fault_text}
use Rattle.pana_wire.specs.Line.{line_says}
use Rattle.pana_wire.specs.Lines.{last_line, lines_of, unended}
use Rattle.pana_wire.specs.Reply.{reply_text}
use Rattle.pana_wire.specs.Groups.{joined as lines_in, AnswersGroups, BreaksAmong, BreaksGroup, EndsGroupsBy}
use Rattle.pana_wire.specs.Session.{AnswersSaid, AnswersLine, AnswersLines, Made, MayCallNext, lines_come}
use Rattle.pana_wire.specs.Tap.{Note, bytes_in, noted_at}
use Rattle.pana_wire.proofs.Notes.{bytes_both, noted_bytes}
use Rattle.pana_laws.specs.SessionRun.{IsExchangeOf, IsFaultOf, IsRunOf}
use Rattle.pana_daemon.specs.Session.{BreaksOff, GetNone, MakesCall, Settles, requests_seen}
use Rattle.pana_laws.specs.OneRun.{Answered}
use Rattle.pana_laws.proofs.Passes.{Goes, Pass, Steps, broken_none, goes_no_more, goes_on, made_none, made_one, settled_none, stays}

abbrev Step : Pass → List ℕ → Call → Answer → Pass → Type 0
Step = MakesCall Steps false

abbrev Fails : Pass → List Message → Pass → Type 0
Fails = GetNone Steps false

abbrev So : Pass → Pass → Type 0
So = Settles Steps

abbrev Off : Pass → Pass → Type 0
Off = BreaksOff Steps

-- a line is answered by the reply of one call, or by its fault and no call
abbrev One : List ℕ → List ℕ → Pass → Pass → Type 0
One line text old new = ((x : Exchange) × IsExchangeOf line text x × Goes old (x ∷ []) new)
    ⊎ ((fault : WireFault) × IsFaultOf line fault × (text ≡ fault_text fault) × Goes old [] new)

one_said : (said : Result Message WireFault) (line text : List ℕ) (old new : Pass) (steps : ℕ) → line_says line ≡ said → AnswersSaid Step old said text new steps → One line text old new
one_said (Err fault) line text old new steps says a = inr (fault, inl says, a.0, subst (Goes old []) (sym a.1) (stays old))
one_said (Ok m) line text old new steps says (answer, step, is, one) =
    let (reply, given, goes) = made_one old m.by m.call answer new step in
    inl (record { by = m.by; call = m.call; reply = reply }, record { said = says; answered = is ∙ ap answer_text given }, goes)

one_line : (line text : List ℕ) (old new : Pass) (steps : ℕ) → AnswersLine Step old line text new steps → One line text old new
one_line line text old new steps (inl said) = one_said (line_says line) line text old new steps refl said
one_line line text old new steps (inr short) = inr (faults.OutOfMemory, inr (refl, short.3), short.0, subst (Goes old []) (sym short.1) (stays old))

-- the run of a line, and of those behind it
joined : (line text rest output : List ℕ) (lines : List (List ℕ)) (old mid new : Pass) (others : List Exchange) → One line text old mid → IsRunOf lines others rest → Goes mid others new → output ≡ text ++ 10 ∷ rest
    → (run : List Exchange) × IsRunOf (line ∷ lines) run output × Goes old run new
joined line text rest output lines old mid new others (inl (x, is, goes)) are on whole =
    (x ∷ others, (text, rest, whole, inl (x, others, refl, is, are)), goes_on old mid new (x ∷ []) others goes on)
joined line text rest output lines old mid new others (inr (fault, is, answer, goes)) are on whole =
    (others, (text, rest, whole, inr (fault, is, answer, are)), goes_on old mid new [] others goes on)

all_lines : (lines : List (List ℕ)) (output : List ℕ) (old new : Pass) (steps : ℕ) → AnswersLines Step old lines output new steps → (run : List Exchange) × IsRunOf lines run output × Goes old run new
all_lines [] output old new steps a = ([], (refl, a.0), subst (Goes old []) (sym a.1) (stays old))
all_lines (line ∷ lines) output old new steps (mid, text, rest, first, more, here, later, whole, count) =
    let (others, are, on) = all_lines lines rest mid new more later in
    joined line text rest output lines old mid new others (one_line line text old mid first here) are on whole

-- the run of lines, and of those behind them
run_append : (ls ms : List (List ℕ)) (run more : List Exchange) (xs ys : List ℕ) → IsRunOf ls run xs → IsRunOf ms more ys → IsRunOf (ls ++ ms) (run ++ more) (xs ++ ys)
run_append [] ms run more xs ys (none, empty) q = subst (λ r. IsRunOf ms (r ++ more) (xs ++ ys)) (sym none) (subst (λ o. IsRunOf ms more (o ++ ys)) (sym empty) q)
run_append (line ∷ ls) ms run more xs ys (text, rest, whole, inl (x, others, is, one, later)) q =
    (text, rest ++ ys, ap (λ o. o ++ ys) whole ∙ append_assoc text (10 ∷ rest) ys, inl (x, others ++ more, ap (λ r. r ++ more) is, one, run_append ls ms others more rest ys later q))
run_append (line ∷ ls) ms run more xs ys (text, rest, whole, inr (fault, is, answer, later)) q =
    (text, rest ++ ys, ap (λ o. o ++ ys) whole ∙ append_assoc text (10 ∷ rest) ys, inr (fault, is, answer, run_append ls ms run more rest ys later q))

-- the first of the lines are answered by calls, and a prefix of the answers is written
record Part (lines : List (List ℕ)) (output : List ℕ) (old new : Pass) : Type 0 where
  pub begun : List (List ℕ)
  pub run : List Exchange
  pub answers : List ℕ
  pub first : IsPrefix begun lines
  pub are : IsRunOf begun run answers
  pub written : IsPrefix output answers
  pub goes : Goes old run new

-- of the next line one call more is made, whose answer isn't written
behind : (lines first others : List (List ℕ)) (text output : List ℕ) (old mid new : Pass) → lines ≡ first ++ others → IsPrefix output text
    → (run : List Exchange) × IsRunOf first run text × Goes old run mid → MayCallNext Step false Fails mid others new → Part lines output old new
behind lines first others text output old mid new split written (run, are, goes) (inl same) =
    record { begun = first; run = run; answers = text; first = (others, sym split); are = are; written = written; goes = subst (Goes old run) (sym same) goes }
behind lines first [] text output old mid new split written (run, are, goes) (inr (inl lost)) = absurd lost
behind lines first (line ∷ others) text output old mid new split written (run, are, goes) (inr (inl (m, answer, says, step))) =
    let (reply, given, on) = made_one mid m.by m.call answer new step in
    let x : Exchange = record { by = m.by; call = m.call; reply = reply } in
    let last = reply_text reply in
    record {
      begun = first ++ line ∷ [];
      run = run ++ x ∷ [];
      answers = text ++ (last ++ 10 ∷ []);
      first = (others, append_assoc first (line ∷ []) others ∙ sym split);
      are = run_append first (line ∷ []) run (x ∷ []) text (last ++ 10 ∷ []) are (last, [], refl, inl (x, [], refl, record { said = says; answered = refl }, (refl, refl)));
      written = (written.0 ++ (last ++ 10 ∷ []), sym (append_assoc output written.0 (last ++ 10 ∷ [])) ∙ ap (λ w. w ++ (last ++ 10 ∷ [])) written.1);
      goes = goes_on old mid new run (x ∷ []) goes on;
    }
behind lines first [] text output old mid new split written (run, are, goes) (inr (inr failed)) = absurd failed
behind lines first (line ∷ others) text output old mid new split written (run, are, goes) (inr (inr (m, says, fails))) =
    record {
      begun = first;
      run = run;
      answers = text;
      first = (line ∷ others, sym split);
      are = are;
      written = written;
      goes = subst (λ r. Goes old r new) (append-nil run) (goes_on old mid new run [] goes (made_none mid m.by m.call new fails));
    }

-- all of a text is a prefix of it
all_of : (output text : List ℕ) → output ≡ text → IsPrefix output text
all_of output text same = ([], append-nil output ∙ same)

-- and then it settles, or can't
settled_part : (lines : List (List ℕ)) (output : List ℕ) (old mid new : Pass) → Part lines output old mid → Goes mid [] new → Part lines output old new
settled_part lines output old mid new p more = record { begun = p.begun; run = p.run; answers = p.answers; first = p.first; are = p.are; written = p.written; goes = goes_no_more old mid new p.run p.goes more }

made_run : (old : Pass) (lines : List (List ℕ)) (made : Made Step old lines) → (run : List Exchange) × IsRunOf made.first run made.text × Goes old run made.last
made_run old lines made = all_lines made.first made.text old made.last made.steps made.answers

-- these bytes are all that was noted
all_noted : (moment : ℕ) (notes : List Note) (text : List ℕ) → notes ≡ noted_at moment text → bytes_in notes ≡ text
all_noted moment notes text is = ap bytes_in is ∙ noted_bytes moment text

part_in : (fault : ServeFault) (lines : List (List ℕ)) (notes : List Note) (old new : Pass) → BreaksGroup Step false Fails So Off requests_seen fault old lines notes new → Part lines (bytes_in notes) old new
part_in Read lines notes old new breaks = absurd breaks
part_in Write lines notes old new (made, last, output, calls, kept, written, is) =
    settled_part lines (bytes_in notes) old last new
    (behind lines made.first made.others made.text (bytes_in notes) old made.last last made.split (subst (λ (o : List ℕ). IsPrefix o made.text) (sym (all_noted (requests_seen new) notes output is)) written) (made_run old lines made) calls)
    (settled_none last new kept)
part_in OutOfMemory lines notes old new (made, last, lost, kept, is) =
    settled_part lines (bytes_in notes) old last new
    (behind lines made.first made.others made.text (bytes_in notes) old made.last last made.split (all_of (bytes_in notes) made.text (all_noted (requests_seen new) notes made.text is)) (made_run old lines made) (inr (inl lost)))
    (settled_none last new kept)
part_in NoAnswer lines notes old new (made, last, inl (failed, kept, is)) =
    settled_part lines (bytes_in notes) old last new
    (behind lines made.first made.others made.text (bytes_in notes) old made.last last made.split (all_of (bytes_in notes) made.text (all_noted (requests_seen new) notes made.text is)) (made_run old lines made) (inr (inr failed)))
    (settled_none last new kept)
part_in NoAnswer lines notes old new (made, last, inr (calls, broken, is)) =
    settled_part lines (bytes_in notes) old last new
    (behind lines made.first made.others made.text (bytes_in notes) old made.last last made.split (subst (λ (ns : List Note). IsPrefix (bytes_in ns) made.text) (sym is) (made.text, refl)) (made_run old lines made) calls)
    (broken_none last new broken)
part_in Turns lines notes old new breaks = absurd breaks

-- groups of lines are answered by calls
all_groups : (groups : List (List (List ℕ))) (notes : List Note) (old new : Pass) (steps : ℕ) → AnswersGroups Step So requests_seen old groups notes new steps
    → (run : List Exchange) × IsRunOf (lines_in groups) run (bytes_in notes) × Goes old run new
all_groups [] notes old new steps a = ([], (refl, ap bytes_in a.0), subst (Goes old []) (sym a.1) (stays old))
all_groups (lines ∷ groups) notes old new steps (made, kept, text, rest, first, others, answers, settled, more, is, count) =
    let (run, are, goes) = all_lines lines text old made first answers in
    let (later, rest_are, on) = all_groups groups rest kept new others more in
    let output : bytes_in notes ≡ text ++ bytes_in rest = ap bytes_in is ∙ bytes_both (noted_at (requests_seen kept) text) rest ∙ ap (λ (l : List ℕ). l ++ bytes_in rest) (noted_bytes (requests_seen kept) text) in (
      run ++ later,
      subst (λ (o : List ℕ). IsRunOf (lines ++ lines_in groups) (run ++ later) o) (sym output) (run_append lines (lines_in groups) run later text (bytes_in rest) are rest_are),
      goes_on old kept new run later (goes_no_more old made kept run goes (settled_none made kept settled)) on,
    )

-- so are the first of the lines among which it breaks off
part_among : (fault : ServeFault) (lines : List (List ℕ)) (notes : List Note) (old new : Pass) → BreaksAmong Step false Fails So Off requests_seen fault old lines notes new → Part lines (bytes_in notes) old new
part_among fault lines notes old new b =
    let (run, are, goes) = all_groups b.groups b.whole old b.last b.steps b.answers in
    let p = part_in fault b.others b.part b.last new b.breaks in
    let output : bytes_in notes ≡ bytes_in b.whole ++ bytes_in b.part = ap bytes_in b.noted ∙ bytes_both b.whole b.part in
    record {
      begun = lines_in b.groups ++ p.begun;
      run = run ++ p.run;
      answers = bytes_in b.whole ++ p.answers;
      first = (p.first.0, append_assoc (lines_in b.groups) p.begun p.first.0 ∙ ap (λ (ls : List (List ℕ)). lines_in b.groups ++ ls) p.first.1 ∙ sym b.split);
      are = run_append (lines_in b.groups) p.begun run p.run (bytes_in b.whole) p.answers are p.are;
      written = subst (λ (o : List ℕ). IsPrefix o (bytes_in b.whole ++ p.answers)) (sym output)
          (p.written.0, append_assoc (bytes_in b.whole) (bytes_in b.part) p.written.0 ∙ ap (λ (w : List ℕ). bytes_in b.whole ++ w) p.written.1);
      goes = goes_on old b.last new run p.run goes p.goes;
    }

-- what a session's input and output are, and its calls
abbrev pub Told : List ℕ → List ℕ → Pass → Pass → Type 0
Told input output old new = (run : List Exchange) × Answered input output run × Goes old run new

-- lines that have come are the first ones of the input
come_first : (met : Bool) (input : List ℕ) → IsPrefix (lines_come met input) (lines_of input)
come_first true input = ([], append-nil (lines_of input))
come_first false input = (last_line (unended [] input), refl)

told_part : (met : Bool) (input output : List ℕ) (old new : Pass) → Part (lines_come met input) output old new → Told input output old new
told_part met input output old new p =
    let come = come_first met input in (
      p.run,
      record {
        lines = p.begun;
        first = (p.first.0 ++ come.0, sym (append_assoc p.begun p.first.0 come.0) ∙ ap (λ ls. ls ++ come.0) p.first.1 ∙ come.1);
        answers = p.answers;
        are = p.are;
        written = p.written;
      },
      p.goes,
    )

told_lines : (met : Bool) (input : List ℕ) (groups : List (List (List ℕ))) (notes : List Note) (old new : Pass) (steps : ℕ) → lines_come met input ≡ lines_in groups → AnswersGroups Step So requests_seen old groups notes new steps → Told input (bytes_in notes) old new
told_lines met input groups notes old new steps split a =
    let (run, are, goes) = all_groups groups notes old new steps a in
    told_part met input (bytes_in notes) old new (record {
      begun = lines_come met input;
      run = run;
      answers = bytes_in notes;
      first = ([], append-nil (lines_come met input));
      are = subst (λ (ls : List (List ℕ)). IsRunOf ls run (bytes_in notes)) (sym split) are;
      written = ([], append-nil (bytes_in notes));
      goes = goes;
    })

-- a session that was served whole
pub told_whole : (input : List ℕ) (groups : List (List (List ℕ))) (notes : List Note) (old new : Pass) (steps : ℕ) → lines_of input ≡ lines_in groups → AnswersGroups Step So requests_seen old groups notes new steps → Told input (bytes_in notes) old new
told_whole input groups notes old new steps split a = told_lines true input groups notes old new steps split a

-- and one that stopped early
pub told_early : (fault : ServeFault) (met : Bool) (input : List ℕ) (notes : List Note) (old new : Pass) → EndsGroupsBy Step false Fails So Off requests_seen fault met old input notes new → Told input (bytes_in notes) old new
told_early Read met input notes old new (steps, a) = told_lines false input a.0 notes old new steps a.1 a.2
told_early Write met input notes old new ends = told_part met input (bytes_in notes) old new (part_among Write (lines_come met input) notes old new ends)
told_early OutOfMemory met input notes old new ends = told_part met input (bytes_in notes) old new (part_among OutOfMemory (lines_come met input) notes old new ends)
told_early NoAnswer met input notes old new ends = told_part met input (bytes_in notes) old new (part_among NoAnswer (lines_come met input) notes old new ends)
told_early Turns met input notes old new (steps, a) = told_lines false input a.0 notes old new steps a.1 a.2

-- and one that never began
pub told_nothing : (old new : Pass) → new ≡ old → Told [] [] old new
told_nothing old new same = ([], record { lines = []; first = ([], refl); answers = []; are = (refl, refl); written = ([], refl) }, subst (Goes old []) (sym same) (stays old))
