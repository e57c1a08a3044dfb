-- The steps of a session's text on a hall are a run.
use Rattle.std.proofs.Common.{◌≡◌, ℕ, ◌+◌, List, [], ◌∷◌, ◌++◌, length, Result, Ok, Err, refl, sym, subst, arith, inl, inr}
use Rattle.pana_journal.specs.declared.entry.Entry.{Entry}
use Rattle.pana_hall.specs.Run.{Exchange, IsRunFrom, journal_from}
use Rattle.pana_calls.specs.declared.answer.Answer.TheVariants.{Given, NotKept}
use Rattle.pana_wire.specs.declared.fault.WireFault.{WireFault}
use Rattle.pana_wire.specs.declared.fault.WireFault.TheVariants.{OutOfMemory}
use Rattle.pana_calls.specs.declared.message.Message.{Message}
use Rattle.pana_hall.specs.Step.{Replies}
use Rattle.pana_wire.specs.Fault.{fault_text}
use Rattle.pana_wire.specs.Line.{line_says}
use Rattle.pana_wire.specs.Lines.{lines_of}
use Rattle.pana_wire.specs.Session.{AnswersSaid, AnswersLines, SessionText}
use Rattle.pana_laws.specs.SessionRun.{IsFaultOf, IsRunOf, IsServedByRun}

-- a run from the old journal to the new one answers the lines
record Runs (old : List Entry) (lines : List (List ℕ)) (output : List ℕ) (new : List Entry) (steps : ℕ) : Type 0 where
  pub run : List Exchange
  pub permitted : IsRunFrom old run
  pub left : journal_from old run ≡ new
  pub count : length run ≡ steps
  pub answers : IsRunOf lines run output

-- the line before is answered by a fault
before_run : (old mid new : List Entry) (line text rest output : List ℕ) (lines : List (List ℕ)) (fault : WireFault) (first others steps : ℕ) → mid ≡ old → first ≡ 0
    → steps ≡ first + others → output ≡ text ++ 10 ∷ rest → IsFaultOf line fault → text ≡ fault_text fault → Runs mid lines rest new others → Runs old (line ∷ lines) output new steps
before_run old mid new line text rest output lines fault first others steps same none sum whole is answer p =
    let count : length p.run ≡ others = p.count in
    record {
      run = p.run;
      permitted = subst (λ j. IsRunFrom j p.run) same p.permitted;
      left = subst (λ j. journal_from j p.run ≡ new) same p.left;
      count = omega arith;
      answers = (text, rest, whole, inr (fault, is, answer, p.answers));
    }

-- by what the line before says
said_run : (said : Result Message WireFault) (old mid new : List Entry) (line text rest output : List ℕ) (lines : List (List ℕ)) (first others steps : ℕ) → line_says line ≡ said
    → AnswersSaid Replies old said text mid first → steps ≡ first + others → output ≡ text ++ 10 ∷ rest → Runs mid lines rest new others → Runs old (line ∷ lines) output new steps
said_run (Err fault) old mid new line text rest output lines first others steps says a sum whole p =
    before_run old mid new line text rest output lines fault first others steps a.1 a.2 sum whole (inl says) a.0 p
said_run (Ok m) old mid new line text rest output lines first others steps says (NotKept, never, answer, one) sum whole p = absurd never
said_run (Ok m) old mid new line text rest output lines first others steps says (Given reply, step, answer, one) sum whole p =
    let x : Exchange = record { by = m.by; call = m.call; reply = reply } in
    let count : length p.run ≡ others = p.count in
    record {
      run = x ∷ p.run;
      permitted = (step.0, subst (λ j. IsRunFrom j p.run) step.1 p.permitted);
      left = subst (λ j. journal_from j p.run ≡ new) step.1 p.left;
      count = omega arith;
      answers = (text, rest, whole, inl (x, p.run, refl, record { said = says; answered = answer }, p.answers));
    }

lines_run : (old : List Entry) (lines : List (List ℕ)) (output : List ℕ) (new : List Entry) (steps : ℕ) → AnswersLines Replies old lines output new steps → Runs old lines output new steps
lines_run old [] output new steps a = record { run = []; permitted = tt; left = sym a.1; count = sym a.2; answers = (refl, a.0) }
lines_run old (line ∷ lines) output new steps a =
    let (mid, text, rest, first, others, here, later, whole, sum) = a in
    let p : Runs mid lines rest new others = lines_run mid lines rest new others later in
    elim here [
      | inl said ↦ said_run (line_says line) old mid new line text rest output lines first others steps refl said sum whole p
      | inr memory ↦ before_run old mid new line text rest output lines OutOfMemory first others steps memory.1 memory.2 sum whole (inr (refl, memory.3)) memory.0 p
    ]

pub session_run : (input output : List ℕ) (journal : List Entry) (steps : ℕ) → SessionText Replies [] input output journal steps → IsServedByRun input output journal steps
session_run input output journal steps text =
    let p : Runs [] (lines_of input) output journal steps = lines_run [] (lines_of input) output journal steps text in
    record { run = p.run; permitted = p.permitted; left = p.left; count = p.count; answers = p.answers }
