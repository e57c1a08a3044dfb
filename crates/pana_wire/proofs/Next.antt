-- Laws of the calls that may have been made behind the lines that are answered.
use Rattle.std.proofs.Common.{◌≡◌, ℕ, ◌+◌, Bool, true, false, List, [], ◌∷◌, ◌++◌, Ok, refl, ap, ◌∙◌, append_assoc, inl, inr}
use Rattle.pana_calls.specs.Session.{one}
use Rattle.pana_calls.specs.declared.call.Call.{Call}
use Rattle.pana_calls.specs.declared.answer.Answer.{Answer}
use Rattle.pana_calls.specs.declared.message.Message.{Message}
use Rattle.pana_wire.specs.Answer.{answer_text}
use Rattle.pana_wire.specs.Line.{line_says}
use Rattle.pana_wire.specs.Session.{AnswersLine, Made, AsksOn, Asks, FailsNext, MayMake, LosesNext, MayCallNext}

asks_on_more : (ls ms : List (List ℕ)) (messages : List Message) → AsksOn ls messages → AsksOn (ls ++ ms) messages
asks_on_more [] [] [] p = tt
asks_on_more [] (l ∷ ms) [] p = tt
asks_on_more (l ∷ ls) ms [] p = tt
asks_on_more [] ms (m ∷ messages) p = absurd p
asks_on_more (l ∷ ls) ms (m ∷ messages) (inl here) = inl (here.0, asks_on_more ls ms messages here.1)
asks_on_more (l ∷ ls) ms (m ∷ messages) (inr later) = inr (later.0, asks_on_more ls ms (m ∷ messages) later.1)

asks_more : (ls ms : List (List ℕ)) (messages : List Message) → Asks ls messages → Asks (ls ++ ms) messages
asks_more [] [] [] p = tt
asks_more [] (l ∷ ms) [] p = tt
asks_more (l ∷ ls) ms [] p = tt
asks_more [] ms (m ∷ messages) p = absurd p
asks_more (l ∷ ls) ms (m ∷ messages) p = (p.0, asks_on_more ls ms messages p.1)

module _ {S : Type 0} (step : S → List ℕ → Call → Answer → S → Type 0) (fails : S → List Message → S → Type 0) where
  -- ---- with more lines behind

  pub fails_more : (together : Bool) (old : S) (ls ms : List (List ℕ)) (new : S) → FailsNext together fails old ls new → FailsNext together fails old (ls ++ ms) new
  fails_more true old ls ms new (messages, asks, failed) = (messages, asks_more ls ms messages asks, failed)
  fails_more false old [] ms new p = absurd p
  fails_more false old (l ∷ ls) ms new p = p

  abbrev pub made_more : (old : S) (ls ms : List (List ℕ)) → Made step old ls → Made step old (ls ++ ms)
  made_more old ls ms p = record {
    first = p.first;
    others = p.others ++ ms;
    text = p.text;
    last = p.last;
    steps = p.steps;
    split = ap (λ (xs : List (List ℕ)). xs ++ ms) p.split ∙ append_assoc p.first p.others ms;
    answers = p.answers;
  }

  make_more : (old : S) (ls ms : List (List ℕ)) (new : S) → MayMake step fails old ls new → MayMake step fails old (ls ++ ms) new
  make_more old ls ms new (made, inl same) = (made_more old ls ms made, inl same)
  make_more old ls ms new (made, inr failed) = (made_more old ls ms made, inr (fails_more true made.last made.others ms new failed))

  pub loses_more : (together : Bool) (old : S) (ls ms : List (List ℕ)) (new : S) → LosesNext step together fails old ls new → LosesNext step together fails old (ls ++ ms) new
  loses_more true old [] ms new p = absurd p
  loses_more false old [] ms new p = absurd p
  loses_more true old (l ∷ ls) ms new (mid, text, steps, answers, further) = (mid, text, steps, answers, make_more mid ls ms new further)
  loses_more false old (l ∷ ls) ms new p = p

  pub calls_more : (together : Bool) (old : S) (ls ms : List (List ℕ)) (new : S) → MayCallNext step together fails old ls new → MayCallNext step together fails old (ls ++ ms) new
  calls_more true old ls ms new p = make_more old ls ms new p
  calls_more false old ls ms new (inl same) = inl same
  calls_more false old ls ms new (inr (inl lost)) = inr (inl (loses_more false old ls ms new lost))
  calls_more false old ls ms new (inr (inr failed)) = inr (inr (fails_more false old ls ms new failed))

  -- ---- what comes to a call that may have been made

  abbrev pub made_none : (old : S) (lines : List (List ℕ)) → Made step old lines
  made_none old lines = record { first = []; others = lines; text = []; last = old; steps = 0; split = refl; answers = (refl, refl, refl) }

  pub none_called : (together : Bool) (old : S) (lines : List (List ℕ)) → MayCallNext step together fails old lines old
  none_called true old lines = (made_none old lines, inl refl)
  none_called false old lines = inl refl

  pub fails_called : (together : Bool) (old : S) (lines : List (List ℕ)) (new : S) → FailsNext together fails old lines new → MayCallNext step together fails old lines new
  fails_called true old lines new failed = (made_none old lines, inr failed)
  fails_called false old lines new failed = inr (inr failed)

  -- a line that is answered, before further ones whose calls are made
  abbrev pub made_line : (old mid : S) (line text : List ℕ) (lines : List (List ℕ)) (steps : ℕ) → AnswersLine step old line text mid steps → Made step mid lines → Made step old (line ∷ lines)
  made_line old mid line text lines steps answers made = record {
    first = line ∷ made.first;
    others = made.others;
    text = text ++ 10 ∷ made.text;
    last = made.last;
    steps = steps + made.steps;
    split = ap (λ (ls : List (List ℕ)). line ∷ ls) made.split;
    answers = (mid, text, made.text, steps, made.steps, answers, made.answers, refl, refl);
  }

  pub loses_called : (together : Bool) (old : S) (lines : List (List ℕ)) (new : S) → LosesNext step together fails old lines new → MayCallNext step together fails old lines new
  loses_called true old [] new p = absurd p
  loses_called true old (line ∷ lines) new (mid, text, steps, answers, (made, inl same)) = (made_line old mid line text lines steps answers made, inl same)
  loses_called true old (line ∷ lines) new (mid, text, steps, answers, (made, inr failed)) = (made_line old mid line text lines steps answers made, inr failed)
  loses_called false old lines new lost = inr (inl lost)

  -- ---- one call alone

  pub one_fails : (together : Bool) (old : S) (line : List ℕ) (m : Message) (new : S) → line_says line ≡ Ok m → one fails old m.by m.call new → FailsNext together fails old (line ∷ []) new
  one_fails true old line m new says failed = (m ∷ [], (says, tt), failed)
  one_fails false old line m new says failed = (m, says, failed)

  pub one_loses : (together : Bool) (old : S) (line : List ℕ) (m : Message) (answer : Answer) (new : S) → line_says line ≡ Ok m → step old m.by m.call answer new → LosesNext step together fails old (line ∷ []) new
  one_loses true old line m answer new says done = (new, answer_text answer, 1, inl (rw says (answer, done, refl, refl)), (made_none new [], inl refl))
  one_loses false old line m answer new says done = (m, answer, says, done)
