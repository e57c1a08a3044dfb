-- Laws of lines whose calls are made together.
use Rattle.std.proofs.Common.{◌≡◌, ℕ, ◌+◌, true, false, List, [], ◌∷◌, ◌++◌, ◌⊎◌, length, take, Option, Some, None, Result, Ok, Err, IfErr, OnErr, OnOk, refl, sym, ap, subst, ◌∙◌, append_assoc, append-nil, length-append, inl, inr, arith}
use Rattle.pana_calls.specs.Session.{AddsAll, AddsSome, MakesAll}
use Rattle.pana_calls.specs.declared.call.Call.{Call}
use Rattle.pana_calls.specs.declared.answer.Answer.{Answer}
use Rattle.pana_calls.specs.declared.message.Message.{Message}
use Rattle.pana_wire.specs.declared.fault.WireFault.{WireFault}
use Rattle.pana_wire.specs.declared.fault.WireFault.TheVariants as faults
use Rattle.pana_wire.specs.declared.serving.ServeFault.{ServeFault}
use Rattle.pana_wire.specs.declared.serving.ServeFault.TheVariants.{Read, Write, OutOfMemory, NoAnswer, Turns}
use Rattle.pana_wire.specs.Answer.{answer_text}
use Rattle.pana_wire.specs.Fault.{fault_text}
use Rattle.pana_wire.specs.Line.{Fails, Gives, IsText, line_says}
use Rattle.pana_wire.specs.Session.{AnswersLine, AnswersLines, Made, MakesNone, AsksOn, Asks, FailsNext, MayMake, LosesNext}
use Rattle.pana_wire.specs.inner.Progress.{IsHeldOf, IsOutFault}
use Rattle.pana_wire.specs.inner.Rounds.{AddsText, AnswersSome, AreRead, AreTold, IsRead, LacksNext, LacksText, RoundView, StopsAt, Texts, heard}
use Rattle.pana_wire.proofs.Lines.{says_cut, text_cut}
use Rattle.pana_wire.proofs.Next.{made_line, made_none}
use Rattle.pana_wire.proofs.Prefixes.{said_line, faulty_line}

-- ---- what is read

pub is_read : (said : Result Message WireFault) (held line : List ℕ) → IsHeldOf held line → Gives said (line_says held) → IfErr said (λ fault. fault ≡ faults.OutOfMemory → IsText held) → IsRead line said
is_read (Ok m) held line is exact memory = ap line_says (sym is) ∙ exact
is_read (Err fault) held line is exact memory =
    (subst (λ (l : List ℕ). Fails fault (line_says l)) is exact, subst (λ (l : List ℕ). fault ≡ faults.OutOfMemory → IsText l) is memory)

read_message : (lines : List (List ℕ)) (messages : List Message) (fs : List (Option WireFault)) (line : List ℕ) (m : Message) → AreRead lines messages fs → IsRead line (Ok m) → AreRead (lines ++ line ∷ []) (messages ++ m ∷ []) (fs ++ None ∷ [])
read_message [] [] [] line m none is = (is, refl)
read_message [] (other ∷ messages) [] line m none is = absurd (cc)
read_message [] messages (f ∷ fs) line m p is = absurd p
read_message (l ∷ lines) messages [] line m p is = absurd p
read_message (l ∷ lines) messages (Some f ∷ fs) line m (here, later) is = (here, read_message lines messages fs line m later is)
read_message (l ∷ lines) [] (None ∷ fs) line m p is = absurd p
read_message (l ∷ lines) (other ∷ messages) (None ∷ fs) line m (here, later) is = (here, read_message lines messages fs line m later is)

read_fault : (lines : List (List ℕ)) (messages : List Message) (fs : List (Option WireFault)) (line : List ℕ) (fault : WireFault) → AreRead lines messages fs → IsRead line (Err fault) → AreRead (lines ++ line ∷ []) messages (fs ++ Some fault ∷ [])
read_fault [] messages [] line fault none is = (is, none)
read_fault [] messages (f ∷ fs) line fault p is = absurd p
read_fault (l ∷ lines) messages [] line fault p is = absurd p
read_fault (l ∷ lines) messages (Some f ∷ fs) line fault (here, later) is = (here, read_fault lines messages fs line fault later is)
read_fault (l ∷ lines) [] (None ∷ fs) line fault p is = absurd p
read_fault (l ∷ lines) (other ∷ messages) (None ∷ fs) line fault (here, later) is = (here, read_fault lines messages fs line fault later is)

pub read_more : (lines : List (List ℕ)) (round : RoundView) (line : List ℕ) (said : Result Message WireFault) → AreRead lines round.messages round.faults → IsRead line said → AreRead (lines ++ line ∷ []) (heard round said).messages (heard round said).faults
read_more lines round line (Ok m) p is = read_message lines round.messages round.faults line m p is
read_more lines round line (Err fault) p is = read_fault lines round.messages round.faults line fault p is

pub heard_more : (round : RoundView) (said : Result Message WireFault) → length (heard round said).faults ≡ length round.faults + 1
heard_more round (Ok m) = length-append round.faults (None ∷ [])
heard_more round (Err fault) = length-append round.faults (Some fault ∷ [])

-- ---- their texts

texts_fault : (done : List (Option WireFault)) (told : List Answer) (text : List ℕ) (fault : WireFault) → Texts done told text → Texts (done ++ Some fault ∷ []) told (text ++ (fault_text fault ++ 10 ∷ []))
texts_fault [] [] text fault none = ([], refl, ap (λ (t : List ℕ). t ++ (fault_text fault ++ 10 ∷ [])) none)
texts_fault [] (answer ∷ told) text fault p = absurd p
texts_fault (Some f ∷ done) told text fault (rest, more, is) =
    (rest ++ (fault_text fault ++ 10 ∷ []), texts_fault done told rest fault more, ap (λ (t : List ℕ). t ++ (fault_text fault ++ 10 ∷ [])) is ∙ append_assoc (fault_text f) (10 ∷ rest) (fault_text fault ++ 10 ∷ []))
texts_fault (None ∷ done) [] text fault p = absurd p
texts_fault (None ∷ done) (answer ∷ told) text fault (rest, more, is) =
    (rest ++ (fault_text fault ++ 10 ∷ []), texts_fault done told rest fault more, ap (λ (t : List ℕ). t ++ (fault_text fault ++ 10 ∷ [])) is ∙ append_assoc (answer_text answer) (10 ∷ rest) (fault_text fault ++ 10 ∷ []))

texts_answer : (done : List (Option WireFault)) (told : List Answer) (text : List ℕ) (last : Answer) → Texts done told text → Texts (done ++ None ∷ []) (told ++ last ∷ []) (text ++ (answer_text last ++ 10 ∷ []))
texts_answer [] [] text last none = ([], refl, ap (λ (t : List ℕ). t ++ (answer_text last ++ 10 ∷ [])) none)
texts_answer [] (answer ∷ told) text last p = absurd p
texts_answer (Some f ∷ done) told text last (rest, more, is) =
    (rest ++ (answer_text last ++ 10 ∷ []), texts_answer done told rest last more, ap (λ (t : List ℕ). t ++ (answer_text last ++ 10 ∷ [])) is ∙ append_assoc (fault_text f) (10 ∷ rest) (answer_text last ++ 10 ∷ []))
texts_answer (None ∷ done) [] text last p = absurd p
texts_answer (None ∷ done) (answer ∷ told) text last (rest, more, is) =
    (rest ++ (answer_text last ++ 10 ∷ []), texts_answer done told rest last more, ap (λ (t : List ℕ). t ++ (answer_text last ++ 10 ∷ [])) is ∙ append_assoc (answer_text answer) (10 ∷ rest) (answer_text last ++ 10 ∷ []))

pub told_more : (fs : List (Option WireFault)) (answers : List Answer) (text new : List ℕ) (fault : Option WireFault) (rest : List (Option WireFault)) (left later : List Answer)
    → AreTold fs answers text (fault ∷ rest) left → AddsText fault left later text new → AreTold fs answers new rest later
told_more fs answers text new (Some fault) rest left later p (same, is) = record {
  done = p.done ++ Some fault ∷ [];
  told = p.told;
  lines = p.lines ∙ sym (append_assoc p.done (Some fault ∷ []) rest);
  answered = p.answered ∙ ap (λ (l : List Answer). p.told ++ l) (sym same);
  texts = subst (Texts (p.done ++ Some fault ∷ []) p.told) (sym is) (texts_fault p.done p.told text fault p.texts);
}
told_more fs answers text new None rest left later p (answer, split, is) = record {
  done = p.done ++ None ∷ [];
  told = p.told ++ answer ∷ [];
  lines = p.lines ∙ sym (append_assoc p.done (None ∷ []) rest);
  answered = p.answered ∙ ap (λ (l : List Answer). p.told ++ l) split ∙ sym (append_assoc p.told (answer ∷ []) later);
  texts = subst (Texts (p.done ++ None ∷ []) (p.told ++ answer ∷ [])) (sym is) (texts_answer p.done p.told text answer p.texts);
}

pub lacks_out : (fault : Option WireFault) (left : List Answer) (why : ServeFault) → LacksText fault left why → IsOutFault false why
lacks_out (Some fault) left Read lacks = lacks
lacks_out None left Read lacks = lacks
lacks_out (Some fault) left Write lacks = absurd lacks
lacks_out None left Write lacks = absurd lacks
lacks_out fault left OutOfMemory lacks = refl
lacks_out fault left NoAnswer lacks = refl
lacks_out (Some fault) left Turns lacks = lacks
lacks_out None left Turns lacks = lacks

-- ---- which lines ask for calls

makes_none : (line : List ℕ) (fault : WireFault) → IsRead line (Err fault) → MakesNone line
makes_none line faults.TooLong p = inl (faults.TooLong, sym (says_cut line) ∙ p.0)
makes_none line faults.NotUtf8 p = inl (faults.NotUtf8, sym (says_cut line) ∙ p.0)
makes_none line faults.NotJson p = inl (faults.NotJson, sym (says_cut line) ∙ p.0)
makes_none line faults.NotObject p = inl (faults.NotObject, sym (says_cut line) ∙ p.0)
makes_none line (faults.BadField field) p = inl (faults.BadField field, sym (says_cut line) ∙ p.0)
makes_none line faults.OutOfMemory p = inr (text_cut line (p.1 refl))

asks_on : (lines : List (List ℕ)) (tried left : List Message) (fs : List (Option WireFault)) → AreRead lines (tried ++ left) fs → AsksOn lines tried
asks_on [] [] left fs p = tt
asks_on (line ∷ lines) [] left fs p = tt
asks_on [] (m ∷ tried) left [] p = absurd (cc)
asks_on [] (m ∷ tried) left (f ∷ fs) p = absurd p
asks_on (line ∷ lines) (m ∷ tried) left [] p = absurd p
asks_on (line ∷ lines) (m ∷ tried) left (Some fault ∷ fs) (here, later) = inr (makes_none line fault here, asks_on lines (m ∷ tried) left fs later)
asks_on (line ∷ lines) (m ∷ tried) left (None ∷ fs) (here, later) = inl (sym (says_cut line) ∙ here, asks_on lines tried left fs later)

-- from a line without a fault on
asks : (lines : List (List ℕ)) (tried left : List Message) (fs : List (Option WireFault)) → AreRead lines (tried ++ left) (None ∷ fs) → Asks lines tried
asks [] [] left fs p = tt
asks (line ∷ lines) [] left fs p = tt
asks [] (m ∷ tried) left fs p = absurd p
asks (line ∷ lines) (m ∷ tried) left fs (here, later) = (sym (says_cut line) ∙ here, asks_on lines tried left fs later)

module _ {S : Type 0} (step : S → List ℕ → Call → Answer → S → Type 0) (fails : S → List Message → S → Type 0) where
  -- the first of the calls are made, and then the next ones may have no answers
  pub record Makes (old : S) (messages : List Message) (given : List Answer) (new : S) : Type 0 where
    pub made : List Message
    pub unmade : List Message
    pub mid : S
    pub split : messages ≡ made ++ unmade
    pub makes : MakesAll step old made given mid
    pub ends : ((unmade ≡ []) × (new ≡ mid)) ⊎ ((tried : List Message) × (left : List Message) × (unmade ≡ tried ++ left) × fails mid tried new)

  makes_all : (old : S) (messages : List Message) (given : List Answer) (new : S) → AddsAll step old messages [] given new → Makes old messages given new
  makes_all old messages given new p = record {
    made = messages;
    unmade = [];
    mid = new;
    split = sym (append-nil messages);
    makes = subst (λ (answers : List Answer). MakesAll step old messages answers new) (sym p.adds) p.makes;
    ends = inl (refl, refl);
  }

  makes_some : (old : S) (messages : List Message) (given : List Answer) (new : S) → AddsSome step fails old messages [] given new → Makes old messages given new
  makes_some old messages given new p = record {
    made = p.made;
    unmade = p.tried ++ p.left;
    mid = p.mid;
    split = p.split;
    makes = subst (λ (answers : List Answer). MakesAll step old p.made answers p.mid) (sym p.adds.adds) p.adds.makes;
    ends = inr (p.tried, p.left, refl, p.failed);
  }

  pub makes_so : {T E : Type 0} (result : Result T E) (old : S) (messages : List Message) (before given : List Answer) (new : S) → before ≡ []
      → OnOk result (AddsAll step old messages before given new) → OnErr result (AddsSome step fails old messages before given new) → Makes old messages given new
  makes_so (Ok x) old messages before given new none all some = makes_all old messages given new (subst (λ (answers : List Answer). AddsAll step old messages answers given new) none all)
  makes_so (Err e) old messages before given new none all some = makes_some old messages given new (subst (λ (answers : List Answer). AddsSome step fails old messages answers given new) none some)

  -- ---- the answer to a line

  fault_line : (old : S) (line : List ℕ) (fault : WireFault) → IsRead line (Err fault) → AnswersLine step old line (fault_text fault) old 0
  fault_line old line fault is = faulty_line step old (take 65537 line) line (fault_text fault) fault refl is.0 is.1 refl

  message_line : (old : S) (line : List ℕ) (m : Message) (answer : Answer) (new : S) → IsRead line (Ok m) → step old m.by m.call answer new → AnswersLine step old line (answer_text answer) new 1
  message_line old line m answer new is done = said_line step old (take 65537 line) line m (answer_text answer) new refl is (answer, done, refl)

  -- the first of the lines are answered by a text, and the calls of the others go on from there
  record Told (old : S) (lines : List (List ℕ)) (text : List ℕ) (made unmade : List Message) (rest : List (Option WireFault)) (left : List Answer) (mid : S) : Type 0 where
    pub first : List (List ℕ)
    pub others : List (List ℕ)
    pub last : S
    pub steps : ℕ
    pub later : List Message
    pub split : lines ≡ first ++ others
    pub answers : AnswersLines step old first text last steps
    pub read : AreRead others (later ++ unmade) rest
    pub makes : MakesAll step last later left mid
    pub count : length made ≡ steps + length later

  tell : (old : S) (lines : List (List ℕ)) (text : List ℕ) (made unmade : List Message) (done rest : List (Option WireFault)) (told left : List Answer) (mid : S)
      → AreRead lines (made ++ unmade) (done ++ rest) → Texts done told text → MakesAll step old made (told ++ left) mid → Told old lines text made unmade rest left mid
  tell old lines text made unmade [] rest [] left mid read none makes = record {
    first = [];
    others = lines;
    last = old;
    steps = 0;
    later = made;
    split = refl;
    answers = (none, refl, refl);
    read = read;
    makes = makes;
    count = omega arith;
  }
  tell old lines text made unmade [] rest (answer ∷ told) left mid read p makes = absurd p
  tell old [] text made unmade (fault ∷ done) rest told left mid read texts makes = absurd read
  tell old (line ∷ lines) text made unmade (Some fault ∷ done) rest told left mid (here, more) (others, texts, is) makes =
      let p = tell old lines others made unmade done rest told left mid more texts makes in
      record {
        first = line ∷ p.first;
        others = p.others;
        last = p.last;
        steps = p.steps;
        later = p.later;
        split = ap (λ (ls : List (List ℕ)). line ∷ ls) p.split;
        answers = (old, fault_text fault, others, 0, p.steps, fault_line old line fault here, p.answers, is, omega arith);
        read = p.read;
        makes = p.makes;
        count = p.count;
      }
  tell old (line ∷ lines) text made unmade (None ∷ done) rest [] left mid read p makes = absurd p
  tell old (line ∷ lines) text [] unmade (None ∷ done) rest (answer ∷ told) left mid read texts p = absurd p
  tell old (line ∷ lines) text (m ∷ made) unmade (None ∷ done) rest (answer ∷ told) left mid (here, more) (others, texts, is) (after, stepped, makes) =
      let p = tell after lines others made unmade done rest told left mid more texts makes in
      record {
        first = line ∷ p.first;
        others = p.others;
        last = p.last;
        steps = 1 + p.steps;
        later = p.later;
        split = ap (λ (ls : List (List ℕ)). line ∷ ls) p.split;
        answers = (after, answer_text answer, others, 1, p.steps, message_line old line m answer after here stepped, p.answers, is, refl);
        read = p.read;
        makes = p.makes;
        count = let so : length made ≡ p.steps + length p.later = p.count in omega arith;
      }

  told_so : (old : S) (lines : List (List ℕ)) (messages : List Message) (fs : List (Option WireFault)) (given : List Answer) (text : List ℕ) (rest : List (Option WireFault)) (left : List Answer) (new : S)
      → (p : Makes old messages given new) → AreTold fs given text rest left → AreRead lines messages fs → Told old lines text p.made p.unmade rest left p.mid
  told_so old lines messages fs given text rest left new p told read =
      tell old lines text p.made p.unmade told.done rest told.told left p.mid
      (subst (λ (ms : List Message). AreRead lines ms (told.done ++ rest)) p.split (subst (AreRead lines messages) told.lines read))
      told.texts
      (subst (λ (answers : List Answer). MakesAll step old p.made answers p.mid) told.answered p.makes)

  -- ---- where all lines have answers

  none_read : (lines : List (List ℕ)) (later unmade : List Message) → AreRead lines (later ++ unmade) [] → (lines ≡ []) × (later ≡ []) × (unmade ≡ [])
  none_read [] [] [] p = (refl, refl, refl)
  none_read [] [] (m ∷ unmade) p = absurd (cc)
  none_read [] (m ∷ later) unmade p = absurd (cc)
  none_read (line ∷ lines) later unmade p = absurd p

  none_makes : (old : S) (left : List Answer) (new : S) → MakesAll step old [] left new → (left ≡ []) × (new ≡ old)
  none_makes old [] new same = (refl, same)
  none_makes old (answer ∷ left) new p = absurd p

  -- nothing more is made, where no call is left
  stays : (old : S) (later : List Message) (left : List Answer) (new : S) → later ≡ [] → MakesAll step old later left new → new ≡ old
  stays old later left new none p = (none_makes old left new (subst (λ (ms : List Message). MakesAll step old ms left new) none p)).1

  no_split : (tried left : List Message) → [] ≡ tried ++ left → tried ≡ []
  no_split [] left is = refl
  no_split (m ∷ tried) left is = absurd (cc)

  pub all_told : (old : S) (lines : List (List ℕ)) (messages : List Message) (fs : List (Option WireFault)) (given : List Answer) (text : List ℕ) (left : List Answer) (new : S)
      → AddsAll step old messages [] given new → AreTold fs given text [] left → AreRead lines messages fs → AnswersLines step old lines text new (length messages)
  unfolding makes_all
  all_told old lines messages fs given text left new all told read =
      let p = told_so old lines messages fs given text [] left new (makes_all old messages given new all) told read in
      let none = none_read p.others p.later [] p.read in
      let whole : lines ≡ p.first = p.split ∙ ap (λ (ls : List (List ℕ)). p.first ++ ls) none.0 ∙ append-nil p.first in
      let same : new ≡ p.last = stays p.last p.later left new none.1 p.makes in
      let count : p.steps ≡ length messages = (let so : length messages ≡ p.steps + length p.later = p.count in let no : length p.later ≡ 0 = ap (λ (ms : List Message). length ms) none.1 in omega arith) in
      subst (λ (n : ℕ). AnswersLines step old lines text new n) count
      (subst (λ s. AnswersLines step old lines text s p.steps) (sym same) (subst (λ (ls : List (List ℕ)). AnswersLines step old ls text p.last p.steps) (sym whole) p.answers))

  abbrev made_first : (old : S) (lines : List (List ℕ)) (text : List ℕ) (made unmade : List Message) (rest : List (Option WireFault)) (left : List Answer) (mid : S) → Told old lines text made unmade rest left mid → Made step old lines
  made_first old lines text made unmade rest left mid p = record { first = p.first; others = p.others; text = text; last = p.last; steps = p.steps; split = p.split; answers = p.answers }

  -- ---- where the next line has none

  abbrev Ends : List Message → S → S → Type 0
  Ends unmade mid new = ((unmade ≡ []) × (new ≡ mid)) ⊎ ((tried : List Message) × (left : List Message) × (unmade ≡ tried ++ left) × fails mid tried new)

  fails_asked : (old : S) (lines : List (List ℕ)) (unmade : List Message) (fs : List (Option WireFault)) (mid new : S) → mid ≡ old → AreRead lines unmade (None ∷ fs) → Ends unmade mid new → FailsNext true fails old lines new
  fails_asked old [] unmade fs mid new same p ends = absurd p
  fails_asked old (line ∷ lines) [] fs mid new same p ends = absurd p
  fails_asked old (line ∷ lines) (m ∷ unmade) fs mid new same p (inl none) = absurd (cc)
  fails_asked old (line ∷ lines) (m ∷ unmade) fs mid new same p (inr (tried, left, split, failed)) =
      (tried, asks (line ∷ lines) tried left fs (subst (λ (ms : List Message). AreRead (line ∷ lines) ms (None ∷ fs)) split p), subst (λ s. fails s tried new) same failed)

  -- further calls, of which those that are made have answers
  further : (old : S) (lines : List (List ℕ)) (made unmade : List Message) (fs : List (Option WireFault)) (given : List Answer) (mid new : S)
      → AreRead lines (made ++ unmade) fs → MakesAll step old made given mid → Ends unmade mid new → MayMake step fails old lines new
  further old [] [] unmade [] given mid new read makes (inl ends) = (made_none step fails old [], inl (ends.1 ∙ (none_makes old given mid makes).1))
  further old [] [] unmade [] given mid new read makes (inr (tried, left, split, failed)) =
      let none : tried ≡ [] = no_split tried left (sym read ∙ split) in
      (made_none step fails old [], inr ([], tt, subst (λ (ms : List Message). fails old ms new) none (subst (λ s. fails s tried new) (none_makes old given mid makes).1 failed)))
  further old [] (m ∷ made) unmade [] given mid new read makes ends = absurd (cc)
  further old [] made unmade (f ∷ fs) given mid new read makes ends = absurd read
  further old (line ∷ lines) made unmade [] given mid new read makes ends = absurd read
  further old (line ∷ lines) made unmade (Some fault ∷ fs) given mid new (here, more) makes ends =
      let p = further old lines made unmade fs given mid new more makes ends in
      (made_line step fails old old line (fault_text fault) lines 0 (fault_line old line fault here) p.0, p.1)
  further old (line ∷ lines) [] unmade (None ∷ fs) given mid new read makes (inl ends) = (made_none step fails old (line ∷ lines), inl (ends.1 ∙ (none_makes old given mid makes).1))
  further old (line ∷ lines) [] unmade (None ∷ fs) given mid new read makes (inr failed) =
      (made_none step fails old (line ∷ lines), inr (fails_asked old (line ∷ lines) unmade fs mid new (none_makes old given mid makes).1 read (inr failed)))
  further old (line ∷ lines) (m ∷ made) unmade (None ∷ fs) [] mid new read makes ends = absurd makes
  further old (line ∷ lines) (m ∷ made) unmade (None ∷ fs) (answer ∷ given) mid new (here, more) (after, stepped, makes) ends =
      let p = further after lines made unmade fs given mid new more makes ends in
      (made_line step fails old after line (answer_text answer) lines 1 (message_line old line m answer after here stepped) p.0, p.1)

  lost : (old : S) (lines : List (List ℕ)) (made unmade : List Message) (fault : Option WireFault) (fs : List (Option WireFault)) (given : List Answer) (mid new : S)
      → AreRead lines (made ++ unmade) (fault ∷ fs) → MakesAll step old made given mid → Ends unmade mid new → LacksText fault given OutOfMemory → LosesNext step true fails old lines new
  lost old [] made unmade fault fs given mid new read makes ends lacks = absurd read
  lost old (line ∷ lines) made unmade (Some fault) fs given mid new (here, more) makes ends lacks =
      (old, fault_text fault, 0, fault_line old line fault here, further old lines made unmade fs given mid new more makes ends)
  lost old (line ∷ lines) [] unmade None fs [] mid new read makes ends lacks = absurd (cc)
  lost old (line ∷ lines) [] unmade None fs (answer ∷ given) mid new read makes ends lacks = absurd makes
  lost old (line ∷ lines) (m ∷ made) unmade None fs [] mid new read makes ends lacks = absurd makes
  lost old (line ∷ lines) (m ∷ made) unmade None fs (answer ∷ given) mid new (here, more) (after, stepped, makes) ends lacks =
      (after, answer_text answer, 1, message_line old line m answer after here stepped, further after lines made unmade fs given mid new more makes ends)

  unanswered : (old : S) (lines : List (List ℕ)) (made unmade : List Message) (fault : Option WireFault) (fs : List (Option WireFault)) (given : List Answer) (mid new : S)
      → AreRead lines (made ++ unmade) (fault ∷ fs) → MakesAll step old made given mid → Ends unmade mid new → (fault ≡ None) × (given ≡ []) → FailsNext true fails old lines new
  unanswered old lines made unmade (Some fault) fs given mid new read makes ends lacks = absurd (cc)
  unanswered old lines made unmade None fs (answer ∷ given) mid new read makes ends lacks = absurd (cc)
  unanswered old lines (m ∷ made) unmade None fs [] mid new read makes ends lacks = absurd makes
  unanswered old lines [] unmade None fs [] mid new read makes ends lacks = fails_asked old lines unmade fs mid new makes read ends

  lacking : (why : ServeFault) (old : S) (lines : List (List ℕ)) (made unmade : List Message) (fault : Option WireFault) (fs : List (Option WireFault)) (given : List Answer) (mid new : S)
      → AreRead lines (made ++ unmade) (fault ∷ fs) → MakesAll step old made given mid → Ends unmade mid new → LacksText fault given why → LacksNext step fails old lines new why
  lacking Read old lines made unmade (Some fault) fs given mid new read makes ends lacks = absurd lacks
  lacking Read old lines made unmade None fs given mid new read makes ends lacks = absurd lacks
  lacking Write old lines made unmade (Some fault) fs given mid new read makes ends lacks = absurd lacks
  lacking Write old lines made unmade None fs given mid new read makes ends lacks = absurd lacks
  lacking OutOfMemory old lines made unmade fault fs given mid new read makes ends lacks = lost old lines made unmade fault fs given mid new read makes ends lacks
  lacking NoAnswer old lines made unmade fault fs given mid new read makes ends lacks = unanswered old lines made unmade fault fs given mid new read makes ends lacks
  lacking Turns old lines made unmade (Some fault) fs given mid new read makes ends lacks = absurd lacks
  lacking Turns old lines made unmade None fs given mid new read makes ends lacks = absurd lacks

  pub some_told : (old : S) (lines : List (List ℕ)) (messages : List Message) (fs : List (Option WireFault)) (given : List Answer) (text : List ℕ) (why : ServeFault) (new : S)
      → Makes old messages given new → StopsAt fs given text why → AreRead lines messages fs → AnswersSome step fails old lines text new why
  some_told old lines messages fs given text why new makes stops read =
      let p = told_so old lines messages fs given text (stops.fault ∷ stops.rest) stops.left new makes stops.told read in
      (made_first old lines text makes.made makes.unmade (stops.fault ∷ stops.rest) stops.left makes.mid p, refl, lacking why p.last p.others p.later makes.unmade stops.fault stops.rest stops.left makes.mid new p.read p.makes makes.ends stops.lacks)

  -- all lines have answers, though it was said that some have none
  pub all_failed : (old : S) (lines : List (List ℕ)) (messages : List Message) (fs : List (Option WireFault)) (given : List Answer) (text : List ℕ) (left : List Answer) (new : S)
      → AddsSome step fails old messages [] given new → AreTold fs given text [] left → AreRead lines messages fs → AnswersSome step fails old lines text new NoAnswer
  unfolding makes_some
  all_failed old lines messages fs given text left new some told read =
      let p = told_so old lines messages fs given text [] left new (makes_some old messages given new some) told read in
      let none = none_read p.others p.later (some.tried ++ some.left) p.read in
      let same : some.mid ≡ p.last = stays p.last p.later left some.mid none.1 p.makes in
      let tried : some.tried ≡ [] = no_split some.tried some.left (sym none.2) in
      (made_first old lines text some.made (some.tried ++ some.left) [] left some.mid p, refl, ([], asks_none p.others, subst (λ (ms : List Message). fails p.last ms new) tried (subst (λ s. fails s some.tried new) same some.failed)))
    where
      asks_none : (lines : List (List ℕ)) → Asks lines []
      asks_none [] = tt
      asks_none (line ∷ lines) = tt
