-- Laws of answering lines in groups.
use Rattle.std.proofs.Common.{◌≡◌, ℕ, ◌+◌, Bool, true, false, cond, List, [], ◌∷◌, ◌++◌, ◌⊎◌, Option, Ok, refl, sym, ap, subst, ◌∙◌, append_assoc, append-nil, inl, inr, arith}
use Rattle.pana_calls.specs.Session.{one}
use Rattle.pana_calls.specs.declared.call.Call.{Call}
use Rattle.pana_calls.specs.declared.answer.Answer.{Answer}
use Rattle.pana_calls.specs.declared.message.Message.{Message}
use Rattle.pana_wire.specs.declared.tap.Tap.{Tap}
use Rattle.pana_wire.specs.Line.{line_says}
use Rattle.pana_wire.specs.declared.serving.ServeFault.{ServeFault}
use Rattle.pana_wire.specs.declared.serving.ServeFault.TheVariants.{Read, Write, OutOfMemory, NoAnswer, Turns}
use Rattle.pana_wire.specs.Tap.{Note, noted_at, IsNoted}
use Rattle.pana_wire.specs.Session.{AnswersLine, AnswersLines, Made, LosesNext, FailsNext, MayCallNext, lines_come}
use Rattle.pana_wire.specs.Lines.{ended, unended, last_line}
use Rattle.pana_wire.specs.Groups.{EndsGroupsBy, joined, AnswersGroups, AnswersAll, BreaksGroup, BreaksAmong}
use Rattle.pana_wire.specs.inner.Progress.{IsLost, Releases, Holds, Reaches, Advances, Breaks, BreaksNext, Puts}
use Rattle.pana_wire.specs.inner.Rounds.{AnswersSome, LacksNext}
use Rattle.pana_wire.specs.inner.Writing.{WritesPrefix}
use Rattle.pana_wire.proofs.Lines.{ended_append}
use Rattle.pana_wire.proofs.Next.{fails_more, made_more, loses_more, calls_more, none_called, fails_called, loses_called, one_fails, one_loses}
use Rattle.pana_wire.proofs.Notes.{none_noted, text_noted, noted_then}
use Rattle.pana_wire.proofs.Steps.{lines_append, one_answered}

pub joined_append : (gs hs : List (List (List ℕ))) → joined (gs ++ hs) ≡ joined gs ++ joined hs
joined_append [] hs = refl
joined_append (g ∷ gs) hs = ap (λ (ls : List (List ℕ)). g ++ ls) (joined_append gs hs) ∙ sym (append_assoc g (joined gs) (joined hs))

joined_more : (gs : List (List (List ℕ))) (lines : List (List ℕ)) → joined (gs ++ lines ∷ []) ≡ joined gs ++ lines
joined_more gs lines = joined_append gs (lines ∷ []) ∙ ap (λ (ls : List (List ℕ)). joined gs ++ ls) (append-nil lines)

module _ {S : Type 0} (step : S → List ℕ → Call → Answer → S → Type 0) (settles : S → S → Type 0) (moment : S → ℕ) where
  pub groups_append : (old : S) (gs hs : List (List (List ℕ))) (xs ys : List Note) (mid new : S) (m n : ℕ)
      → AnswersGroups step settles moment old gs xs mid m → AnswersGroups step settles moment mid hs ys new n → AnswersGroups step settles moment old (gs ++ hs) (xs ++ ys) new (m + n)
  groups_append old [] hs xs ys mid new m n p q =
      let none : m ≡ 0 = p.2 in
      let sum : n ≡ m + n = omega arith in
      subst (λ (k : ℕ). AnswersGroups step settles moment old hs (xs ++ ys) new k) sum
      (subst (λ (notes : List Note). AnswersGroups step settles moment old hs (notes ++ ys) new n) (sym p.0) (subst (λ s. AnswersGroups step settles moment s hs ys new n) p.1 q))
  groups_append old (g ∷ gs) hs xs ys mid new m n p q =
      let (made, settled, text, rest, first, others, answers, settles_so, more, whole, count) = p in (
        made,
        settled,
        text,
        rest ++ ys,
        first,
        others + n,
        answers,
        settles_so,
        groups_append settled gs hs rest ys mid new others n more q,
        ap (λ (notes : List Note). notes ++ ys) whole ∙ append_assoc (noted_at (moment settled) text) rest ys,
        omega arith,
      )

  pub one_group : (old : S) (lines : List (List ℕ)) (text : List ℕ) (made settled : S) (n : ℕ) → AnswersLines step old lines text made n → settles made settled
      → AnswersGroups step settles moment old (lines ∷ []) (noted_at (moment settled) text) settled n
  one_group old lines text made settled n answers settled_so =
      (made, settled, text, [], n, 0, answers, settled_so, (refl, refl, refl), sym (append-nil (noted_at (moment settled) text)), omega arith)

  -- where no answer is written, no line is answered
  some_text : (text rest : List ℕ) → [] ≡ text ++ 10 ∷ rest → ⊥
  some_text [] rest is = cc
  some_text (b ∷ text) rest is = cc

  pub none_answered : (old : S) (lines : List (List ℕ)) (new : S) (n : ℕ) → AnswersLines step old lines [] new n → (lines ≡ []) × (new ≡ old) × (n ≡ 0)
  none_answered old [] new n p = (refl, p.1, p.2)
  none_answered old (line ∷ lines) new n p =
      let (mid, text, rest, first, others, here, later, whole, count) = p in absurd (some_text text rest whole)

module _ {W S : Type 0} (contents : W → Option (List ℕ)) (step : S → List ℕ → Call → Answer → S → Type 0) (together : Bool) (fails : S → List Message → S → Type 0) (settles breaks_off : S → S → Type 0) (moment : S → ℕ) where
  abbrev Far : Tap W → Tap W → S → List (List ℕ) → S → List ℕ → ℕ → Type 0
  Far a b old lines new held calls = Reaches contents step together fails settles breaks_off moment a b old lines new held calls

  abbrev Goes : Tap W → Tap W → S → S → List ℕ → List ℕ → List (List ℕ) → ℕ → Type 0
  Goes a b old new q r lines calls = Advances contents step together fails settles breaks_off moment a b old new q r lines calls

  abbrev Ends : Tap W → Tap W → S → S → List ℕ → List (List ℕ) → ServeFault → Type 0
  Ends a b old new q lines fault = BreaksNext contents step together fails settles breaks_off moment a b old new q lines fault

  abbrev Out : Tap W → Tap W → S → S → List ℕ → Type 0
  Out a b old new text = Releases contents step together fails settles breaks_off moment a b old new text

  abbrev Kept : Tap W → Tap W → S → S → List ℕ → ServeFault → Type 0
  Kept a b old new text fault = Holds contents step together fails settles breaks_off moment a b old new text fault

  abbrev Broken : Tap W → Tap W → S → List (List ℕ) → S → ServeFault → Type 0
  Broken a b old lines new fault = Breaks contents step together fails settles breaks_off moment a b old lines new fault

  pub begun : (a : Tap W) (old : S) → Far a a old [] old [] 0
  begun a old = record {
    groups = [];
    others = [];
    notes = [];
    last = old;
    made = 0;
    more = 0;
    split = refl;
    answers = (refl, refl, refl);
    answered = (refl, refl, refl);
    noted = none_noted contents a;
    count = omega arith;
  }

  -- the same lines and calls, written otherwise
  far_same : (a b : Tap W) (old : S) (ls ms : List (List ℕ)) (new : S) (held : List ℕ) (m n : ℕ) → ms ≡ ls → n ≡ m → Far a b old ls new held m → Far a b old ms new held n
  far_same a b old ls ms new held m n lines calls p = record {
    groups = p.groups;
    others = p.others;
    notes = p.notes;
    last = p.last;
    made = p.made;
    more = p.more;
    split = lines ∙ p.split;
    answers = p.answers;
    answered = p.answered;
    noted = p.noted;
    count = calls ∙ p.count;
  }

  -- further lines are answered
  held_many : (a b : Tap W) (first : S) (before : List (List ℕ)) (old : S) (held : List ℕ) (sofar : ℕ) (lines : List (List ℕ)) (text : List ℕ) (new : S) (n : ℕ)
      → Far a b first before old held sofar → AnswersLines step old lines text new n → Far a b first (before ++ lines) new (held ++ text) (sofar + n)
  held_many a b first before old held sofar lines text new n p answers = record {
    groups = p.groups;
    others = p.others ++ lines;
    notes = p.notes;
    last = p.last;
    made = p.made;
    more = p.more + n;
    split = ap (λ (ls : List (List ℕ)). ls ++ lines) p.split ∙ append_assoc (joined p.groups) p.others lines;
    answers = p.answers;
    answered = lines_append step p.last p.others lines held text old new p.more n p.answered answers;
    noted = p.noted;
    count = let so : sofar ≡ p.made + p.more = p.count in omega arith;
  }

  -- what was held is settled, and written
  pub released : (a b c : Tap W) (first : S) (lines : List (List ℕ)) (old new : S) (held : List ℕ) (sofar : ℕ)
      → Far a b first lines old held sofar → Out b c old new held → Far a c first lines new [] sofar
  released a b c first lines old new held sofar p out = record {
    groups = p.groups ++ p.others ∷ [];
    others = [];
    notes = p.notes ++ noted_at (moment new) held;
    last = new;
    made = p.made + p.more;
    more = 0;
    split = p.split ∙ sym (joined_more p.groups p.others) ∙ sym (append-nil (joined (p.groups ++ p.others ∷ [])));
    answers = groups_append step settles moment first p.groups (p.others ∷ []) p.notes (noted_at (moment new) held) p.last new p.made p.more p.answers
        (one_group step settles moment p.last p.others held old new p.more p.answered out.settled);
    answered = (refl, refl, refl);
    noted = noted_then contents a b c p.notes (noted_at (moment new) held) p.noted (text_noted contents (moment new) b c held out.writes.notes out.writes.written);
    count = let so : sofar ≡ p.made + p.more = p.count in omega arith;
  }

  -- ---- lines that come next

  pub none_next : (a : Tap W) (old : S) (held : List ℕ) → Goes a a old old held held [] 0
  none_next a old held begun first before sofar p = far_same begun a first before (before ++ []) old held sofar (sofar + 0) (append-nil before) (omega arith) p

  pub next_then : (a b c : Tap W) (old mid new : S) (q r s : List ℕ) (ls ms : List (List ℕ)) (m n : ℕ) → Goes a b old mid q r ls m → Goes b c mid new r s ms n → Goes a c old new q s (ls ++ ms) (m + n)
  next_then a b c old mid new q r s ls ms m n one two begun first before sofar p =
      far_same begun c first ((before ++ ls) ++ ms) (before ++ (ls ++ ms)) new s (sofar + m + n) (sofar + (m + n)) (sym (append_assoc before ls ms)) (omega arith)
      (two begun first (before ++ ls) (sofar + m) (one begun first before sofar p))

  pub next_same : (a b : Tap W) (old new : S) (q r : List ℕ) (ls ms : List (List ℕ)) (m n : ℕ) → ms ≡ ls → n ≡ m → Goes a b old new q r ls m → Goes a b old new q r ms n
  next_same a b old new q r ls ms m n lines calls one begun first before sofar p =
      far_same begun b first (before ++ ls) (before ++ ms) new r (sofar + m) (sofar + n) (ap (λ (xs : List (List ℕ)). before ++ xs) lines) (ap (λ (k : ℕ). sofar + k) calls) (one begun first before sofar p)

  -- lines whose answers are held, or written behind what was held
  pub lines_put : (a b : Tap W) (old mid new : S) (q r : List ℕ) (lines : List (List ℕ)) (text : List ℕ) (n : ℕ) → AnswersLines step old lines text mid n
      → Puts contents step together fails settles breaks_off moment a b mid new q r text → Goes a b old new q r lines n
  lines_put a b old mid new q r lines text n answers (inl held) begun first before sofar p =
      let here = held_many begun a first before old q sofar lines text mid n p answers in
      subst (λ (t : Tap W). Far begun t first (before ++ lines) new r (sofar + n)) (sym held.0)
      (subst (λ s. Far begun a first (before ++ lines) s r (sofar + n)) (sym held.1)
      (subst (λ (t : List ℕ). Far begun a first (before ++ lines) mid t (sofar + n)) (sym held.2) here))
  lines_put a b old mid new q r lines text n answers (inr out) begun first before sofar p =
      let here = held_many begun a first before old q sofar lines text mid n p answers in
      subst (λ (t : List ℕ). Far begun b first (before ++ lines) new t (sofar + n)) (sym out.1)
      (released begun a b first (before ++ lines) mid new (q ++ text) (sofar + n) here out.0)

  -- one line
  pub line_put : (a b : Tap W) (old mid new : S) (q r : List ℕ) (line text : List ℕ) (n : ℕ) → AnswersLine step old line text mid n
      → Puts contents step together fails settles breaks_off moment a b mid new q r (text ++ 10 ∷ []) → Goes a b old new q r (line ∷ []) n
  line_put a b old mid new q r line text n answers puts = lines_put a b old mid new q r (line ∷ []) (text ++ 10 ∷ []) n (one_answered step old line text mid n answers) puts

  -- what is held is sent, or nothing is held
  pub sent : (a b : Tap W) (old new : S) (q r : List ℕ) → r ≡ [] → ((b ≡ a) × (new ≡ old) × (q ≡ [])) ⊎ Out a b old new q → Goes a b old new q r [] 0
  sent a b old new q r empty (inl none) begun first before sofar p =
      let here = none_next a old q begun first before sofar p in
      subst (λ (t : Tap W). Far begun t first (before ++ []) new r (sofar + 0)) (sym none.0)
      (subst (λ s. Far begun a first (before ++ []) s r (sofar + 0)) (sym none.1)
      (subst (λ (t : List ℕ). Far begun a first (before ++ []) old t (sofar + 0)) (none.2 ∙ sym empty) here))
  sent a b old new q r empty (inr out) begun first before sofar p =
      subst (λ (t : List ℕ). Far begun b first (before ++ []) new t (sofar + 0)) (sym empty)
      (released begun a b first (before ++ []) old new q (sofar + 0) (none_next a old q begun first before sofar p) out)

  -- all lines are answered, where nothing is held
  pub all_answered : (a b : Tap W) (old : S) (lines : List (List ℕ)) (new : S) (calls : ℕ) → (p : Far a b old lines new [] calls) → AnswersAll step settles moment old lines p.notes new calls
  all_answered a b old lines new calls p =
      let none = none_answered step settles moment p.last p.others new p.more p.answered in
      let sum : p.made ≡ calls = (let no : p.more ≡ 0 = none.2 in let so : calls ≡ p.made + p.more = p.count in omega arith) in (
        p.groups,
        p.split ∙ ap (λ (ls : List (List ℕ)). joined p.groups ++ ls) none.0 ∙ append-nil (joined p.groups),
        subst (λ s. AnswersGroups step settles moment old p.groups p.notes s calls) (sym none.1) (subst (λ (k : ℕ). AnswersGroups step settles moment old p.groups p.notes p.last k) sum p.answers),
      )

  -- ---- where serving breaks off

  -- the calls that were made, whose answers are held, and then other lines
  abbrev made_so : (a b : Tap W) (first : S) (before : List (List ℕ)) (old : S) (held : List ℕ) (sofar : ℕ) (lines : List (List ℕ)) → (p : Far a b first before old held sofar) → Made step p.last (p.others ++ lines)
  made_so a b first before old held sofar lines p = record { first = p.others; others = lines; text = held; last = old; steps = p.more; split = refl; answers = p.answered }

  among : (a b c : Tap W) (first : S) (before : List (List ℕ)) (old : S) (held : List ℕ) (sofar : ℕ) (lines : List (List ℕ)) (new : S) (fault : ServeFault) (part : List Note)
      → (p : Far a b first before old held sofar) → BreaksGroup step together fails settles breaks_off moment fault p.last (p.others ++ lines) part new → IsNoted contents b c part → Broken a c first (before ++ lines) new fault
  among a b c first before old held sofar lines new fault part p breaks notes = record {
    notes = p.notes ++ part;
    noted = noted_then contents a b c p.notes part p.noted notes;
    breaks = record {
      groups = p.groups;
      others = p.others ++ lines;
      whole = p.notes;
      part = part;
      last = p.last;
      steps = p.made;
      split = ap (λ (ls : List (List ℕ)). ls ++ lines) p.split ∙ append_assoc (joined p.groups) p.others lines;
      answers = p.answers;
      breaks = breaks;
      noted = refl;
    };
  }

  -- a write of what is settled failed
  pub kept_written : (a b : Tap W) (old new : S) (text : List ℕ) (fault : ServeFault) → settles old new → WritesPrefix contents (moment new) a b text fault → Kept a b old new text fault
  kept_written a b old new text fault settled p =
      subst (λ (f : ServeFault). Kept a b old new text f) (sym p.is_write) (settled, subst (λ (f : ServeFault). WritesPrefix contents (moment new) a b text f) p.is_write p)

  -- what is held can't be written
  pub held_breaks : (a b : Tap W) (old mid new : S) (q : List ℕ) (lines : List (List ℕ)) (fault : ServeFault) → MayCallNext step together fails old lines mid → Kept a b mid new q fault → Ends a b old new q lines fault
  held_breaks a b old mid new q lines Read calls never begun first before sofar p = absurd never
  held_breaks a b old mid new q lines Write calls (settled, writes) begun first before sofar p =
      let (part, rest, notes, written, split) = writes.notes in
      among begun a b first before old q sofar lines new Write (noted_at (moment new) part) p
      (made_so begun a first before old q sofar lines p, mid, part, calls, settled, (rest, sym split), refl)
      (text_noted contents (moment new) a b part notes written)
  held_breaks a b old mid new q lines OutOfMemory calls never begun first before sofar p = absurd never
  held_breaks a b old mid new q lines NoAnswer calls (off, same) begun first before sofar p =
      among begun a b first before old q sofar lines new NoAnswer [] p
      (made_so begun a first before old q sofar lines p, mid, inr (calls, off, refl))
      (subst (λ (t : Tap W). IsNoted contents a t []) (sym same) (none_noted contents a))
  held_breaks a b old mid new q lines Turns calls never begun first before sofar p = absurd never

  -- the same, where no further call is made
  pub kept_breaks : (a b : Tap W) (old new : S) (q : List ℕ) (lines : List (List ℕ)) (fault : ServeFault) → Kept a b old new q fault → Ends a b old new q lines fault
  kept_breaks a b old new q lines fault kept = held_breaks a b old old new q lines fault (none_called step fails together old lines) kept

  fail_breaks : (a b : Tap W) (old mid new : S) (q : List ℕ) (lines : List (List ℕ)) → FailsNext together fails old lines mid → Out a b mid new q → Ends a b old new q lines NoAnswer
  fail_breaks a b old mid new q lines failed out begun first before sofar p =
      among begun a b first before old q sofar lines new NoAnswer (noted_at (moment new) q) p
      (made_so begun a first before old q sofar lines p, mid, inl (failed, out.settled, refl))
      (text_noted contents (moment new) a b q out.writes.notes out.writes.written)

  lose_breaks : (a b : Tap W) (old mid new : S) (q : List ℕ) (lines : List (List ℕ)) → LosesNext step together fails old lines mid → Out a b mid new q → Ends a b old new q lines OutOfMemory
  lose_breaks a b old mid new q lines lost out begun first before sofar p =
      among begun a b first before old q sofar lines new OutOfMemory (noted_at (moment new) q) p
      (made_so begun a first before old q sofar lines p, mid, lost, out.settled, refl)
      (text_noted contents (moment new) a b q out.writes.notes out.writes.written)

  -- the call of the line that comes next has no answer, or none that could be written
  next_lost : (line : List ℕ) (m : Message) (old mid : S) (fault : ServeFault) → line_says line ≡ Ok m → IsLost step (one fails) old m.by m.call mid fault → MayCallNext step together fails old (line ∷ []) mid
  next_lost line m old mid Read says lost = absurd lost
  next_lost line m old mid Write says lost = absurd lost
  next_lost line m old mid OutOfMemory says (answer, done) = loses_called step fails together old (line ∷ []) mid (one_loses step fails together old line m answer mid says done)
  next_lost line m old mid NoAnswer says failed = fails_called step fails together old (line ∷ []) mid (one_fails step fails together old line m mid says failed)
  next_lost line m old mid Turns says lost = absurd lost

  pub lost_held : (a b : Tap W) (old mid new : S) (q line : List ℕ) (m : Message) (lost fault : ServeFault) → line_says line ≡ Ok m → IsLost step (one fails) old m.by m.call mid lost → Kept a b mid new q fault → Ends a b old new q (line ∷ []) fault
  lost_held a b old mid new q line m lost fault says is kept = held_breaks a b old mid new q (line ∷ []) fault (next_lost line m old mid lost says is) kept

  pub lost_breaks : (a b : Tap W) (old mid new : S) (q line : List ℕ) (m : Message) (fault : ServeFault) → line_says line ≡ Ok m → IsLost step (one fails) old m.by m.call mid fault → Out a b mid new q → Ends a b old new q (line ∷ []) fault
  lost_breaks a b old mid new q line m Read says lost out = absurd lost
  lost_breaks a b old mid new q line m Write says lost out = absurd lost
  lost_breaks a b old mid new q line m OutOfMemory says (answer, done) out = lose_breaks a b old mid new q (line ∷ []) (one_loses step fails together old line m answer mid says done) out
  lost_breaks a b old mid new q line m NoAnswer says failed out = fail_breaks a b old mid new q (line ∷ []) (one_fails step fails together old line m mid says failed) out
  lost_breaks a b old mid new q line m Turns says lost out = absurd lost

  broken_same : (a b : Tap W) (old : S) (ls ms : List (List ℕ)) (new : S) (fault : ServeFault) → ms ≡ ls → Broken a b old ls new fault → Broken a b old ms new fault
  broken_same a b old ls ms new fault same p = subst (λ (xs : List (List ℕ)). Broken a b old xs new fault) (sym same) p

  -- behind lines that are answered, with what is held before them
  behind_many : (a b : Tap W) (old mid new : S) (q : List ℕ) (lines : List (List ℕ)) (text : List ℕ) (others : List (List ℕ)) (n : ℕ) (fault : ServeFault) → AnswersLines step old lines text mid n → Ends a b mid new (q ++ text) others fault → Ends a b old new q (lines ++ others) fault
  behind_many a b old mid new q lines text others n fault answers ends begun first before sofar p =
      broken_same begun b first ((before ++ lines) ++ others) (before ++ (lines ++ others)) new fault (sym (append_assoc before lines others))
      (ends begun first (before ++ lines) (sofar + n) (held_many begun a first before old q sofar lines text mid n p answers))

  -- the answers to lines can't be written
  pub texts_held : (a b : Tap W) (old mid new : S) (q : List ℕ) (lines : List (List ℕ)) (text : List ℕ) (n : ℕ) (fault : ServeFault) → AnswersLines step old lines text mid n → Kept a b mid new (q ++ text) fault → Ends a b old new q lines fault
  texts_held a b old mid new q lines text n fault answers kept begun first before sofar p =
      broken_same begun b first (before ++ (lines ++ [])) (before ++ lines) new fault (ap (λ (ls : List (List ℕ)). before ++ ls) (sym (append-nil lines)))
      (behind_many a b old mid new q lines text [] n fault answers (kept_breaks a b mid new (q ++ text) [] fault kept) begun first before sofar p)

  pub put_breaks : (a b : Tap W) (old mid new : S) (q : List ℕ) (line text : List ℕ) (n : ℕ) (fault : ServeFault) → AnswersLine step old line text mid n → Kept a b mid new (q ++ (text ++ 10 ∷ [])) fault → Ends a b old new q (line ∷ []) fault
  put_breaks a b old mid new q line text n fault answers kept = texts_held a b old mid new q (line ∷ []) (text ++ 10 ∷ []) n fault (one_answered step old line text mid n answers) kept

  pub ends_same : (a b : Tap W) (old new : S) (q : List ℕ) (ls ms : List (List ℕ)) (fault : ServeFault) → ms ≡ ls → Ends a b old new q ls fault → Ends a b old new q ms fault
  ends_same a b old new q ls ms fault same p = subst (λ (xs : List (List ℕ)). Ends a b old new q xs fault) (sym same) p

  -- after lines that are answered
  pub breaks_after : (a b c : Tap W) (old mid new : S) (q r : List ℕ) (ls ms : List (List ℕ)) (m : ℕ) (fault : ServeFault) → Goes a b old mid q r ls m → Ends b c mid new r ms fault → Ends a c old new q (ls ++ ms) fault
  breaks_after a b c old mid new q r ls ms m fault one two begun first before sofar p =
      broken_same begun c first ((before ++ ls) ++ ms) (before ++ (ls ++ ms)) new fault (sym (append_assoc before ls ms)) (two begun first (before ++ ls) (sofar + m) (one begun first before sofar p))

  -- where calls are made together: the answer to the line that comes next is lacking
  next_lacks : together ≡ true → (old : S) (lines : List (List ℕ)) (mid : S) (why : ServeFault) → LacksNext step fails old lines mid why → MayCallNext step together fails old lines mid
  next_lacks is old lines mid Read lacks = absurd lacks
  next_lacks is old lines mid Write lacks = absurd lacks
  next_lacks is old lines mid OutOfMemory lacks = rw is (loses_called step fails true old lines mid lacks)
  next_lacks is old lines mid NoAnswer lacks = rw is (fails_called step fails true old lines mid lacks)
  next_lacks is old lines mid Turns lacks = absurd lacks

  lacks_breaks : together ≡ true → (a b : Tap W) (old mid new : S) (q : List ℕ) (lines : List (List ℕ)) (why : ServeFault) → LacksNext step fails old lines mid why → Out a b mid new q → Ends a b old new q lines why
  lacks_breaks is a b old mid new q lines Read lacks out = absurd lacks
  lacks_breaks is a b old mid new q lines Write lacks out = absurd lacks
  lacks_breaks is a b old mid new q lines OutOfMemory lacks out = lose_breaks a b old mid new q lines (subst (λ (t : Bool). LosesNext step t fails old lines mid) (sym is) lacks) out
  lacks_breaks is a b old mid new q lines NoAnswer lacks out = fail_breaks a b old mid new q lines (subst (λ (t : Bool). FailsNext t fails old lines mid) (sym is) lacks) out
  lacks_breaks is a b old mid new q lines Turns lacks out = absurd lacks

  module _ (is : together ≡ true) (a b : Tap W) (old mid new : S) (q : List ℕ) (lines : List (List ℕ)) (text : List ℕ) (why : ServeFault) (some : AnswersSome step fails old lines text mid why) where
    -- the answers that there are can't be written
    pub some_held : (fault : ServeFault) → Kept a b mid new (q ++ text) fault → Ends a b old new q lines fault
    some_held fault kept =
        let (made, texts, lacks) = some in
        ends_same a b old new q (made.first ++ made.others) lines fault made.split
        (behind_many a b old made.last new q made.first made.text made.others made.steps fault made.answers
        (held_breaks a b made.last mid new (q ++ made.text) made.others fault (next_lacks is made.last made.others mid why lacks) (subst (λ (t : List ℕ). Kept a b mid new (q ++ t) fault) (sym texts) kept)))

    pub some_breaks : Out a b mid new (q ++ text) → Ends a b old new q lines why
    some_breaks out =
        let (made, texts, lacks) = some in
        ends_same a b old new q (made.first ++ made.others) lines why made.split
        (behind_many a b old made.last new q made.first made.text made.others made.steps why made.answers
        (lacks_breaks is a b made.last mid new (q ++ made.text) made.others why lacks (subst (λ (t : List ℕ). Out a b mid new (q ++ t)) (sym texts) out)))

  group_more : (fault : ServeFault) (old : S) (ls ms : List (List ℕ)) (part : List Note) (new : S) → BreaksGroup step together fails settles breaks_off moment fault old ls part new → BreaksGroup step together fails settles breaks_off moment fault old (ls ++ ms) part new
  group_more Read old ls ms part new p = absurd p
  group_more Write old ls ms part new (made, last, output, calls, settled, prefix, notes) = (made_more step fails old ls ms made, last, output, calls_more step fails together made.last made.others ms last calls, settled, prefix, notes)
  group_more OutOfMemory old ls ms part new (made, last, lost, settled, notes) = (made_more step fails old ls ms made, last, loses_more step fails together made.last made.others ms last lost, settled, notes)
  group_more NoAnswer old ls ms part new (made, last, inl (failed, settled, notes)) = (made_more step fails old ls ms made, last, inl (fails_more step fails together made.last made.others ms last failed, settled, notes))
  group_more NoAnswer old ls ms part new (made, last, inr (calls, off, notes)) = (made_more step fails old ls ms made, last, inr (calls_more step fails together made.last made.others ms last calls, off, notes))
  group_more Turns old ls ms part new p = absurd p

  pub among_more : (fault : ServeFault) (old : S) (ls ms : List (List ℕ)) (notes : List Note) (new : S) → BreaksAmong step together fails settles breaks_off moment fault old ls notes new → BreaksAmong step together fails settles breaks_off moment fault old (ls ++ ms) notes new
  among_more fault old ls ms notes new p = record {
    groups = p.groups;
    others = p.others ++ ms;
    whole = p.whole;
    part = p.part;
    last = p.last;
    steps = p.steps;
    split = ap (λ (xs : List (List ℕ)). xs ++ ms) p.split ∙ append_assoc (joined p.groups) p.others ms;
    answers = p.answers;
    breaks = group_more fault p.last p.others ms p.part new p.breaks;
    noted = p.noted;
  }

  -- with more lines behind
  pub breaks_more : (a b : Tap W) (old new : S) (q : List ℕ) (ls ms : List (List ℕ)) (fault : ServeFault) → Ends a b old new q ls fault → Ends a b old new q (ls ++ ms) fault
  breaks_more a b old new q ls ms fault one begun first before sofar p =
      let broken = one begun first before sofar p in
      record { notes = broken.notes; noted = broken.noted; breaks = subst (λ (xs : List (List ℕ)). BreaksAmong step together fails settles breaks_off moment fault first xs broken.notes new) (append_assoc before ls ms) (among_more fault first (before ++ ls) ms broken.notes new broken.breaks) }

  -- among lines that have ended, in a piece behind what was read
  come_more : (fault : ServeFault) (met : Bool) (old : S) (input : List ℕ) (notes : List Note) (new : S) → BreaksAmong step together fails settles breaks_off moment fault old (ended [] input) notes new → BreaksAmong step together fails settles breaks_off moment fault old (lines_come met input) notes new
  come_more fault true old input notes new p = among_more fault old (ended [] input) (last_line (unended [] input)) notes new p
  come_more fault false old input notes new p = p

  ends_so : (fault : ServeFault) (met : Bool) (old : S) (input : List ℕ) (notes : List Note) (new : S) → BreaksAmong step together fails settles breaks_off moment fault old (lines_come met input) notes new → EndsGroupsBy step together fails settles breaks_off moment fault met old input notes new
  ends_so Read met old input notes new p = absurd p.breaks
  ends_so Write met old input notes new p = p
  ends_so OutOfMemory met old input notes new p = p
  ends_so NoAnswer met old input notes new p = p
  ends_so Turns met old input notes new p = absurd p.breaks

  pub ends_by : (fault : ServeFault) (met : Bool) (old : S) (input piece : List ℕ) (notes : List Note) (new : S) → BreaksAmong step together fails settles breaks_off moment fault old (ended [] input ++ ended (unended [] input) piece) notes new → EndsGroupsBy step together fails settles breaks_off moment fault met old (input ++ piece) notes new
  ends_by fault met old input piece notes new p =
      ends_so fault met old (input ++ piece) notes new (come_more fault met old (input ++ piece) notes new (subst (λ (ls : List (List ℕ)). BreaksAmong step together fails settles breaks_off moment fault old ls notes new) (sym (ended_append [] input piece)) p))

  -- at the last line, once the end was met
  pub ends_last : (fault : ServeFault) (met : Bool) (old : S) (input : List ℕ) (notes : List Note) (new : S) → met ≡ true → BreaksAmong step together fails settles breaks_off moment fault old (ended [] input ++ last_line (unended [] input)) notes new → EndsGroupsBy step together fails settles breaks_off moment fault met old input notes new
  ends_last fault met old input notes new end p = subst (λ (t : Bool). EndsGroupsBy step together fails settles breaks_off moment fault t old input notes new) (sym end) (ends_so fault true old input notes new p)

pub not_held : (b : Bool) (x y z : List ℕ) → b ≡ false → z ≡ cond b x y → z ≡ y
not_held b x y z not is = is ∙ ap (λ t. cond t x y) not

pub is_held : (b : Bool) (x y z : List ℕ) → b ≡ true → z ≡ cond b x y → z ≡ x
is_held b x y z held is = is ∙ ap (λ t. cond t x y) held
