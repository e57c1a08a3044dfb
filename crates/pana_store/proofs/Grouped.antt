-- Laws of sessions whose calls are settled in groups: what holds over a whole session, and from then on at which the line that
-- acknowledges an entry was written. They are of any session for which a few facts hold of each step.
use Rattle.std.proofs.Common.{◌≡◌, ℕ, ◌<◌, ◌≤◌, ◌^◌, List, [], ◌∷◌, ◌++◌, ◌⊎◌, inl, inr, ⊎_elim, length, Result, Ok, Err, refl, sym, ap, subst, ◌∙◌, append-nil, append_assoc, arith, false}
use Rattle.std.proofs.lemmas.Fmt.{decimal_injective}
use Rattle.pana_journal.specs.declared.entry.Entry.{Entry}
use Rattle.pana_calls.specs.Session.{alone}
use Rattle.pana_calls.specs.declared.call.Call.{Call}
use Rattle.pana_calls.specs.declared.reply.Reply.{Reply}
use Rattle.pana_calls.specs.declared.answer.Answer.{Answer}
use Rattle.pana_calls.specs.declared.answer.Answer.TheVariants.{Given}
use Rattle.pana_wire.specs.declared.fault.WireFault.{WireFault}
use Rattle.pana_wire.specs.declared.fault.WireFault.TheVariants as faults
use Rattle.pana_calls.specs.declared.message.Message.{Message}
use Rattle.pana_wire.specs.declared.serving.ServeFault.{ServeFault}
use Rattle.pana_wire.specs.declared.serving.ServeFault.TheVariants.{Read, Write, OutOfMemory, NoAnswer, Turns}
use Rattle.pana_wire.specs.Groups.{AnswersGroups, BreaksGroup}
use Rattle.pana_wire.specs.Line.{line_says}
use Rattle.pana_wire.specs.Lines.{unended}
use Rattle.pana_wire.specs.Session.{AnswersSaid, AnswersLine, AnswersLines, Made, LosesNext, FailsNext, MayCallNext}
use Rattle.pana_wire.specs.Tap.{Note, noted_at, bytes_in}
use Rattle.pana_wire.proofs.InLine.{answer_in_line}
use Rattle.pana_wire.proofs.Notes.{noted_both}
use Rattle.pana_store.specs.Acknowledged.{AcknowledgesEntry, IsDone}
use Rattle.pana_store.proofs.Done.{fault_is_other, answer_is_done}
use Rattle.pana_store.proofs.Noted.{unended_after, unended_alone, ends_at}

abbrev pub newline : ℕ → Note
newline t = record { byte = 10; moment = t }

module _ {V : Type 0} (step : V → List ℕ → Call → Answer → V → Type 0) (fails : V → List ℕ → Call → V → Type 0) (settles off : V → V → Type 0) (moment : V → ℕ) (entries : V → List Entry)
    (Good : V → Type 0) (Runs : V → V → Type 0)
    (good_step : (s : V) (by : List ℕ) (call : Call) (answer : Answer) (t : V) → Good s → step s by call answer t → Good t)
    (good_settle : (s t : V) → Good s → settles s t → Good t)
    (runs_step : (z s : V) (by : List ℕ) (call : Call) (answer : Answer) (t : V) → Runs z s → step s by call answer t → Runs z t)
    (runs_fail : (z s : V) (by : List ℕ) (call : Call) (t : V) → Runs z s → fails s by call t → Runs z t)
    (runs_settle : (z s t : V) → Runs z s → settles s t → Runs z t)
    (runs_off : (z s t : V) → Runs z s → off s t → Runs z t) where
  run_said : (z s t : V) (said : Result Message WireFault) (text : List ℕ) (k : ℕ) → Runs z s → AnswersSaid step s said text t k → Runs z t
  run_said z s t (Err fault) text k run a = subst (Runs z) (sym a.1) run
  run_said z s t (Ok m) text k run (answer, done, is, one) = runs_step z s m.by m.call answer t run done

  run_line : (z s t : V) (line text : List ℕ) (k : ℕ) → Runs z s → AnswersLine step s line text t k → Runs z t
  run_line z s t line text k run (inl said) = run_said z s t (line_says line) text k run said
  run_line z s t line text k run (inr memory) = subst (Runs z) (sym memory.1) run

  pub run_lines : (z s t : V) (lines : List (List ℕ)) (text : List ℕ) (k : ℕ) → Runs z s → AnswersLines step s lines text t k → Runs z t
  run_lines z s t [] text k run a = subst (Runs z) (sym a.1) run
  run_lines z s t (line ∷ lines) text k run (next, first, rest, one, others, here, more, whole, count) = run_lines z next t lines rest others (run_line z s next line first one run here) more

  pub run_groups : (z s t : V) (groups : List (List (List ℕ))) (notes : List Note) (k : ℕ) → Runs z s → AnswersGroups step settles moment s groups notes t k → Runs z t
  run_groups z s t [] notes k run a = subst (Runs z) (sym a.1) run
  run_groups z s t (lines ∷ groups) notes k run (made, settled, text, rest, first, others, answers, so, more, whole, count) =
      run_groups z settled t groups rest others (runs_settle z made settled (run_lines z s made lines text first run answers) so) more

  run_lost : (z s t : V) (lines : List (List ℕ)) → Runs z s → LosesNext step false (alone fails) s lines t → Runs z t
  run_lost z s t [] run lost = absurd lost
  run_lost z s t (line ∷ lines) run (m, answer, says, done) = runs_step z s m.by m.call answer t run done

  run_fails : (z s t : V) (lines : List (List ℕ)) → Runs z s → FailsNext false (alone fails) s lines t → Runs z t
  run_fails z s t [] run none = absurd none
  run_fails z s t (line ∷ lines) run (m, says, none) = runs_fail z s m.by m.call t run none

  pub run_may : (z s t : V) (lines : List (List ℕ)) → Runs z s → MayCallNext step false (alone fails) s lines t → Runs z t
  run_may z s t lines run (inl same) = subst (Runs z) (sym same) run
  run_may z s t lines run (inr (inl lost)) = run_lost z s t lines run lost
  run_may z s t lines run (inr (inr none)) = run_fails z s t lines run none

  pub run_group : (fault : ServeFault) (z s t : V) (lines : List (List ℕ)) (part : List Note) → Runs z s → BreaksGroup step false (alone fails) settles off moment fault s lines part t → Runs z t
  run_group Read z s t lines part run breaks = absurd breaks
  run_group Write z s t lines part run (made, last, output, calls, so, prefix, is) =
      runs_settle z last t (run_may z made.last last made.others (run_lines z s made.last made.first made.text made.steps run made.answers) calls) so
  run_group OutOfMemory z s t lines part run (made, last, lost, so, is) =
      runs_settle z last t (run_lost z made.last last made.others (run_lines z s made.last made.first made.text made.steps run made.answers) lost) so
  run_group NoAnswer z s t lines part run (made, last, inl (none, so, is)) =
      runs_settle z last t (run_fails z made.last last made.others (run_lines z s made.last made.first made.text made.steps run made.answers) none) so
  run_group NoAnswer z s t lines part run (made, last, inr (calls, broken, is)) =
      runs_off z last t (run_may z made.last last made.others (run_lines z s made.last made.first made.text made.steps run made.answers) calls) broken
  run_group Turns z s t lines part run breaks = absurd breaks

  good_said : (s t : V) (said : Result Message WireFault) (text : List ℕ) (k : ℕ) → Good s → AnswersSaid step s said text t k → Good t
  good_said s t (Err fault) text k good a = subst Good (sym a.1) good
  good_said s t (Ok m) text k good (answer, done, is, one) = good_step s m.by m.call answer t good done

  good_line : (s t : V) (line text : List ℕ) (k : ℕ) → Good s → AnswersLine step s line text t k → Good t
  good_line s t line text k good (inl said) = good_said s t (line_says line) text k good said
  good_line s t line text k good (inr memory) = subst Good (sym memory.1) good

  pub good_lines : (s t : V) (lines : List (List ℕ)) (text : List ℕ) (k : ℕ) → Good s → AnswersLines step s lines text t k → Good t
  good_lines s t [] text k good a = subst Good (sym a.1) good
  good_lines s t (line ∷ lines) text k good (next, first, rest, one, others, here, more, whole, count) = good_lines next t lines rest others (good_line s next line first one good here) more

  pub good_groups : (s t : V) (groups : List (List (List ℕ))) (notes : List Note) (k : ℕ) → Good s → AnswersGroups step settles moment s groups notes t k → Good t
  good_groups s t [] notes k good a = subst Good (sym a.1) good
  good_groups s t (lines ∷ groups) notes k good (made, settled, text, rest, first, others, answers, so, more, whole, count) =
      good_groups settled t groups rest others (good_settle made settled (good_lines s made lines text first good answers) so) more

  -- ---- where a line acknowledges an entry

  module _ (grows : (s : V) (by : List ℕ) (call : Call) (answer : Answer) (t : V) → step s by call answer t → length (entries s) ≤ length (entries t))
      (done : (s : V) (by : List ℕ) (call : Call) (m : ℕ) (reply : Reply) (t : V) → IsDone m reply → step s by call (Given reply) t → (m ≡ length (entries t)) × (m < 2 ^ 64)) where
    said_grows : (s t : V) (said : Result Message WireFault) (text : List ℕ) (k : ℕ) → AnswersSaid step s said text t k → length (entries s) ≤ length (entries t)
    said_grows s t (Err fault) text k a = omega (arith, ap (λ (v : V). length (entries v)) a.1)
    said_grows s t (Ok m) text k (answer, made, is, one) = grows s m.by m.call answer t made

    line_grows : (s t : V) (line text : List ℕ) (k : ℕ) → AnswersLine step s line text t k → length (entries s) ≤ length (entries t)
    line_grows s t line text k (inl said) = said_grows s t (line_says line) text k said
    line_grows s t line text k (inr memory) = omega (arith, ap (λ (v : V). length (entries v)) memory.1)

    lines_grow : (s t : V) (lines : List (List ℕ)) (text : List ℕ) (k : ℕ) → AnswersLines step s lines text t k → length (entries s) ≤ length (entries t)
    lines_grow s t [] text k a = omega (arith, ap (λ (v : V). length (entries v)) a.1)
    lines_grow s t (line ∷ lines) text k (next, first, rest, one, others, here, more, whole, count) = omega (arith, line_grows s next line first one here, lines_grow next t lines rest others more)

    said_last : (s t : V) (said : Result Message WireFault) (text : List ℕ) (n k : ℕ) → n < 2 ^ 64 → AcknowledgesEntry n text → AnswersSaid step s said text t k → n ≡ length (entries t)
    said_last s t (Err fault) text n k small line a = absurd (fault_is_other fault n (subst (AcknowledgesEntry n) a.0 line))
    said_last s t (Ok m) text n k small line (answer, made, is, one) =
        let (count, reply, given, is_done, digits) = answer_is_done answer n (subst (AcknowledgesEntry n) is line) in
        let last = done s m.by m.call count reply t is_done (subst (λ (a : Answer). step s m.by m.call a t) given made) in
        sym (decimal_injective count n last.1 small digits) ∙ last.0

    -- the line is the answer to the call that made the entry
    line_last : (s t : V) (line text : List ℕ) (n k : ℕ) → n < 2 ^ 64 → AcknowledgesEntry n text → AnswersLine step s line text t k → n ≡ length (entries t)
    line_last s t line text n k small is (inl said) = said_last s t (line_says line) text n k small is said
    line_last s t line text n k small is (inr memory) = absurd (fault_is_other faults.OutOfMemory n (subst (AcknowledgesEntry n) memory.0 is))

    -- the newline comes in what follows
    abbrev pub Behind : List Note → List Note → ℕ → List Note → Type 0
    Behind rest before t after = (later : List Note) × (unended [] (bytes_in before) ≡ unended [] (bytes_in later)) × (rest ≡ later ++ newline t ∷ after)

    behind_on : (rest before mid : List Note) (t : ℕ) (after : List Note) → unended [] (bytes_in before) ≡ unended [] (bytes_in mid) → Behind rest mid t after → Behind rest before t after
    behind_on rest before mid t after same (later, is, split) = (later, same ∙ is, split)

    -- a newline that ends a line which acknowledges an entry ends the answer to a line of the group, or comes behind them
    pub find_in : (at n : ℕ) (s t : V) (lines : List (List ℕ)) (text : List ℕ) (rest before : List Note) (then : ℕ) (after : List Note) (k : ℕ) → n < 2 ^ 64 → AnswersLines step s lines text t k
        → noted_at at text ++ rest ≡ before ++ newline then ∷ after → AcknowledgesEntry n (unended [] (bytes_in before)) → ((then ≡ at) × (n ≤ length (entries t))) ⊎ Behind rest before then after
    find_in at n s t [] text rest before then after k small a is line = inr (before, refl, sym (ap (λ (l : List ℕ). noted_at at l ++ rest) a.0) ∙ is)
    find_in at n s t (l ∷ lines) text rest before then after k small (next, first, more, one, others, here, later, whole, count) is line =
        let alone = answer_in_line step s l first next one here in
        let split : noted_at at (first ++ 10 ∷ []) ++ (noted_at at more ++ rest) ≡ before ++ newline then ∷ after =
        sym (append_assoc (noted_at at (first ++ 10 ∷ [])) (noted_at at more) rest) ∙ ap (λ (notes : List Note). notes ++ rest) (sym (noted_both at (first ++ 10 ∷ []) more))
        ∙ ap (λ (l : List ℕ). noted_at at l ++ rest) (append_assoc first (10 ∷ []) more ∙ sym whole) ∙ is in
        ⊎_elim
        (λ found.
        let said : AcknowledgesEntry n first = subst (AcknowledgesEntry n) (ap (unended []) found.0 ∙ unended_alone [] first alone) line in
        inl (found.1, omega (arith, line_last s next l first n one small said here, lines_grow next t lines more others later)))
        (λ on.
        let same : unended [] (bytes_in before) ≡ unended [] (bytes_in on.0) = ap (unended []) on.1 ∙ unended_after [] first (bytes_in on.0) alone in
        ⊎_elim (λ found. inl found) (λ further. inr (behind_on rest before on.0 then after same further))
        (find_in at n next t lines more rest on.0 then after others small later on.2 (subst (AcknowledgesEntry n) same line)))
        (ends_at at first (noted_at at more ++ rest) before then after alone split)

    module _ (Kept : ℕ → V → ℕ → Type 0) (new : V)
        -- what is settled is kept from that moment on, where it runs on to the new state
        (kept : (s z : V) (n : ℕ) → Good s → settles s z → n ≤ length (entries s) → Runs z new → Kept n new (moment z))
        (begun : (s z : V) → Good s → settles s z → Runs z z)
        -- and so is what is settled once one call more was made that has no answer
        (kept_last : (s mid : V) (lines : List (List ℕ)) (n : ℕ) → Good s → MayCallNext step false (alone fails) s lines mid → settles mid new → n ≤ length (entries s) → Kept n new (moment new)) where
      pub find : (s last : V) (groups : List (List (List ℕ))) (notes rest before : List Note) (then : ℕ) (after : List Note) (n k : ℕ) → Good s → n < 2 ^ 64 → AnswersGroups step settles moment s groups notes last k
          → ((z : V) → Runs z last → Runs z new) → notes ++ rest ≡ before ++ newline then ∷ after → AcknowledgesEntry n (unended [] (bytes_in before)) → Kept n new then ⊎ Behind rest before then after
      find s last [] notes rest before then after n k good small a on is line = inr (before, refl, sym (ap (λ (l : List Note). l ++ rest) a.0) ∙ is)
      find s last (lines ∷ groups) notes rest before then after n k good small (made, settled, text, others, first, more, answers, so, further, whole, count) on is line =
          let is_good = good_lines s made lines text first good answers in
          let split : noted_at (moment settled) text ++ (others ++ rest) ≡ before ++ newline then ∷ after = sym (append_assoc (noted_at (moment settled) text) others rest) ∙ ap (λ (l : List Note). l ++ rest) (sym whole) ∙ is in
          ⊎_elim
          (λ found. inl (subst (Kept n new) (sym found.0) (kept made settled n is_good so found.1 (on settled (run_groups settled settled last groups others more (begun made settled is_good so) further)))))
          (λ behind.
          ⊎_elim (λ here. inl here) (λ later. inr (behind_on rest before behind.0 then after behind.1 later))
          (find settled last groups others rest behind.0 then after n more (good_settle made settled is_good so) small further on behind.2 (subst (AcknowledgesEntry n) behind.1 line)))
          (find_in (moment settled) n s made lines text (others ++ rest) before then after first small answers split line)

      nothing_behind : {A : Type 0} (before : List Note) (then : ℕ) (after : List Note) → Behind [] before then after → A
      nothing_behind before then after ([], same, is) = absurd (let odd = is in cc)
      nothing_behind before then after (note ∷ later, same, is) = absurd (let odd = is in cc)

      no_note : {A : Type 0} (part before : List Note) (then : ℕ) (after : List Note) → part ≡ [] → part ≡ before ++ newline then ∷ after → A
      no_note part [] then after none is = absurd (let odd = sym none ∙ is in cc)
      no_note part (note ∷ before) then after none is = absurd (let odd = sym none ∙ is in cc)

      -- a prefix of the answers of a group
      found_part : (s mid : V) (lines : List (List ℕ)) (made : Made step s lines) (output more : List ℕ) (part before : List Note) (then : ℕ) (after : List Note) (n : ℕ) → Good s → n < 2 ^ 64
          → MayCallNext step false (alone fails) made.last made.others mid → settles mid new → output ++ more ≡ made.text → part ≡ noted_at (moment new) output → part ≡ before ++ newline then ∷ after → AcknowledgesEntry n (unended [] (bytes_in before)) → Kept n new then
      found_part s mid lines made output more part before then after n good small calls so whole is split line =
          let all : noted_at (moment new) made.text ++ [] ≡ before ++ newline then ∷ (after ++ noted_at (moment new) more) =
          append-nil (noted_at (moment new) made.text) ∙ ap (noted_at (moment new)) (sym whole) ∙ noted_both (moment new) output more
          ∙ ap (λ (l : List Note). l ++ noted_at (moment new) more) (sym is ∙ split) ∙ append_assoc before (newline then ∷ after) (noted_at (moment new) more) in
          ⊎_elim
          (λ found. subst (Kept n new) (sym found.0) (kept_last made.last mid made.others n (good_lines s made.last made.first made.text made.steps good made.answers) calls so found.1))
          (λ behind. nothing_behind before then (after ++ noted_at (moment new) more) behind)
          (find_in (moment new) n s made.last made.first made.text [] before then (after ++ noted_at (moment new) more) made.steps small made.answers all line)

      found_group : (fault : ServeFault) (s : V) (lines : List (List ℕ)) (part before : List Note) (then : ℕ) (after : List Note) (n : ℕ) → Good s → n < 2 ^ 64 → BreaksGroup step false (alone fails) settles off moment fault s lines part new
          → part ≡ before ++ newline then ∷ after → AcknowledgesEntry n (unended [] (bytes_in before)) → Kept n new then
      found_group Read s lines part before then after n good small breaks split line = absurd breaks
      found_group Write s lines part before then after n good small (made, last, output, calls, so, prefix, is) split line =
          found_part s last lines made output prefix.0 part before then after n good small calls so prefix.1 is split line
      found_group OutOfMemory s lines part before then after n good small (made, last, lost, so, is) split line =
          found_part s last lines made made.text [] part before then after n good small (inr (inl lost)) so (append-nil made.text) is split line
      found_group NoAnswer s lines part before then after n good small (made, last, inl (none, so, is)) split line =
          found_part s last lines made made.text [] part before then after n good small (inr (inr none)) so (append-nil made.text) is split line
      found_group NoAnswer s lines part before then after n good small (made, last, inr (calls, broken, is)) split line = no_note part before then after is split
      found_group Turns s lines part before then after n good small breaks split line = absurd breaks

      -- groups, and then what is written of one more
      pub found_all : (s last : V) (groups : List (List (List ℕ))) (others : List (List ℕ)) (whole part before : List Note) (then : ℕ) (after : List Note) (n k : ℕ) → Good s → n < 2 ^ 64 → AnswersGroups step settles moment s groups whole last k
          → ((part ≡ []) × (new ≡ last)) ⊎ ((fault : ServeFault) × BreaksGroup step false (alone fails) settles off moment fault last others part new) → whole ++ part ≡ before ++ newline then ∷ after → AcknowledgesEntry n (unended [] (bytes_in before)) → Kept n new then
      found_all s last groups others whole part before then after n k good small answers (inl (none, same)) split line =
          ⊎_elim (λ found. found) (λ behind. no_note part behind.0 then after none behind.2)
          (find s last groups whole part before then after n k good small answers (λ z run. subst (Runs z) (sym same) run) split line)
      found_all s last groups others whole part before then after n k good small answers (inr (fault, breaks)) split line =
          ⊎_elim (λ found. found)
          (λ behind. found_group fault last others part behind.0 then after n (good_groups s last groups whole k good answers) small breaks behind.2 (subst (AcknowledgesEntry n) behind.1 line))
          (find s last groups whole part before then after n k good small answers (λ z run. run_group fault z last new others part run breaks) split line)
