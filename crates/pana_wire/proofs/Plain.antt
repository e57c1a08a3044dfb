-- Laws of sessions for which to settle does nothing.
use Rattle.std.proofs.Common.{◌≡◌, ℕ, ◌+◌, Bool, List, [], ◌∷◌, ◌++◌, ◌⊎◌, Option, Result, Ok, Err, IfOk, IfErr, refl, sym, ap, subst, ◌∙◌, append_assoc, append-nil, inl, inr}
use mathlib.Core.List.{IsPrefix}
use Rattle.pana_calls.specs.declared.call.Call.{Call}
use Rattle.pana_calls.specs.declared.answer.Answer.{Answer}
use Rattle.pana_calls.specs.declared.message.Message.{Message}
use Rattle.pana_wire.specs.declared.tap.Tap.{Tap}
use Rattle.pana_wire.specs.declared.serving.Served.{Served}
use Rattle.pana_wire.specs.declared.serving.ServeFault.{ServeFault}
use Rattle.pana_wire.specs.declared.serving.ServeFault.TheVariants.{Read, Write, OutOfMemory, NoAnswer, Turns}
use Rattle.pana_wire.specs.Lines.{ended, lines_of}
use Rattle.pana_wire.specs.Tap.{Note, noted_at, bytes_in, IsNoted}
use Rattle.pana_wire.specs.Session.{AnswersLines, Made, LosesNext, FailsNext, MayCallNext, BreaksIn, EndsBy, Serves, Stops, NeverBegins, lines_come}
use Rattle.pana_wire.specs.Groups.{joined, AnswersGroups, AnswersAll, BreaksGroup, BreaksAmong, EndsGroupsBy, ServesGroups, StopsGroups}
use Rattle.pana_wire.specs.Timely.{IsSame, IsNever, IsSettledAlways, IsTimely}
use Rattle.pana_wire.proofs.Notes.{none_noted, noted_bytes, bytes_both}
use Rattle.pana_wire.proofs.Steps.{lines_append}

prefix_behind : (xs output text : List ℕ) → IsPrefix output text → IsPrefix (xs ++ output) (xs ++ text)
prefix_behind xs output text p = (p.0, append_assoc xs output p.0 ∙ ap (λ (l : List ℕ). xs ++ l) p.1)

module _ {S : Type 0} (step : S → List ℕ → Call → Answer → S → Type 0) (together : Bool) (fails : S → List Message → S → Type 0) (settles breaks_off : S → S → Type 0) (moment : S → ℕ) (always : IsSettledAlways settles breaks_off) where
  groups_plain : (old : S) (groups : List (List (List ℕ))) (notes : List Note) (new : S) (n : ℕ) → AnswersGroups step settles moment old groups notes new n → AnswersGroups step IsSame moment old groups notes new n
  groups_plain old [] notes new n p = p
  groups_plain old (lines ∷ groups) notes new n (made, settled, text, rest, first, others, answers, so, more, whole, count) =
      (made, settled, text, rest, first, others, answers, always.0 made settled so, groups_plain settled groups rest new others more, whole, count)

  lines_plain : (old : S) (groups : List (List (List ℕ))) (notes : List Note) (new : S) (n : ℕ) → AnswersGroups step settles moment old groups notes new n → AnswersLines step old (joined groups) (bytes_in notes) new n
  lines_plain old [] notes new n p = (ap bytes_in p.0, p.1, p.2)
  lines_plain old (lines ∷ groups) notes new n (made, settled, text, rest, first, others, answers, so, more, whole, count) =
      let later : AnswersLines step made (joined groups) (bytes_in rest) new others = subst (λ s. AnswersLines step s (joined groups) (bytes_in rest) new others) (always.0 made settled so) (lines_plain settled groups rest new others more) in
      let output : bytes_in notes ≡ text ++ bytes_in rest = ap bytes_in whole ∙ bytes_both (noted_at (moment settled) text) rest ∙ ap (λ (l : List ℕ). l ++ bytes_in rest) (noted_bytes (moment settled) text) in
      subst (λ (k : ℕ). AnswersLines step old (lines ++ joined groups) (bytes_in notes) new k) (sym count)
      (subst (λ (l : List ℕ). AnswersLines step old (lines ++ joined groups) l new (first + others)) (sym output)
      (lines_append step old lines (joined groups) text (bytes_in rest) made new first others answers later))

  all_plain : (old : S) (lines : List (List ℕ)) (notes : List Note) (new : S) (n : ℕ) → AnswersAll step settles moment old lines notes new n → AnswersLines step old lines (bytes_in notes) new n
  all_plain old lines notes new n (groups, split, answers) = subst (λ (ls : List (List ℕ)). AnswersLines step old ls (bytes_in notes) new n) (sym split) (lines_plain old groups notes new n answers)

  -- the calls of lines before, and of these
  abbrev behind : (old : S) (before lines all : List (List ℕ)) (xs : List ℕ) (mid : S) (m : ℕ) → all ≡ before ++ lines → AnswersLines step old before xs mid m → Made step mid lines → Made step old all
  behind old before lines all xs mid m whole answers p = record {
    first = before ++ p.first;
    others = p.others;
    text = xs ++ p.text;
    last = p.last;
    steps = m + p.steps;
    split = whole ∙ ap (λ (ls : List (List ℕ)). before ++ ls) p.split ∙ sym (append_assoc before p.first p.others);
    answers = lines_append step old before p.first xs p.text mid p.last m p.steps answers p.answers;
  }

  loses_to : (old : S) (ls : List (List ℕ)) (last new : S) → new ≡ last → LosesNext step together fails old ls last → LosesNext step together fails old ls new
  loses_to old ls last new same p = subst (LosesNext step together fails old ls) (sym same) p

  fails_to : (old : S) (ls : List (List ℕ)) (last new : S) → new ≡ last → FailsNext together fails old ls last → FailsNext together fails old ls new
  fails_to old ls last new same p = subst (FailsNext together fails old ls) (sym same) p

  may_to : (old : S) (ls : List (List ℕ)) (last new : S) → new ≡ last → MayCallNext step together fails old ls last → MayCallNext step together fails old ls new
  may_to old ls last new same p = subst (MayCallNext step together fails old ls) (sym same) p

  -- the bytes of what was written before, and of this
  bytes_then : (moment_new : ℕ) (notes whole part : List Note) (output : List ℕ) → notes ≡ whole ++ part → part ≡ noted_at moment_new output → bytes_in notes ≡ bytes_in whole ++ output
  bytes_then moment_new notes whole part output all is =
      ap bytes_in all ∙ bytes_both whole part ∙ ap (λ (l : List ℕ). bytes_in whole ++ l) (ap bytes_in is ∙ noted_bytes moment_new output)

  group_plain : (fault : ServeFault) (old : S) (before lines all : List (List ℕ)) (whole part notes : List Note) (mid new : S) (m : ℕ) → all ≡ before ++ lines → AnswersLines step old before (bytes_in whole) mid m
      → BreaksGroup step together fails settles breaks_off moment fault mid lines part new → notes ≡ whole ++ part → BreaksIn step together fails fault old all (bytes_in notes) new
  group_plain Read old before lines all whole part notes mid new m split answers p noted = absurd p
  group_plain Write old before lines all whole part notes mid new m split answers (made, last, output, calls, so, prefix, is) noted = (
    behind old before lines all (bytes_in whole) mid m split answers made,
    may_to made.last made.others last new (always.0 last new so) calls,
    subst (λ (l : List ℕ). IsPrefix l (bytes_in whole ++ made.text)) (sym (bytes_then (moment new) notes whole part output noted is)) (prefix_behind (bytes_in whole) output made.text prefix),
  )
  group_plain OutOfMemory old before lines all whole part notes mid new m split answers (made, last, lost, so, is) noted =
      (behind old before lines all (bytes_in whole) mid m split answers made, loses_to made.last made.others last new (always.0 last new so) lost, bytes_then (moment new) notes whole part made.text noted is)
  group_plain NoAnswer old before lines all whole part notes mid new m split answers (made, last, inl (failed, so, is)) noted =
      (behind old before lines all (bytes_in whole) mid m split answers made, fails_to made.last made.others last new (always.0 last new so) failed, bytes_then (moment new) notes whole part made.text noted is)
  group_plain NoAnswer old before lines all whole part notes mid new m split answers (made, last, inr (calls, off, is)) noted = absurd (always.1 last new off)
  group_plain Turns old before lines all whole part notes mid new m split answers p noted = absurd p

  among_plain : (fault : ServeFault) (old : S) (lines : List (List ℕ)) (notes : List Note) (new : S) → BreaksAmong step together fails settles breaks_off moment fault old lines notes new → BreaksIn step together fails fault old lines (bytes_in notes) new
  among_plain fault old lines notes new p =
      group_plain fault old (joined p.groups) p.others lines p.whole p.part notes p.last new p.steps p.split (lines_plain old p.groups p.whole p.last p.steps p.answers) p.breaks p.noted

  ends_plain : (fault : ServeFault) (met : Bool) (old : S) (input : List ℕ) (notes : List Note) (new : S) → EndsGroupsBy step together fails settles breaks_off moment fault met old input notes new → EndsBy step together fails fault met old input (bytes_in notes) new
  ends_plain Read met old input notes new (steps, all) = (steps, all_plain old (ended [] input) notes new steps all)
  ends_plain Write met old input notes new p = among_plain Write old (lines_come met input) notes new p
  ends_plain OutOfMemory met old input notes new p = among_plain OutOfMemory old (lines_come met input) notes new p
  ends_plain NoAnswer met old input notes new p = among_plain NoAnswer old (lines_come met input) notes new p
  ends_plain Turns met old input notes new (steps, all) = (steps, all_plain old (ended [] input) notes new steps all)

  group_same : (fault : ServeFault) (old : S) (lines : List (List ℕ)) (part : List Note) (new : S) → BreaksGroup step together fails settles breaks_off moment fault old lines part new → BreaksGroup step together fails IsSame IsNever moment fault old lines part new
  group_same Read old lines part new p = p
  group_same Write old lines part new (made, last, output, calls, so, prefix, is) = (made, last, output, calls, always.0 last new so, prefix, is)
  group_same OutOfMemory old lines part new (made, last, lost, so, is) = (made, last, lost, always.0 last new so, is)
  group_same NoAnswer old lines part new (made, last, inl (failed, so, is)) = (made, last, inl (failed, always.0 last new so, is))
  group_same NoAnswer old lines part new (made, last, inr (calls, off, is)) = absurd (always.1 last new off)
  group_same Turns old lines part new p = p

  module _ {W : Type 0} (contents : W → Option (List ℕ)) (a b : Tap W) where
    all_timely : (old : S) (lines : List (List ℕ)) (notes : List Note) (new : S) (n : ℕ) → IsNoted contents a b notes → AnswersAll step settles moment old lines notes new n → IsTimely contents step together fails moment a b old new
    all_timely old lines notes new n noted (groups, split, answers) = record {
      groups = groups;
      others = [];
      whole = notes;
      part = [];
      last = new;
      steps = n;
      notes = subst (IsNoted contents a b) (sym (append-nil notes)) noted;
      answers = groups_plain old groups notes new n answers;
      ends = inl (refl, refl);
    }

    among_timely : (fault : ServeFault) (old : S) (lines : List (List ℕ)) (notes : List Note) (new : S) → IsNoted contents a b notes → BreaksAmong step together fails settles breaks_off moment fault old lines notes new → IsTimely contents step together fails moment a b old new
    among_timely fault old lines notes new noted p = record {
      groups = p.groups;
      others = p.others;
      whole = p.whole;
      part = p.part;
      last = p.last;
      steps = p.steps;
      notes = subst (IsNoted contents a b) p.noted noted;
      answers = groups_plain old p.groups p.whole p.last p.steps p.answers;
      ends = inr (fault, group_same fault p.last p.others p.part new p.breaks);
    }

    ends_timely : (fault : ServeFault) (met : Bool) (old : S) (input : List ℕ) (notes : List Note) (new : S) → IsNoted contents a b notes → EndsGroupsBy step together fails settles breaks_off moment fault met old input notes new → IsTimely contents step together fails moment a b old new
    ends_timely Read met old input notes new noted (steps, all) = all_timely old (ended [] input) notes new steps noted all
    ends_timely Write met old input notes new noted p = among_timely Write old (lines_come met input) notes new noted p
    ends_timely OutOfMemory met old input notes new noted p = among_timely OutOfMemory old (lines_come met input) notes new noted p
    ends_timely NoAnswer met old input notes new noted p = among_timely NoAnswer old (lines_come met input) notes new noted p
    ends_timely Turns met old input notes new noted (steps, all) = all_timely old (ended [] input) notes new steps noted all

    -- nothing was done
    never_timely : (old new : S) → b ≡ a → new ≡ old → IsNoted contents a a [] → IsTimely contents step together fails moment a b old new
    never_timely old new same still none =
        subst (λ (t : Tap W). IsTimely contents step together fails moment a t old new) (sym same)
        (record { groups = []; others = []; whole = []; part = []; last = new; steps = 0; notes = none; answers = (refl, still, refl); ends = inl (refl, refl) })

    serves_timely : {R : Type 0} (remaining : R → Option (List ℕ)) (r r' : Tap R) (old new : S) (served : Served) → ServesGroups remaining contents step settles moment r r' a b old new served → IsTimely contents step together fails moment a b old new
    serves_timely remaining r r' old new served p = all_timely old (lines_of p.input) p.notes new served.calls p.writes p.answers

    pub serves_plain : {R : Type 0} (remaining : R → Option (List ℕ)) (r r' : Tap R) (old new : S) (served : Served) → ServesGroups remaining contents step settles moment r r' a b old new served → Serves remaining contents step r r' a b old new served
    serves_plain remaining r r' old new served p = record {
      input = p.input;
      output = bytes_in p.notes;
      reads = p.reads;
      at_end = p.at_end;
      ended = p.ended;
      writes = p.writes.1;
      text = all_plain old (lines_of p.input) p.notes new served.calls p.answers;
      lines = p.lines;
      reader_works = p.reader_works;
      writer_works = p.writer_works;
    }

    stops_plain : {R : Type 0} (remaining : R → Option (List ℕ)) (most : ℕ) (r r' : Tap R) (old new : S) (fault : ServeFault) → StopsGroups remaining contents step together fails settles breaks_off moment most r r' a b old new fault → Stops remaining contents step together fails most r r' a b old new fault
    stops_plain remaining most r r' old new fault p = record {
      input = p.input;
      output = bytes_in p.notes;
      reads = p.reads;
      writes = p.writes.1;
      ends = ends_plain fault _ old p.input p.notes new p.ends;
      cause = p.cause;
    }

    pub stops_or_never : {R : Type 0} (remaining : R → Option (List ℕ)) (most : ℕ) (r r' : Tap R) (old new : S) (fault : ServeFault)
        → NeverBegins r r' a b old new fault ⊎ StopsGroups remaining contents step together fails settles breaks_off moment most r r' a b old new fault → NeverBegins r r' a b old new fault ⊎ Stops remaining contents step together fails most r r' a b old new fault
    stops_or_never remaining most r r' old new fault (inl never) = inl never
    stops_or_never remaining most r r' old new fault (inr stops) = inr (stops_plain remaining most r r' old new fault stops)

    stops_timely : {R : Type 0} (remaining : R → Option (List ℕ)) (most : ℕ) (r r' : Tap R) (old new : S) (fault : ServeFault)
        → NeverBegins r r' a b old new fault ⊎ StopsGroups remaining contents step together fails settles breaks_off moment most r r' a b old new fault → IsTimely contents step together fails moment a b old new
    stops_timely remaining most r r' old new fault (inl never) = never_timely old new never.writer never.session (none_noted contents a)
    stops_timely remaining most r r' old new fault (inr stops) = ends_timely fault _ old stops.input stops.notes new stops.writes stops.ends

    -- however it ended
    pub timely_plain : {R : Type 0} (remaining : R → Option (List ℕ)) (most : ℕ) (r r' : Tap R) (old new : S) (result : Result Served ServeFault)
        → IfOk result (ServesGroups remaining contents step settles moment r r' a b old new)
        → IfErr result (λ fault. NeverBegins r r' a b old new fault ⊎ StopsGroups remaining contents step together fails settles breaks_off moment most r r' a b old new fault)
        → IsTimely contents step together fails moment a b old new
    timely_plain remaining most r r' old new (Ok served) p q = serves_timely remaining r r' old new served p
    timely_plain remaining most r r' old new (Err fault) p q = stops_timely remaining most r r' old new fault q
