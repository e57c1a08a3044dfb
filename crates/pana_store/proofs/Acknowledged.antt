-- What a crash leaves of a session whose calls are kept in groups, at any moment, and from then on at which a line that acknowledges
-- an entry was written.
use Rattle.std.proofs.Common.{◌≡◌, ℕ, ◌≤◌, ◌<◌, ◌^◌, Bool, IsTrue, List, [], ◌∷◌, ◌++◌, ◌⊎◌, inl, inr, ⊎_elim, length, Option, Result, refl, sym, ap, subst, ◌∙◌, append-nil, append_assoc, length-append, arith, false}
use Rattle.std.specs.Prelude.{IfOk, IfErr}
use Rattle.std.proofs.lemmas.List.{append_cancel_left}
use Rattle.pana_journal.specs.declared.entry.Entry.{Entry}
use Rattle.pana_calls.specs.Session.{alone}
use Rattle.pana_calls.specs.declared.call.Call.{Call}
use Rattle.pana_calls.specs.declared.call.Call.TheVariants.{Report, Sighting, Query}
use Rattle.pana_calls.specs.declared.reply.Reply.{Reply}
use Rattle.pana_calls.specs.declared.answer.Answer.{Answer}
use Rattle.pana_calls.specs.declared.answer.Answer.TheVariants.{Given}
use Rattle.pana_wire.specs.declared.serving.Served.{Served}
use Rattle.pana_wire.specs.declared.serving.ServeFault.{ServeFault}
use Rattle.pana_wire.specs.declared.serving.ServeFault.TheVariants.{NoAnswer}
use Rattle.pana_wire.specs.declared.tap.Tap.{Tap}
use Rattle.pana_wire.specs.Groups.{BreaksGroup, BreaksAmong, ServesGroups, StopsGroups}
use Rattle.pana_wire.specs.Session.{LosesNext, FailsNext, MayCallNext, NeverBegins}
use Rattle.pana_wire.specs.Tap.{Note, noted}
use Rattle.pana_log.specs.declared.log_state.LogState.{LogState}
use Rattle.pana_log.specs.declared.log_state.LogState.TheVariants.{Unread, Read, Open, Broken}
use Rattle.pana_log.specs.Device.{LeavesOnly}
use Rattle.pana_log.proofs.Moments.{started, then_on}
use Rattle.pana_log.proofs.Settled.{recovered_same}
use Rattle.pana_store.specs.Acknowledged.{IsDone, Acknowledges}
use Rattle.pana_store.specs.Entries.{LoadsTo, LoadsFirst, LoadsEither}
use Rattle.pana_store.specs.Store.{BreaksOff, FailsToGather, Gathers, IsKept, KeepsFirst, Settles, StoreView, stored, whole}
use Rattle.pana_store.proofs.Done.{done_is_last}
use Rattle.pana_store.proofs.Grouped.{found_all, good_groups, good_lines, run_group, run_groups}
use Rattle.pana_store.proofs.Runs.{becomes_grows}
use Rattle.pana_store.proofs.Said.{loads_same, loads_prefix, loads_grown}
use Rattle.pana_store.proofs.Wrote.{Wrote, wrote}

module _ {D : Type 0} (is_known : Bool) (seen : D → List ℕ) (may_leave : D → List ℕ → Type 0) (is_usable : D → Bool) (moment : D → ℕ) (left_since : D → ℕ → List ℕ → Type 0) (has_failed : D → Bool) where
  abbrev pub Step : StoreView D → List ℕ → Call → Answer → StoreView D → Type 0
  Step old by call answer new = Gathers is_known seen may_leave is_usable moment left_since has_failed old by call answer new

  abbrev pub Fails : StoreView D → List ℕ → Call → StoreView D → Type 0
  Fails old by call new = FailsToGather is_known moment left_since has_failed old by call new

  abbrev pub So : StoreView D → StoreView D → Type 0
  So old new = Settles is_known seen may_leave is_usable moment left_since old new

  abbrev pub Off : StoreView D → StoreView D → Type 0
  Off old new = BreaksOff is_known moment left_since has_failed old new

  abbrev Moment : StoreView D → ℕ
  Moment group = moment group.log.device

  abbrev entries_in : StoreView D → List Entry
  entries_in group = group.entries

  abbrev Session : {W : Type 0} → (W → Option (List ℕ)) → Tap W → Tap W → StoreView D → StoreView D → Type 0
  Session contents a b old new = Wrote contents Step Fails So Off Moment a b old new

  pub wrote_of : {R W : Type 0} (remaining : R → Option (List ℕ)) (contents : W → Option (List ℕ)) (most : ℕ) (r s : Tap R) (a b : Tap W) (old new : StoreView D) (result : Result Served ServeFault) → IfOk result (ServesGroups remaining contents Step So Moment r s a b old new)
      → IfErr result (λ fault. NeverBegins r s a b old new fault ⊎ StopsGroups remaining contents Step false (alone Fails) So Off Moment most r s a b old new fault) → Session contents a b old new
  wrote_of remaining contents most r s a b old new result ok err = wrote contents Step Fails So Off Moment a b remaining most r s old new result ok err

  module _ (known : IsTrue is_known) (only_now : (d : D) (c : List ℕ) → left_since d (moment d) c → may_leave d c) where
    pub record Good (group : StoreView D) : Type 0 where
      pub works : group.log.state ≡ Open
      pub kept_so : IsKept seen may_leave is_usable (stored group)

    -- from the one to the other all that was kept is, and a crash has left no less
    pub record Runs (old new : StoreView D) : Type 0 where
      pub least : length old.kept ≤ length new.kept
      pub waiting : List Entry
      pub waits : new.entries ≡ new.kept ++ waiting
      pub keeps : KeepsFirst moment left_since old new

    left_kept : (s : StoreView D) → Good s → (f : List ℕ) → left_since s.log.device (Moment s) f → LoadsTo s.kept f
    left_kept s good f left =
        let was = good.kept_so good.works in
        loads_same s.kept (seen s.log.device) f (recovered_same (seen s.log.device) f (was.0.durable f (only_now s.log.device f left))) was.1

    pub starts : (s : StoreView D) (waiting : List Entry) → Good s → s.entries ≡ s.kept ++ waiting → Runs s s
    starts s waiting good waits = record {
      least = omega arith;
      waiting = waiting;
      waits = waits;
      keeps = started moment left_since s.log.device (LoadsFirst (length s.kept) s.entries) (λ f left. loads_prefix (length s.kept) s.kept waiting s.entries f waits (omega arith) (left_kept s good f left));
    }

    -- one thing more, of which a crash leaves what was kept before it, or another prefix of the entries that is no shorter
    runs_on : (z s t : StoreView D) (some waiting other rest : List Entry) → Runs z s → t.entries ≡ s.entries ++ some → t.entries ≡ t.kept ++ waiting → length s.kept ≤ length t.kept → t.entries ≡ other ++ rest → length s.kept ≤ length other
        → LeavesOnly moment left_since s.log.device t.log.device (LoadsEither s.kept other) → Runs z t
    runs_on z s t some waiting other rest run grown waits more is long either = record {
      least = omega (arith, run.least, more);
      waiting = waiting;
      waits = waits;
      keeps =
          then_on moment left_since z.log.device s.log.device t.log.device (LoadsFirst (length z.kept) s.entries) (LoadsEither s.kept other) (LoadsFirst (length z.kept) t.entries) run.keeps either
          (λ f p. subst (λ (es : List Entry). LoadsFirst (length z.kept) es f) (sym grown) (loads_grown (length z.kept) s.entries some f p))
          (λ f p. ⊎_elim
          (λ before. loads_prefix (length z.kept) s.kept (run.waiting ++ some) t.entries f (grown ∙ ap (λ (es : List Entry). es ++ some) run.waits ∙ append_assoc s.kept run.waiting some) run.least before)
          (λ after. loads_prefix (length z.kept) other rest t.entries f is (omega (arith, run.least, long)) after)
          p);
    }

    runs_open : (z s : StoreView D) (by : List ℕ) (call : Call) (answer : Answer) (t : StoreView D) → Runs z s → Step s by call answer t → s.log.state ≡ Open → Runs z t
    runs_open z s by call answer t run step works =
        let (some, grown) = becomes_grows s.entries by call answer t.entries step.answers in
        elim step.kept [
          | inl same ↦
              let waits : t.entries ≡ t.kept ++ (run.waiting ++ some) =
              grown ∙ ap (λ (es : List Entry). es ++ some) run.waits ∙ append_assoc s.kept run.waiting some ∙ ap (λ (es : List Entry). es ++ (run.waiting ++ some)) (sym same) in
              let long : length s.kept ≤ length t.kept = omega (arith, ap length same) in
              runs_on z s t some (run.waiting ++ some) t.kept (run.waiting ++ some) run grown waits long waits long (step.keeps_whole known works)
          | inr all ↦
              let waits : t.entries ≡ t.kept ++ some = grown ∙ ap (λ (es : List Entry). es ++ some) (sym all) in
              let long : length s.kept ≤ length t.kept = omega (arith, ap length all, ap length run.waits, length-append s.kept run.waiting) in
              runs_on z s t some some t.kept some run grown waits long waits long (step.keeps_whole known works)
        ]

    pub runs_step : (z s : StoreView D) (by : List ℕ) (call : Call) (answer : Answer) (t : StoreView D) → Runs z s → Step s by call answer t → Runs z t
    runs_step z s by (Report report) answer t run step = runs_open z s by (Report report) answer t run step step.is_open
    runs_step z s by (Sighting sighting) answer t run step = runs_open z s by (Sighting sighting) answer t run step step.is_open
    runs_step z s by (Query query) answer t run step = subst (Runs z) (sym (step.query tt)) run

    is_open : (state : LogState) → (state ≡ Open) ⊎ (state ≡ Open → ⊥)
    is_open Open = inl refl
    is_open Unread = inr (λ odd. absurd (cc))
    is_open Read = inr (λ odd. absurd (cc))
    is_open Broken = inr (λ odd. absurd (cc))

    pub runs_off : (z s t : StoreView D) → Runs z s → Off s t → Runs z t
    runs_off z s t run off = elim (is_open s.log.state) [
      | inl works ↦
          let all : t.entries ≡ s.entries ++ [] = off.entries ∙ sym (append-nil s.entries) in
          let waits : t.entries ≡ t.kept ++ run.waiting = off.entries ∙ run.waits ∙ ap (λ (es : List Entry). es ++ run.waiting) (sym off.kept) in
          runs_on z s t [] run.waiting s.entries [] run all waits (omega (arith, ap length off.kept)) all (omega (arith, off.waits)) (off.keeps_whole known works)
      | inr shut ↦ subst (Runs z) (sym (off.once shut)) run
    ]

    pub runs_fail : (z s : StoreView D) (by : List ℕ) (call : Call) (t : StoreView D) → Runs z s → Fails s by call t → Runs z t
    runs_fail z s by call t run (makes, inl (shut, same)) = subst (Runs z) (sym same) run
    runs_fail z s by call t run (makes, inr off) = runs_off z s t run off

    pub runs_settle : (z s t : StoreView D) → Runs z s → So s t → Runs z t
    runs_settle z s t run so = elim so.takes [
      | inl same ↦ subst (Runs z) (sym same) run
      | inr took ↦
          let waits : t.entries ≡ t.kept ++ [] = sym so.kept ∙ sym (append-nil t.kept) in
          let long : length s.kept ≤ length t.kept = omega (arith, ap length so.kept, ap length so.entries, ap length run.waits, length-append s.kept run.waiting) in
          runs_on z s t [] [] t.kept [] run (so.entries ∙ sym (append-nil s.entries)) waits long waits long (so.keeps_whole known took.0)
    ]

    pub good_step : (s : StoreView D) (by : List ℕ) (call : Call) (answer : Answer) (t : StoreView D) → Good s → Step s by call answer t → Good t
    good_step s by call answer t good step = record { works = step.state ∙ good.works; kept_so = step.file known }

    pub good_settle : (s t : StoreView D) → Good s → So s t → Good t
    good_settle s t good so = record {
      works = ⊎_elim (λ same. ap (λ (g : StoreView D). g.log.state) same ∙ good.works) (λ took. took.1) so.takes;
      kept_so = so.file known;
    }

    -- once all are kept
    pub all_kept : (s t : StoreView D) → So s t → t.entries ≡ t.kept ++ []
    all_kept s t so = sym so.kept ∙ sym (append-nil t.kept)

    begun : (s z : StoreView D) → Good s → So s z → Runs z z
    begun s z good so = starts z [] (good_settle s z good so) (all_kept s z so)

    pub grows : (s : StoreView D) (by : List ℕ) (call : Call) (answer : Answer) (t : StoreView D) → Step s by call answer t → length s.entries ≤ length t.entries
    grows s by call answer t step = let some = becomes_grows s.entries by call answer t.entries step.answers in omega (arith, ap length some.1, length-append s.entries some.0)

    pub done : (s : StoreView D) (by : List ℕ) (call : Call) (m : ℕ) (reply : Reply) (t : StoreView D) → IsDone m reply → Step s by call (Given reply) t → (m ≡ length t.entries) × (m < 2 ^ 64)
    done s by call m reply t is step = done_is_last s.entries by call m reply t.entries is step.answers

    -- what can't be kept isn't settled after all
    pub not_off : {A : Type 0} (s mid new : StoreView D) → Off s mid → So mid new → A
    not_off s mid new off so = ⊎_elim
        (λ same.
        let all : mid.kept ≡ mid.entries = subst (λ (g : StoreView D). g.kept ≡ g.entries) same so.kept in
        absurd (omega (arith, off.waits, ap length off.entries, ap length off.kept, ap length all)))
        (λ took. absurd (off.broken took.0))
        so.takes

    no_fail : {A : Type 0} (s mid new : StoreView D) (lines : List (List ℕ)) → Good s → FailsNext false (alone Fails) s lines mid → So mid new → A
    no_fail s mid new [] good none so = absurd none
    no_fail s mid new (line ∷ lines) good (m, says, (makes, inl (shut, same))) so = absurd (shut good.works)
    no_fail s mid new (line ∷ lines) good (m, says, (makes, inr off)) so = not_off s mid new off so

    -- one call more
    abbrev Further : StoreView D → StoreView D → Type 0
    Further s mid = Good mid × (length s.entries ≤ length mid.entries)

    lost_further : (s mid : StoreView D) (lines : List (List ℕ)) → Good s → LosesNext Step false (alone Fails) s lines mid → Further s mid
    lost_further s mid [] good lost = absurd lost
    lost_further s mid (line ∷ lines) good (m, answer, says, step) = (good_step s m.by m.call answer mid good step, grows s m.by m.call answer mid step)

    further : (s mid new : StoreView D) (lines : List (List ℕ)) → Good s → MayCallNext Step false (alone Fails) s lines mid → So mid new → Further s mid
    further s mid new lines good (inl same) so = subst (Further s) (sym same) (good, omega arith)
    further s mid new lines good (inr (inl lost)) so = lost_further s mid lines good lost
    further s mid new lines good (inr (inr none)) so = no_fail s mid new lines good none so

    abbrev Kept : ℕ → StoreView D → ℕ → Type 0
    Kept n new t = (c : List ℕ) → left_since new.log.device t c → LoadsFirst n new.entries c

    kept_on : (new s z : StoreView D) (n : ℕ) → Good s → So s z → n ≤ length s.entries → Runs z new → Kept n new (Moment z)
    kept_on new s z n good so le run c left =
        let (count, least, within, loads) = run.keeps.each c left in
        (count, omega (arith, le, least, ap length so.kept, ap length so.entries), within, loads)

    kept_last : (new s mid : StoreView D) (lines : List (List ℕ)) (n : ℕ) → Good s → MayCallNext Step false (alone Fails) s lines mid → So mid new → n ≤ length s.entries → Kept n new (Moment new)
    kept_last new s mid lines n good calls so le c left =
        let on = further s mid new lines good calls so in
        loads_prefix n new.kept [] new.entries c (all_kept mid new so) (omega (arith, le, on.1, ap length so.kept, ap length so.entries)) (left_kept new (good_settle mid new on.0 so) c left)

    -- ---- over a session

    pub keeps_first : {W : Type 0} (contents : W → Option (List ℕ)) (a b : Tap W) (old new : StoreView D) (waiting : List Entry) → old.log.state ≡ Open → IsKept seen may_leave is_usable (stored old) → old.entries ≡ old.kept ++ waiting → Session contents a b old new → KeepsFirst moment left_since old new
    keeps_first contents a b old new waiting works kept waits wrote =
        let run : Runs old wrote.last =
        run_groups Step Fails So Off Moment entries_in Good Runs good_step good_settle runs_step runs_fail runs_settle runs_off
        old old wrote.last wrote.groups wrote.whole wrote.steps (starts old waiting (record { works = works; kept_so = kept }) waits) wrote.answers in
        let all : Runs old new = ⊎_elim
        (λ (same : (wrote.part ≡ []) × (new ≡ wrote.last)). subst (Runs old) (sym same.1) run)
        (λ (p : (fault : ServeFault) × BreaksGroup Step false (alone Fails) So Off Moment fault wrote.last wrote.others wrote.part new).
        run_group Step Fails So Off Moment entries_in Good Runs good_step good_settle runs_step runs_fail runs_settle runs_off p.0 old wrote.last new wrote.others wrote.part run p.1)
        wrote.ends in
        all.keeps

    pub acknowledges : {W : Type 0} (contents : W → Option (List ℕ)) (a b : Tap W) (old new : StoreView D) → old.log.state ≡ Open → IsKept seen may_leave is_usable (stored old) → Session contents a b old new → Acknowledges left_since a b (whole new)
    acknowledges contents a b old new works kept wrote before after n t small is line =
        found_all Step Fails So Off Moment entries_in Good Runs good_step good_settle runs_step runs_fail runs_settle runs_off grows done Kept new (kept_on new) begun (kept_last new)
        old wrote.last wrote.groups wrote.others wrote.whole wrote.part before t after n wrote.steps (record { works = works; kept_so = kept }) small wrote.answers wrote.ends
        (append_cancel_left (noted a) _ _ (sym wrote.notes.0 ∙ is)) line

    -- ---- where a session ends without an answer

    after_off : (s mid new : StoreView D) (lines : List (List ℕ)) → Good s → MayCallNext Step false (alone Fails) s lines mid → Off mid new → IsTrue (has_failed new.log.device)
    after_off s mid new lines good (inl same) off = off.cause known (ap (λ (g : StoreView D). g.log.state) same ∙ good.works)
    after_off s mid new lines good (inr (inl lost)) off = off.cause known (lost_further s mid lines good lost).0.works
    after_off s mid new lines good (inr (inr none)) off = after_fail s mid new lines good none off
      where
        after_fail : (s mid new : StoreView D) (lines : List (List ℕ)) → Good s → FailsNext false (alone Fails) s lines mid → Off mid new → IsTrue (has_failed new.log.device)
        after_fail s mid new [] good none off = absurd none
        after_fail s mid new (line ∷ lines) good (m, says, (makes, inl (shut, same))) off = absurd (shut good.works)
        after_fail s mid new (line ∷ lines) good (m, says, (makes, inr first)) off =
            subst (λ (g : StoreView D). IsTrue (has_failed g.log.device)) (sym (off.once first.broken)) (first.cause known good.works)

    group_failed : (s : StoreView D) (lines : List (List ℕ)) (part : List Note) (new : StoreView D) → Good s → BreaksGroup Step false (alone Fails) So Off Moment NoAnswer s lines part new → IsTrue (has_failed new.log.device)
    group_failed s lines part new good (made, last, inl (none, so, is)) =
        no_fail made.last last new made.others
        (good_lines Step Fails So Off Moment entries_in Good Runs good_step good_settle runs_step runs_fail runs_settle runs_off s made.last made.first made.text made.steps good made.answers) none so
    group_failed s lines part new good (made, last, inr (calls, off, is)) =
        after_off made.last last new made.others
        (good_lines Step Fails So Off Moment entries_in Good Runs good_step good_settle runs_step runs_fail runs_settle runs_off s made.last made.first made.text made.steps good made.answers) calls off

    pub failed : (old new : StoreView D) (lines : List (List ℕ)) (notes : List Note) → old.log.state ≡ Open → IsKept seen may_leave is_usable (stored old) → BreaksAmong Step false (alone Fails) So Off Moment NoAnswer old lines notes new → IsTrue (has_failed new.log.device)
    failed old new lines notes works kept p =
        group_failed p.last p.others p.part new
        (good_groups Step Fails So Off Moment entries_in Good Runs good_step good_settle runs_step runs_fail runs_settle runs_off old p.last p.groups p.whole p.steps (record { works = works; kept_so = kept }) p.answers) p.breaks
