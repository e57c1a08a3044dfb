-- Calls that report what was noticed, one after another.
use Rattle.std.proofs.Common.{Result, Ok, Err, OnErr, OnOk, is_err, ◌≡◌, ◌≢◌, ℕ, suc, ◌+◌, ◌-◌, ◌<◌, ◌≤◌, nat_lt, drop, drop-cons, List, [], ◌∷◌, ◌++◌, length, Option, None, Some, inl, inr, Bool, true, false, ◌&&◌, cond, refl, sym, ap, subst, ◌∙◌, slice_index_or, lt_of_not-le, append-nil, append_assoc, arith}
use native.Mathlib.Decide.{dec_le}
use Rattle.std.proofs.lemmas.Bool.{le-ltb, lt-ltb}
use Rattle.std.proofs.lemmas.List.{drop_all}
use Rattle.pana_calls.specs.declared.call.Call.{Call}
use Rattle.pana_calls.specs.declared.reply.Reply.{Reply}
use Rattle.pana_calls.specs.declared.answer.Answer.{Answer}
use Rattle.pana_calls.specs.declared.answer.Answer.TheVariants.{Given, NotKept}
use Rattle.pana_scan.specs.declared.notices.Notice.{Notice}
use Rattle.pana_scan.specs.Notice.{call_of}
use Rattle.pana_track.specs.declared.fault.TrackFault.{TrackFault}
use Rattle.pana_track.specs.declared.fault.TrackFault.TheVariants as faults
use Rattle.pana_track.specs.declared.tally.TrackTally.{TrackTally}
use Rattle.pana_track.specs.declared.reporting.CallEnd.TheVariants as ends
use Rattle.pana_track.specs.Calls.{Asked, Makes}
use Rattle.pana_track.specs.Tally.{noted, noted_all}
use Rattle.pana_track.specs.Reports.{Reports, has_moved, left_after, more_after}
use Rattle.pana_track.specs.inner.Reporting.{Answers, BreaksOff, BreaksOne, ReportsAll, ReportsOne, end_of}

-- what holds where a result is an error
pub if_err : {T E : Type 0} → (r : Result T E) (P : Type 0) → P → OnErr r P
if_err (Ok x) P p = tt
if_err (Err e) P p = p

-- what holds of a result that is no error
pub was_ok : {T E : Type 0} → (r : Result T E) (P : Type 0) → OnOk r P → is_err r ≡ false → P
was_ok (Ok x) P on is = on
was_ok (Err e) P on is = absurd (cc)

-- the tally of calls and more calls
pub noted_on : (tally : TrackTally) (made more : List Asked) → noted_all tally (made ++ more) ≡ noted_all (noted_all tally made) more
noted_on tally [] more = refl
noted_on tally (m ∷ made) more = noted_on (noted tally m.answer) made more

module _ {S : Type 0} (step : S → List ℕ → Call → Answer → S → Type 0) where
  -- calls and more calls
  pub makes_on : (old mid new : S) (made more : List Asked) → Makes step old made mid → Makes step mid more new → Makes step old (made ++ more) new
  makes_on old mid new [] more is on = subst (λ (s : S). Makes step s more new) is on
  makes_on old mid new (m ∷ made) more (next, one, is) on = (next, one, makes_on next mid new made more is on)

-- the call that reports a notice, with its answer
abbrev pub reporting : List ℕ → Notice → Answer → Asked
reporting device notice answer = record { by = device; call = call_of device notice; answer = answer }

-- where it stops, where no call is made any more
abbrev stop_at : List Notice → Option TrackFault
stop_at [] = None
stop_at (notice ∷ notices) = Some faults.OutOfMemory

stops_short : (more : ℕ) (device : List ℕ) (notices : List Notice) → Reports more device notices [] (stop_at notices)
stops_short more device [] = refl
stops_short more device (notice ∷ notices) = refl

given_is_kept : (reply : Reply) → Given reply ≢ NotKept
given_is_kept reply odd = absurd (cc)

-- whatever the answer is, the calls may end with it
pub any_answer : (more : ℕ) (device : List ℕ) (notice : Notice) (notices : List Notice) (answer : Answer) → (stop : Option TrackFault) × Reports more device (notice ∷ notices) (reporting device notice answer ∷ []) stop
any_answer more device notice notices NotKept = (Some faults.NotKept, (refl, refl, inl (refl, refl, refl)))
any_answer more device notice notices (Given reply) =
    let left = left_after more notice notices (Given reply) in
    (stop_at left, (refl, refl, inr (given_is_kept reply, stops_short (more_after more notice (Given reply)) device left)))

module _ (notice : Notice) where
  by_test : (b : Bool) → ends.NotKept ≡ cond b ends.Moved ends.Settled → ⊥
  by_test true odd = absurd (cc)
  by_test false odd = absurd (cc)

  is_not_kept : (answer : Answer) → ends.NotKept ≡ end_of notice answer → answer ≡ NotKept
  is_not_kept NotKept is = refl
  is_not_kept (Given reply) is = absurd (by_test (has_moved notice (Given reply)) is)

  has_one_moved : (b : Bool) → ends.Moved ≡ cond b ends.Moved ends.Settled → b ≡ true
  has_one_moved true is = refl
  has_one_moved false is = absurd (cc)

  is_moved : (answer : Answer) → ends.Moved ≡ end_of notice answer → (answer ≢ NotKept) × (has_moved notice answer ≡ true)
  is_moved NotKept is = absurd (cc)
  is_moved (Given reply) is = (given_is_kept reply, has_one_moved (has_moved notice (Given reply)) is)

  has_settled : (b : Bool) → ends.Settled ≡ cond b ends.Moved ends.Settled → b ≡ false
  has_settled true is = absurd (cc)
  has_settled false is = refl

  is_settled : (answer : Answer) → ends.Settled ≡ end_of notice answer → (answer ≢ NotKept) × (has_moved notice answer ≡ false)
  is_settled NotKept is = absurd (cc)
  is_settled (Given reply) is = (given_is_kept reply, has_settled (has_moved notice (Given reply)) is)

-- ---- one notice

-- after so many calls about it, by each of which something was done, so many more than one may be made; after a thousand it is
-- another's turn
abbrev more_at : ℕ → ℕ
more_at index = cond (nat_lt index 1000) (999 - index) 999

abbrev left_at : ℕ → Notice → List Notice → List Notice
left_at index notice notices = cond (nat_lt index 1000) (notice ∷ notices) notices

-- these calls were made about it so far
pub record SoFar {S : Type 0} (step : S → List ℕ → Call → Answer → S → Type 0) (device : List ℕ) (notice : Notice) (index : ℕ) (old new : S) (tally_old tally_new : TrackTally) : Type 0 where
  pub made : List Asked
  pub calls : Makes step old made new
  pub are : (notices : List Notice) (others : List Asked) (stop : Option TrackFault) → Reports (more_at index) device (left_at index notice notices) others stop → Reports 999 device (notice ∷ notices) (made ++ others) stop
  pub tally : tally_new ≡ noted_all tally_old made

module _ {S : Type 0} (step : S → List ℕ → Call → Answer → S → Type 0) (device : List ℕ) (notice : Notice) where
  pub begun : (old : S) (tally : TrackTally) → SoFar step device notice 0 old old tally tally
  begun old tally = record { made = []; calls = refl; are = λ notices others stop is. is; tally = refl }

  module _ (index : ℕ) (old mid : S) (first before : TrackTally) (far : SoFar step device notice index old mid first before) where
    -- a thousand calls were made
    pub all_made : 1000 ≤ index → ReportsOne step device notice old mid first before None
    all_made past = record {
      made = far.made;
      calls = far.calls;
      are = λ notices others stop is. far.are notices others stop (subst (λ (b : Bool). Reports (cond b (999 - index) 999) device (cond b (notice ∷ notices) notices) others stop) (sym (le-ltb index 1000 past)) is);
      tally = far.tally;
    }

    module _ (room : index < 1000) where
      abbrev more : ℕ
      more = 999 - index

      are : (notices : List Notice) (others : List Asked) (stop : Option TrackFault) → Reports more device (notice ∷ notices) others stop → Reports 999 device (notice ∷ notices) (far.made ++ others) stop
      are notices others stop is = far.are notices others stop (subst (λ (b : Bool). Reports (cond b more 999) device (cond b (notice ∷ notices) notices) others stop) (sym (lt-ltb index 1000 room)) is)

      -- memory runs out before the next call
      pub short : (new : S) (after : TrackTally) → new ≡ mid → after ≡ before → ReportsOne step device notice old new first after (Some faults.OutOfMemory)
      short new after same counts = record {
        made = far.made;
        calls = subst (λ (s : S). Makes step old far.made s) (sym same) far.calls;
        are = λ notices. subst (λ (made : List Asked). Reports 999 device (notice ∷ notices) made (Some faults.OutOfMemory)) (append-nil far.made) (are notices [] (Some faults.OutOfMemory) refl);
        tally = counts ∙ far.tally;
      }

      -- the next call has no answer
      pub unanswered : (fails : S → List ℕ → Call → S → Type 0) (new : S) (after : TrackTally) → after ≡ before → fails mid device (call_of device notice) new → BreaksOne step fails device notice old new first after
      unanswered fails new after same failed = record {
        made = far.made;
        mid = mid;
        call = call_of device notice;
        calls = far.calls;
        next = λ notices answer. let so = any_answer more device notice notices answer in (so.0, are notices (reporting device notice answer ∷ []) so.0 so.1);
        failed = failed;
        tally = same ∙ far.tally;
      }

      module _ (new : S) (answer : Answer) (after : TrackTally) (one : step mid device (call_of device notice) answer new) (counts : after ≡ noted before answer) where
        abbrev made : List Asked
        made = far.made ++ reporting device notice answer ∷ []

        calls : Makes step old made new
        calls = makes_on step old mid new far.made (reporting device notice answer ∷ []) far.calls (new, one, refl)

        tally : after ≡ noted_all first made
        tally = counts ∙ ap (λ (t : TrackTally). noted t answer) far.tally ∙ sym (noted_on first far.made (reporting device notice answer ∷ []))

        not_kept : answer ≡ NotKept → ReportsOne step device notice old new first after (Some faults.NotKept)
        not_kept is = record {
          made = made;
          calls = calls;
          are = λ notices. are notices (reporting device notice answer ∷ []) (Some faults.NotKept) (refl, refl, inl (is, refl, refl));
          tally = tally;
        }

        module _ (kept : answer ≢ NotKept) where
          reported : (notices : List Notice) (others : List Asked) (stop : Option TrackFault)
              → Reports (more_after more notice answer) device (left_after more notice notices answer) others stop → Reports 999 device (notice ∷ notices) (made ++ others) stop
          reported notices others stop is =
              subst (λ (all : List Asked). Reports 999 device (notice ∷ notices) all stop) (sym (append_assoc far.made (reporting device notice answer ∷ []) others))
              (are notices (reporting device notice answer ∷ others) stop (refl, refl, inr (kept, is)))

          rests : has_moved notice answer ≡ false → ReportsOne step device notice old new first after None
          rests still = record {
            made = made;
            calls = calls;
            are = λ notices others stop is. reported notices others stop (subst (λ (b : Bool). Reports (cond (b && nat_lt 0 more) (more - 1) 999) device (cond (b && nat_lt 0 more) (notice ∷ notices) notices) others stop) (sym still) is);
            tally = tally;
          }

          moved : has_moved notice answer ≡ true → SoFar step device notice (index + 1) old new first after
          moved on = record {
            made = made;
            calls = calls;
            are = λ notices others stop is. reported notices others stop (subst (λ (b : Bool). Reports (cond (b && nat_lt 0 more) (more - 1) 999) device (cond (b && nat_lt 0 more) (notice ∷ notices) notices) others stop) (sym on) (counted notices others stop is));
            tally = tally;
          } where
            same_test : nat_lt (index + 1) 1000 ≡ nat_lt 0 more
            same_test =
                elim (dec_le 1000 (index + 1)) [
                  | yes past ↦ le-ltb (index + 1) 1000 past ∙ sym (le-ltb 0 more (omega (arith, past)))
                  | no not ↦ let less = lt_of_not-le not in lt-ltb (index + 1) 1000 less ∙ sym (lt-ltb 0 more (omega (arith, less)))
                ]

            counted : (notices : List Notice) (others : List Asked) (stop : Option TrackFault) → Reports (more_at (index + 1)) device (left_at (index + 1) notice notices) others stop
                → Reports (cond (nat_lt 0 more) (more - 1) 999) device (cond (nat_lt 0 more) (notice ∷ notices) notices) others stop
            counted notices others stop is =
                subst (λ (b : Bool). Reports (cond b (more - 1) 999) device (cond b (notice ∷ notices) notices) others stop) same_test
                (subst (λ (n : ℕ). Reports (cond (nat_lt (index + 1) 1000) n 999) device (cond (nat_lt (index + 1) 1000) (notice ∷ notices) notices) others stop) less is) where
                  less : 999 - (index + 1) ≡ more - 1
                  less = omega arith

      module _ (new : S) (after : TrackTally) where
        -- the report isn't kept
        pub ends_not_kept : Answers step device notice mid new before after ends.NotKept → ReportsOne step device notice old new first after (Some faults.NotKept)
        ends_not_kept one = not_kept new one.0 after one.1 one.2 (is_not_kept notice one.0 one.3)

        -- nothing is left to be done
        pub ends_settled : Answers step device notice mid new before after ends.Settled → ReportsOne step device notice old new first after None
        ends_settled one = let so = is_settled notice one.0 one.3 in rests new one.0 after one.1 one.2 so.0 so.1

        -- something was done
        pub ends_moved : Answers step device notice mid new before after ends.Moved → SoFar step device notice (index + 1) old new first after
        ends_moved one = let so = is_moved notice one.0 one.3 in moved new one.0 after one.1 one.2 so.0 so.1

-- ---- all of them

-- of the first so many these calls have reported
pub record AllSoFar {S : Type 0} (step : S → List ℕ → Call → Answer → S → Type 0) (device : List ℕ) (notices : List Notice) (index : ℕ) (old new : S) (tally_old tally_new : TrackTally) : Type 0 where
  pub made : List Asked
  pub calls : Makes step old made new
  pub are : (others : List Asked) (stop : Option TrackFault) → Reports 999 device (drop index notices) others stop → Reports 999 device notices (made ++ others) stop
  pub tally : tally_new ≡ noted_all tally_old made

module _ {S : Type 0} (step : S → List ℕ → Call → Answer → S → Type 0) (device : List ℕ) (notices : List Notice) where
  pub none_yet : (old : S) (counts : TrackTally) → AllSoFar step device notices 0 old old counts counts
  none_yet old counts = record { made = []; calls = refl; are = λ others stop is. is; tally = refl }

  module _ (index : ℕ) (old mid : S) (first before : TrackTally) (far : AllSoFar step device notices index old mid first before) where
    -- all were reported
    pub all_reported : length notices ≤ index → ReportsAll step device notices old mid first before None
    all_reported past = record {
      made = far.made;
      calls = far.calls;
      are = subst (λ (made : List Asked). Reports 999 device notices made None) (append-nil far.made) (far.are [] None (subst (λ (left : List Notice). Reports 999 device left [] None) (sym (drop_all index notices past)) refl));
      tally = far.tally;
    }

    module _ (notice : Notice) (room : index < length notices) (is : notice ≡ slice_index_or notices index notice) where
      abbrev rest : List Notice
      rest = drop (suc index) notices

      next_is : drop index notices ≡ notice ∷ rest
      next_is = drop-cons notices index notice room ∙ ap (λ (n : Notice). n ∷ rest) (sym is)

      goes_on : (others : List Asked) (stop : Option TrackFault) → Reports 999 device (notice ∷ rest) others stop → Reports 999 device notices (far.made ++ others) stop
      goes_on others stop on = far.are others stop (subst (λ (left : List Notice). Reports 999 device left others stop) (sym next_is) on)

      module _ (new : S) (after : TrackTally) where
        -- the next was reported
        pub one_reported : ReportsOne step device notice mid new before after None → AllSoFar step device notices (index + 1) old new first after
        one_reported one = record {
          made = far.made ++ one.made;
          calls = makes_on step old mid new far.made one.made far.calls one.calls;
          are = λ others stop on.
              subst (λ (all : List Asked). Reports 999 device notices all stop) (sym (append_assoc far.made one.made others))
              (goes_on (one.made ++ others) stop (one.are rest others stop (subst (λ (i : ℕ). Reports 999 device (drop i notices) others stop) next on)));
          tally = one.tally ∙ ap (λ (t : TrackTally). noted_all t one.made) far.tally ∙ sym (noted_on first far.made one.made);
        } where
          next : index + 1 ≡ suc index
          next = omega arith

        -- it stops at the next
        pub one_stops : (fault : TrackFault) → ReportsOne step device notice mid new before after (Some fault) → ReportsAll step device notices old new first after (Some fault)
        one_stops fault one = record {
          made = far.made ++ one.made;
          calls = makes_on step old mid new far.made one.made far.calls one.calls;
          are = goes_on one.made (Some fault) (one.are rest);
          tally = one.tally ∙ ap (λ (t : TrackTally). noted_all t one.made) far.tally ∙ sym (noted_on first far.made one.made);
        }

        -- a call about the next has no answer
        pub one_breaks : (fails : S → List ℕ → Call → S → Type 0) → BreaksOne step fails device notice mid new before after → BreaksOff step fails device notices old new first after
        one_breaks fails one = record {
          made = far.made ++ one.made;
          mid = one.mid;
          call = one.call;
          calls = makes_on step old mid one.mid far.made one.made far.calls one.calls;
          next = λ answer.
              let so = one.next rest answer in
              let last = record { by = device; call = one.call; answer = answer } ∷ [] in
              (so.0, subst (λ (all : List Asked). Reports 999 device notices all so.0) (sym (append_assoc far.made one.made last)) (goes_on (one.made ++ last) so.0 so.1));
          failed = one.failed;
          tally = one.tally ∙ ap (λ (t : TrackTally). noted_all t one.made) far.tally ∙ sym (noted_on first far.made one.made);
        }
