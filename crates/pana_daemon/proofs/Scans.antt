-- Calls of a scanner, one after another.
use Rattle.std.proofs.Common.{◌≡◌, ℕ, ◌+◌, ◌<◌, ◌≤◌, suc, take, drop, drop-cons, List, [], ◌∷◌, ◌++◌, length, Option, None, Result, Ok, Err, ◌⊎◌, inl, inr, Bool, true, false, true≢false, refl, IfOk, IfErr, OnErr, OnOk, is_ok, sym, ap, subst, ◌∙◌, slice_index_or, append-nil, arith}
use Rattle.pana_calls.specs.Session.{one}
use Rattle.pana_calls.specs.declared.call.Call.{Call}
use Rattle.pana_calls.specs.declared.message.Message.{Message}
use Rattle.pana_calls.specs.declared.call.Call.TheVariants as calls
use Rattle.pana_calls.specs.declared.answer.Answer.{Answer}
use Rattle.pana_calls.specs.declared.answer.Answer.TheVariants.{Given, NotKept}
use Rattle.pana_calls.specs.declared.answer.NoAnswer.{NoAnswer}
use Rattle.pana_scan.specs.declared.step.Step.{Step}
use Rattle.pana_scan.specs.Listing.{Contents}
use Rattle.pana_calls.specs.declared.call.Query.TheVariants as queries
use Rattle.pana_calls.specs.declared.holding.Holding.{Holding}
use Rattle.pana_calls.specs.declared.reply.Reply.TheVariants.{At, Counts, Status, Done, Did, Known, Families, Board, Stamps, Pair, Holdings, Journal, Refused}
use Rattle.pana_scan.specs.declared.baseline.BaselineRow.{BaselineRow}
use Rattle.pana_scan.specs.Plan.{plan_of}
use Rattle.pana_scan.specs.declared.step.Plan.{Plan}
use Rattle.std.proofs.lemmas.List.{take-append-drop, take_all, take_more}
use Rattle.pana_scan.specs.declared.scan_fault.ScanFault.{ScanFault}
use Rattle.pana_scan.specs.Baseline.{settled}
use Rattle.pana_track.specs.Calls.{Asked, Makes, asked as answered}
use Rattle.pana_track.specs.Folder.{BreaksFolder}
use Rattle.pana_track.specs.Track.{IsTrack}
use Rattle.pana_track.specs.declared.fault.TrackFault.{TrackFault}
use Rattle.pana_track.specs.declared.read_fault.ReadFault.{ReadFault}
use Rattle.pana_track.specs.declared.reading.TrackedListing.{TrackedListing}
use Rattle.pana_track.proofs.Either.{asked_one}
use Rattle.pana_track.proofs.Reported.{makes_on}
use Rattle.pana_daemon.specs.declared.folder.Look.TheVariants.{Scanned, Tracked}
use Rattle.pana_daemon.specs.Scan.{Follow, IsLook, Reports, StopsLook, done_as, settled_all, settled_as}
use Rattle.pana_daemon.specs.inner.Scan.{Asks, IsOwn, ReportsOne, ReportsSteps, ScansOnce, StopsReporting, StopsScan, StopsTracking, TracksOnce, reporting}

module _ {S : Type 0} (step : S → List ℕ → Call → Answer → S → Type 0) where
  -- one call
  pub makes_one : (old new : S) (by : List ℕ) (call : Call) (answer : Answer) → step old by call answer new → Makes step old (record { by = by; call = call; answer = answer } ∷ []) new
  makes_one old new by call answer is = (new, is, refl)

module _ (device : List ℕ) where
  -- the reports of the first steps, which are settled, and those of the others
  pub reports_on : (old mid new : List BaselineRow) (steps more : List Step) (made others : List Asked) (faults : ℕ) → Reports device old steps made 0 mid → Reports device mid more others faults new → Reports device old (steps ++ more) (made ++ others) faults new
  reports_on old mid new [] more [] others faults are on = subst (λ (b : List BaselineRow). Reports device b more others faults new) are.1 on
  reports_on old mid new [] more (m ∷ made) others faults are on = absurd are
  reports_on old mid new (s ∷ steps) more [] others faults are on = absurd (omega (arith, are.0))
  reports_on old mid new (s ∷ steps) more (m ∷ made) others faults are on =
      (are.0, are.1, inl (goes are.2 (λ so. reports_on (settled_as old s m.answer) mid new steps more made others faults so on))) where
        goes : {A : Type 0} → Reports device (settled_as old s m.answer) steps made 0 mid ⊎ ((done_as m.answer ≡ 1) × (made ≡ []) × ◌≡◌ {A = ℕ} 0 1 × (mid ≡ old)) → (Reports device (settled_as old s m.answer) steps made 0 mid → A) → A
        goes (inl so) then = then so
        goes (inr odd) then = absurd (omega (arith, odd.2))

  -- what was reported of the first steps is settled
  pub reports_settled : (old new : List BaselineRow) (steps more : List Step) (made : List Asked) → Reports device old steps made 0 new → new ≡ settled_all old (steps ++ more) made
  reports_settled old new [] more [] are = are.1
  reports_settled old new [] more (m ∷ made) are = absurd are
  reports_settled old new (s ∷ steps) more [] are = absurd (omega (arith, are.0))
  reports_settled old new (s ∷ steps) more (m ∷ made) are = settles are.2 (λ so. reports_settled (settled_as old s m.answer) new steps more made so) where
    settles : {A : Type 0} → Reports device (settled_as old s m.answer) steps made 0 new ⊎ ((done_as m.answer ≡ 1) × (made ≡ []) × ◌≡◌ {A = ℕ} 0 1 × (new ≡ old)) → (Reports device (settled_as old s m.answer) steps made 0 new → A) → A
    settles (inl so) then = then so
    settles (inr odd) then = absurd (omega (arith, odd.2))

pub on_err : {T E : Type 0} → (r : Result T E) (P : Type 0) → P → OnErr r P
on_err (Ok x) P p = tt
on_err (Err e) P p = p

pub on_err_then : {T E : Type 0} → (r : Result T E) (P Q : Type 0) → (P → Q) → OnErr r P → OnErr r Q
on_err_then (Ok x) P Q f on = tt
on_err_then (Err e) P Q f on = f on

pub if_err : {T E : Type 0} → (r : Result T E) (P : Type 0) → P → IfErr r (λ _. P)
if_err (Ok x) P p = tt
if_err (Err e) P p = p

-- the reports that were made so far, of the first so many steps
pub record SoFar {S : Type 0} (step : S → List ℕ → Call → Answer → S → Type 0) (device : List ℕ) (steps : List Step) (index : ℕ) (old new : S) (marks_old marks_new : List BaselineRow) : Type 0 where
  pub made : List Asked
  pub calls : Makes step old made new
  pub are : Reports device marks_old (take index steps) made 0 marks_new

module _ {S : Type 0} (step : S → List ℕ → Call → Answer → S → Type 0) (device : List ℕ) (steps : List Step) where
  -- once all steps were gone over, all their reports were made
  pub all_reported : (index : ℕ) (old new : S) (marks_old marks_new : List BaselineRow) → length steps ≤ index → SoFar step device steps index old new marks_old marks_new → ReportsSteps step device steps old new marks_old marks_new
  all_reported index old new marks_old marks_new past far = record {
    made = far.made;
    faults = 0;
    calls = far.calls;
    are = subst (λ (ss : List Step). Reports device marks_old ss far.made 0 marks_new) (take_all index steps past) far.are;
  }

  module _ (index : ℕ) (old mid new : S) (s : Step) (marks_old marks_mid marks_new : List BaselineRow) (far : SoFar step device steps index old mid marks_old marks_mid) (room : index < length steps) (is : s ≡ slice_index_or steps index s) where
    -- the steps so far, this one, and the others
    parts : take index steps ++ (s ∷ drop (suc index) steps) ≡ steps
    parts = ap (λ (more : List Step). take index steps ++ more) (ap (λ (t : Step). t ∷ drop (suc index) steps) is ∙ sym (drop-cons steps index s room)) ∙ take-append-drop index steps

    next_calls : (answer : Answer) → step mid device (calls.Report s.report) answer new → Makes step old (far.made ++ reporting device s answer ∷ []) new
    next_calls answer one = makes_on step old mid new far.made (reporting device s answer ∷ []) far.calls (makes_one step mid new device (calls.Report s.report) answer one)

    -- what is reported of this step and the others, behind those so far
    next_reports : (others : List Asked) (faults : ℕ) → Reports device marks_mid (s ∷ drop (suc index) steps) others faults marks_new → Reports device marks_old steps (far.made ++ others) faults marks_new
    next_reports others faults on = subst (λ (ss : List Step). Reports device marks_old ss (far.made ++ others) faults marks_new) parts (reports_on device marks_old marks_mid marks_new (take index steps) (s ∷ drop (suc index) steps) far.made others faults far.are on)

    no_more : (faults : ℕ) → faults ≡ 1 → marks_new ≡ marks_mid → Reports device marks_old steps far.made faults marks_new
    no_more faults fault same = subst (λ (made : List Asked). Reports device marks_old steps made faults marks_new) (append-nil far.made) (next_reports [] faults (fault, same))

    -- a step's report was made, or none, and then no more is to be
    pub last_one : (more : Bool) → more ≡ false → ReportsOne step device s mid new more marks_mid marks_new → ReportsSteps step device steps old new marks_old marks_new
    last_one more off (inl one) = last_of one.ends where
      last_of : ((more ≡ true) × (one.faults ≡ 0) × (marks_new ≡ settled_as marks_mid s one.answer)) ⊎ ((more ≡ false) × (one.faults ≡ 1) × (marks_new ≡ marks_mid) × (done_as one.answer ≡ 1)) → ReportsSteps step device steps old new marks_old marks_new
      last_of (inl (on, none, settles)) = absurd (true≢false (sym on ∙ off))
      last_of (inr (ended, fault, same, was)) = record {
        made = far.made ++ reporting device s one.answer ∷ [];
        faults = one.faults;
        calls = next_calls one.answer one.call;
        are = next_reports (reporting device s one.answer ∷ []) one.faults (refl, refl, inr (was, refl, fault, same));
      }
    last_one more off (inr (last, same, marks)) = record {
      made = far.made;
      faults = 1;
      calls = subst (λ (x : S). Makes step old far.made x) (sym same) far.calls;
      are = no_more 1 refl marks;
    }

    -- where more is to be made, a step's report was made, with no fault
    pub just_one : (more : Bool) → more ≡ true → ReportsOne step device s mid new more marks_mid marks_new → SoFar step device steps (index + 1) old new marks_old marks_new
    just_one more on (inl one) = just_of one.ends where
      just_of : ((more ≡ true) × (one.faults ≡ 0) × (marks_new ≡ settled_as marks_mid s one.answer)) ⊎ ((more ≡ false) × (one.faults ≡ 1) × (marks_new ≡ marks_mid) × (done_as one.answer ≡ 1)) → SoFar step device steps (index + 1) old new marks_old marks_new
      just_of (inr (ended, fault, same, was)) = absurd (true≢false (sym on ∙ ended))
      just_of (inl (goes_on, none, settles)) = record {
        made = far.made ++ reporting device s one.answer ∷ [];
        calls = next_calls one.answer one.call;
        are = subst (λ (ss : List Step). Reports device marks_old ss (far.made ++ reporting device s one.answer ∷ []) 0 marks_new) (ap (λ (t : Step). take index steps ++ t ∷ []) is ∙ sym (take_more steps index s room))
            (reports_on device marks_old marks_mid marks_new (take index steps) (s ∷ []) far.made (reporting device s one.answer ∷ []) 0 far.are (refl, refl, inl (refl, settles)));
      }
    just_one more on (inr (last, same, marks)) = absurd (true≢false (sym on ∙ last))

    -- the next report has no answer
    pub stops_at : (fails : S → List ℕ → Call → S → Type 0) → fails mid device (calls.Report s.report) new → marks_new ≡ marks_mid → StopsReporting step fails device steps old new marks_old marks_new
    stops_at fails failed same = record {
      mid = mid;
      made = far.made;
      calls = far.calls;
      call = calls.Report s.report;
      are = λ answer. next_of answer (reported answer (drop (suc index) steps));
      ends = failed;
      left = same ∙ reports_settled device marks_old marks_mid (take index steps) (s ∷ drop (suc index) steps) far.made far.are ∙ ap (λ (ss : List Step). settled_all marks_old ss far.made) parts;
    } where
      reported : (answer : Answer) (rest : List Step) → (faults : ℕ) × (left : List BaselineRow) × Reports device marks_mid (s ∷ rest) (reporting device s answer ∷ []) faults left
      reported answer [] = (0, settled_as marks_mid s answer, (refl, refl, inl (refl, refl)))
      reported answer (t ∷ rest) = (1, settled_as marks_mid s answer, (refl, refl, inl (refl, refl)))

      next_of : (answer : Answer) → ((faults : ℕ) × (left : List BaselineRow) × Reports device marks_mid (s ∷ drop (suc index) steps) (reporting device s answer ∷ []) faults left)
          → (faults : ℕ) × (left : List BaselineRow) × Reports device marks_old steps (far.made ++ reporting device s answer ∷ []) faults left
      next_of answer one =
          (one.0, one.1, subst (λ (ss : List Step). Reports device marks_old ss (far.made ++ reporting device s answer ∷ []) one.0 one.1) parts (reports_on device marks_old marks_mid one.1 (take index steps) (s ∷ drop (suc index) steps) far.made (reporting device s answer ∷ []) one.0 far.are one.2))

-- with no report, but a fault, nothing is asked of the answer
no_reports : (device : List ℕ) (listing : Contents) (old new : List BaselineRow) (answer : Answer) → new ≡ old → Follow device listing old answer [] 1 new
no_reports device listing old new (Given (Holdings holdings)) same = inr (refl, refl, same)
no_reports device listing old new (Given (Done entry)) same = (refl, refl, same)
no_reports device listing old new (Given (Did kind entry)) same = (refl, refl, same)
no_reports device listing old new (Given (Known copy)) same = (refl, refl, same)
no_reports device listing old new (Given (Families rows)) same = (refl, refl, same)
no_reports device listing old new (Given (Board board)) same = (refl, refl, same)
no_reports device listing old new (Given (Stamps stamps)) same = (refl, refl, same)
no_reports device listing old new (Given (Pair rel)) same = (refl, refl, same)
no_reports device listing old new (Given (At standing)) same = (refl, refl, same)
no_reports device listing old new (Given (Status rows)) same = (refl, refl, same)
no_reports device listing old new (Given (Journal entries)) same = (refl, refl, same)
no_reports device listing old new (Given (Counts counts)) same = (refl, refl, same)
no_reports device listing old new (Given (Refused cause)) same = (refl, refl, same)
no_reports device listing old new NotKept same = (refl, refl, same)

module _ {S : Type 0} (step : S → List ℕ → Call → Answer → S → Type 0) (device : List ℕ) where
  abbrev asking : Answer → Asked
  asking answer = record { by = device; call = calls.Query (queries.Holdings device None); answer = answer }

  -- the device asked, and reported nothing
  pub asked : (listing : Contents) (answer : Answer) (old new : S) (marks_old marks_new : List BaselineRow) → listing.device ≡ device → step old device (calls.Query (queries.Holdings device None)) answer new → marks_new ≡ marks_old → ScansOnce step device (Ok listing) old new marks_old marks_new
  asked listing answer old new marks_old marks_new own one marks = record {
    made = asking answer ∷ [];
    faults = 1;
    calls = (new, one, refl);
    is = (own, refl, refl, no_reports device listing marks_old marks_new answer marks);
  }

  -- the device asked, and got no holdings
  pub none_held : (listing : Contents) (old new : S) (marks_old marks_new : List BaselineRow) → listing.device ≡ device → marks_new ≡ marks_old → Asks step device old new None → ScansOnce step device (Ok listing) old new marks_old marks_new
  none_held listing old new marks_old marks_new own marks (answer, one) = asked listing answer old new marks_old marks_new own one marks

  -- the question for the holdings has no answer
  pub none_asked : (fails : S → List ℕ → Call → S → Type 0) (listing : Contents) (old new : S) (marks_old marks_new : List BaselineRow) → listing.device ≡ device → fails old device (calls.Query (queries.Holdings device None)) new → marks_new ≡ marks_old → StopsScan step fails device (Ok listing) old new marks_old marks_new
  none_asked fails listing old new marks_old marks_new own failed same = record {
    mid = old;
    made = [];
    calls = refl;
    call = calls.Query (queries.Holdings device None);
    is = λ answer. (1, marks_old, (own, refl, refl, no_reports device listing marks_old marks_old answer refl));
    ends = failed;
    left = same;
  }

  module _ (listing : Contents) (holdings : List Holding) (marks_old : List BaselineRow) (old mid : S) (own : listing.device ≡ device) (one : step old device (calls.Query (queries.Holdings device None)) (Given (Holdings holdings)) mid)
      (plan : Plan) (is : plan ≡ plan_of marks_old holdings listing) where
    -- the device asked, got its holdings, and reported what was planned
    planned : (new : S) (marks_new : List BaselineRow) (steps : List Step) → steps ≡ plan.steps → ReportsSteps step device steps mid new plan.baseline marks_new → ScansOnce step device (Ok listing) old new marks_old marks_new
    planned new marks_new steps are reports = record {
      made = asking (Given (Holdings holdings)) ∷ reports.made;
      faults = reports.faults;
      calls = (mid, one, reports.calls);
      is = (own, refl, refl, inl (subst (λ (p : Plan). Reports device p.baseline p.steps reports.made reports.faults marks_new) is (subst (λ (s : List Step). Reports device plan.baseline s reports.made reports.faults marks_new) are reports.are)));
    }

    stopped : (fails : S → List ℕ → Call → S → Type 0) (new : S) (marks_new : List BaselineRow) (steps : List Step) → steps ≡ plan.steps → StopsReporting step fails device steps mid new plan.baseline marks_new → StopsScan step fails device (Ok listing) old new marks_old marks_new
    stopped fails new marks_new steps are stops = record {
      mid = stops.mid;
      made = asking (Given (Holdings holdings)) ∷ stops.made;
      calls = (mid, one, stops.calls);
      call = stops.call;
      is = λ answer.
          let so = stops.are answer in
          let more = stops.made ++ record { by = device; call = stops.call; answer = answer } ∷ [] in
          (so.0, so.1, (own, refl, refl, inl (subst (λ (p : Plan). Reports device p.baseline p.steps more so.0 so.1) is (subst (λ (s : List Step). Reports device plan.baseline s more so.0 so.1) are so.2))));
      ends = stops.ends;
      left = stops.left ∙ ap (λ (s : List Step). settled_all plan.baseline s stops.made) are ∙ ap (λ (p : Plan). settled_all p.baseline p.steps stops.made) is;
    }

    pub planned_all : (result : Result (Unit {0}) NoAnswer) (new : S) (marks_new : List BaselineRow) (steps : List Step) → steps ≡ plan.steps → IfOk result (λ _. ReportsSteps step device steps mid new plan.baseline marks_new) → IfOk result (λ _. ScansOnce step device (Ok listing) old new marks_old marks_new)
    planned_all (Ok done) new marks_new steps are reports = planned new marks_new steps are reports
    planned_all (Err failed) new marks_new steps are reports = tt

    pub planned_spent : (fails : S → List ℕ → Call → S → Type 0) (result : Result (Unit {0}) NoAnswer) (new : S) (marks_new : List BaselineRow) (steps : List Step) → steps ≡ plan.steps → IfErr result (λ _. StopsReporting step fails device steps mid new plan.baseline marks_new)
        → IfErr result (λ _. StopsScan step fails device (Ok listing) old new marks_old marks_new)
    planned_spent fails (Ok done) new marks_new steps are stops = tt
    planned_spent fails (Err failed) new marks_new steps are stops = stopped fails new marks_new steps are stops

module _ {S : Type 0} (step : S → List ℕ → Call → Answer → S → Type 0) (device : List ℕ) (s : Step) (old new : S) (marks_old marks_new : List BaselineRow) where
  -- the report was done, and is settled, or memory ran out before that
  pub report_done : {T E : Type 0} (settles : Result T E) (more : Bool) (entry : ℕ) → step old device (calls.Report s.report) (Given (Done entry)) new
      → OnOk settles (marks_new ≡ settled marks_old s entry) → OnErr settles (marks_new ≡ marks_old) → more ≡ is_ok settles → ReportsOne step device s old new more marks_old marks_new
  report_done (Ok x) more entry one ok err is = inl (record { answer = Given (Done entry); call = one; faults = 0; ends = inl (is, refl, ok) })
  report_done (Err e) more entry one ok err is = inl (record { answer = Given (Done entry); call = one; faults = 1; ends = inr (is, refl, err, refl) })

module _ {S : Type 0} (step : S → List ℕ → Call → Answer → S → Type 0) (device : List ℕ) where
  -- tracking a folder was broken off
  tracking_stops : (together : Bool) (fails : S → List Message → S → Type 0) (given : Result TrackedListing ReadFault) (old new : S) → IfOk given (λ found. found.listing.device ≡ device) → BreaksFolder step together fails false given old new
      → StopsTracking step together fails device given old new
  tracking_stops false fails (Err fault) old new own is = absurd is
  tracking_stops true fails (Err fault) old new own is = absurd is
  tracking_stops false fails (Ok found) old new own is = record {
    mid = is.1.mid;
    made = is.1.made;
    calls = is.1.calls;
    call = is.1.call;
    is = λ answer. inr (own, subst (λ (by : List ℕ). (stop : Option TrackFault) × IsTrack false false found (is.1.made ++ record { by = by; call = is.1.call; answer = answer } ∷ []) stop) own (is.1.next answer));
    ends = subst (λ (by : List ℕ). one fails is.1.mid by is.1.call new) own is.1.failed;
  }
  tracking_stops true fails (Ok found) old new own is = record {
    mid = is.1.mid;
    made = is.1.made;
    calls = is.1.calls;
    messages = is.1.messages;
    is = λ answers many. let so = is.1.next answers many in (so.0, inr (own, (so.1, so.2)));
    ends = is.1.failed;
  }

  pub own_stops : (together : Bool) (fails : S → List Message → S → Type 0) (given : Result TrackedListing ReadFault) (old new : S) (is_own : Bool) → is_own ≡ true → IsOwn is_own device given → BreaksFolder step together fails false given old new
      → StopsTracking step together fails device given old new
  own_stops together fails given old new is_own owned own is = tracking_stops together fails given old new (subst (λ (b : Bool). IsOwn b device given) owned own) is

  -- of another device's there are none
  pub tracks_none : (together : Bool) (given : Result TrackedListing ReadFault) (old : S) (is_own : Bool) → is_own ≡ false → IsOwn is_own device given → TracksOnce step together device given old old None
  tracks_none together given old is_own foreign own = none_of given (subst (λ (b : Bool). IsOwn b device given) foreign own) where
    none_of : (given : Result TrackedListing ReadFault) → IsOwn false device given → TracksOnce step together device given old old None
    none_of (Ok found) other = record { made = []; calls = refl; is = inl (other, refl); ends = (other, refl) }
    none_of (Err fault) odd = absurd odd

  -- a scan that was broken off is a look that was
  pub scan_stops_look : (together : Bool) (fails : S → List Message → S → Type 0) (given : Result Contents ScanFault) (old new : S) (marks_old marks_new : List BaselineRow) → StopsScan step (one fails) device given old new marks_old marks_new
      → StopsLook step device together fails (Scanned given) old new marks_old marks_new
  scan_stops_look false fails given old new marks_old marks_new s = record {
    mid = s.mid;
    made = s.made;
    calls = s.calls;
    call = s.call;
    is = λ answer. let so = s.is answer in (so.1, (so.0, so.2));
    ends = s.ends;
    left = s.left;
  }
  scan_stops_look true fails given old new marks_old marks_new s = record {
    mid = s.mid;
    made = s.made;
    calls = s.calls;
    messages = message ∷ [];
    is = λ answers many.
        let so = asked_one message (λ (more : List Asked). (left : List BaselineRow) × IsLook true device (Scanned given) marks_old (s.made ++ more) left) answers many (λ answer. let so = s.is answer in (so.1, (so.0, so.2))) in
        ([], so.0, subst (λ (more : List Asked). IsLook true device (Scanned given) marks_old (s.made ++ more) so.0) (sym (append-nil (answered (message ∷ []) answers))) so.1);
    ends = s.ends;
    left = s.left;
  } where
    message : Message
    message = record { by = device; call = s.call }

  -- and so is tracking
  pub tracking_stops_look : (together : Bool) (fails : S → List Message → S → Type 0) (given : Result TrackedListing ReadFault) (old new : S) (marks_old marks_new : List BaselineRow) → StopsTracking step together fails device given old new
      → marks_new ≡ marks_old → StopsLook step device together fails (Tracked given) old new marks_old marks_new
  tracking_stops_look false fails given old new marks_old marks_new s same = record {
    mid = s.mid;
    made = s.made;
    calls = s.calls;
    call = s.call;
    is = λ answer. (marks_old, (s.is answer, refl));
    ends = s.ends;
    left = same;
  }
  tracking_stops_look true fails given old new marks_old marks_new s same = record {
    mid = s.mid;
    made = s.made;
    calls = s.calls;
    messages = s.messages;
    is = λ answers many. let so = s.is answers many in (so.0, marks_old, (so.1, refl));
    ends = s.ends;
    left = same;
  }
