-- What a history of a store's requests has kept.
use Rattle.std.proofs.Common.{◌≡◌, ◌≢◌, ◌⊎◌, inl, inr, ⊎_elim, ℕ, ◌<◌, ◌≤◌, Bool, IsTrue, List, [], ◌∷◌, ◌++◌, length, sym, ap, subst, ◌∙◌, append-nil, arith, Some, None}
use Rattle.pana_calls.specs.Session.{MakesAll, alone}
use Rattle.pana_calls.specs.declared.answer.Answer.{Answer}
use Rattle.pana_calls.specs.declared.answer.Answer.TheVariants.{Given}
use Rattle.pana_calls.specs.declared.call.Call.{Call}
use Rattle.pana_calls.specs.declared.call.Call.TheVariants.{Report, Sighting, Query}
use Rattle.pana_calls.specs.declared.message.Message.{Message}
use Rattle.pana_calls.specs.declared.reply.Reply.{Reply}
use Rattle.pana_turn.specs.History.{IsHistory, left_by}
use Rattle.pana_log.specs.declared.log_state.LogState.TheVariants.{Open}
use Rattle.pana_store.specs.Acknowledged.{IsDone}
use Rattle.pana_store.specs.Entries.{LoadsFirst}
use Rattle.pana_store.specs.Store.{IsKept, KeepsFirst, StoreView, stored}
use Rattle.pana_store.proofs.Acknowledged as groups
use Rattle.pana_daemon.specs.Desk.{Finished, RequestSteps}
use Rattle.pana_daemon.specs.declared.request.Request.{Request}
use Rattle.pana_daemon.specs.declared.request.Request.TheVariants.{Make, MakeAll, Settle}
use Rattle.pana_daemon.specs.declared.request.Response.{Response}
use Rattle.pana_daemon.specs.declared.request.Response.TheVariants as responses
use Rattle.pana_laws.specs.KeptRun.{KeepsDone}

module _ {V : Type 0} (is_known : Bool) (seen : V → List ℕ) (may_leave : V → List ℕ → Type 0) (is_usable : V → Bool) (moment : V → ℕ) (left_since : V → ℕ → List ℕ → Type 0) (has_failed : V → Bool) (known : IsTrue is_known)
    (only_now : (d : V) (c : List ℕ) → left_since d (moment d) c → may_leave d c) where
  abbrev Step : StoreView V → List ℕ → Call → Answer → StoreView V → Type 0
  Step = groups.Step is_known seen may_leave is_usable moment left_since has_failed

  abbrev Fails : StoreView V → List ℕ → Call → StoreView V → Type 0
  Fails = groups.Fails is_known seen may_leave is_usable moment left_since has_failed

  abbrev So : StoreView V → StoreView V → Type 0
  So = groups.So is_known seen may_leave is_usable moment left_since has_failed

  abbrev Off : StoreView V → StoreView V → Type 0
  Off = groups.Off is_known seen may_leave is_usable moment left_since has_failed

  abbrev One : StoreView V → Request → Response → StoreView V → Type 0
  One = RequestSteps Step (alone Fails) So Off

  abbrev Steps : StoreView V → List (Finished (StoreView V)) → Type 0
  Steps old history = IsHistory One old history

  abbrev Good : StoreView V → Type 0
  Good = groups.Good is_known seen may_leave is_usable moment left_since has_failed known only_now

  abbrev Runs : StoreView V → StoreView V → Type 0
  Runs = groups.Runs is_known seen may_leave is_usable moment left_since has_failed known only_now

  -- entries that wait can't be kept any more
  record Lost (group : StoreView V) : Type 0 where
    pub shut : group.log.state ≢ Open
    pub waits : length group.kept < length group.entries

  abbrev State : StoreView V → Type 0
  State group = Good group ⊎ Lost group

  lost_off : (old new : StoreView V) → Off old new → Lost new
  lost_off old new off = record { shut = off.broken; waits = omega (arith, off.waits, ap length off.entries, ap length off.kept) }

  lost_answers : (old : StoreView V) (by : List ℕ) (call : Call) (answer : Answer) (new : StoreView V) → Lost old → Step old by call answer new → Lost new
  lost_answers old by (Report report) answer new lost step = absurd (lost.shut step.is_open)
  lost_answers old by (Sighting sighting) answer new lost step = absurd (lost.shut step.is_open)
  lost_answers old by (Query query) answer new lost step = subst Lost (sym (step.query tt)) lost

  -- such a store doesn't settle
  not_settled : {A : Type 0} (old new : StoreView V) → Lost old → So old new → A
  not_settled old new lost so = ⊎_elim
      (λ same. absurd (omega (arith, lost.waits, ap length so.kept, ap length so.entries, ap (λ (g : StoreView V). length g.kept) same)))
      (λ took. absurd (lost.shut took.0))
      so.takes

  -- one call
  call_state : (old : StoreView V) (m : Message) (answer : Answer) (new : StoreView V) → State old → Step old m.by m.call answer new → State new
  call_state old m answer new (inl good) step = inl (groups.good_step is_known seen may_leave is_usable moment left_since has_failed known only_now old m.by m.call answer new good step)
  call_state old m answer new (inr lost) step = inr (lost_answers old m.by m.call answer new lost step)

  fail_state : (old : StoreView V) (m : Message) (new : StoreView V) → State old → Fails old m.by m.call new → State new
  fail_state old m new (inl good) (makes, inl (shut, same)) = absurd (shut good.works)
  fail_state old m new (inr lost) (makes, inl (shut, same)) = inr (subst Lost (sym same) lost)
  fail_state old m new state (makes, inr off) = inr (lost_off old new off)

  fail_grows : (old : StoreView V) (m : Message) (new : StoreView V) → Fails old m.by m.call new → length old.entries ≤ length new.entries
  fail_grows old m new (makes, inl (shut, same)) = omega (arith, ap (λ (g : StoreView V). length g.entries) same)
  fail_grows old m new (makes, inr off) = omega (arith, ap length off.entries)

  -- calls one after another
  list_state : (old : StoreView V) (messages : List Message) (given : List Answer) (new : StoreView V) → State old → MakesAll Step old messages given new → State new
  list_state old [] [] new state makes = subst State (sym makes) state
  list_state old [] (answer ∷ given) new state makes = absurd makes
  list_state old (m ∷ messages) [] new state makes = absurd makes
  list_state old (m ∷ messages) (answer ∷ given) new state (mid, step, more) = list_state mid messages given new (call_state old m answer mid state step) more

  failed_state : (old : StoreView V) (messages : List Message) (new : StoreView V) → State old → alone Fails old messages new → State new
  failed_state old [] new state fails = absurd fails
  failed_state old (m ∷ []) new state fails = fail_state old m new state fails
  failed_state old (m ∷ n ∷ messages) new state fails = absurd fails

  list_run : (first old : StoreView V) (messages : List Message) (given : List Answer) (new : StoreView V) → Runs first old → MakesAll Step old messages given new → Runs first new
  list_run first old [] [] new run makes = subst (Runs first) (sym makes) run
  list_run first old [] (answer ∷ given) new run makes = absurd makes
  list_run first old (m ∷ messages) [] new run makes = absurd makes
  list_run first old (m ∷ messages) (answer ∷ given) new run (mid, step, more) =
      list_run first mid messages given new (groups.runs_step is_known seen may_leave is_usable moment left_since has_failed known only_now first old m.by m.call answer mid run step) more

  failed_run : (first old : StoreView V) (messages : List Message) (new : StoreView V) → Runs first old → alone Fails old messages new → Runs first new
  failed_run first old [] new run fails = absurd fails
  failed_run first old (m ∷ []) new run fails = groups.runs_fail is_known seen may_leave is_usable moment left_since has_failed known only_now first old m.by m.call new run fails
  failed_run first old (m ∷ n ∷ messages) new run fails = absurd fails

  list_grows : (old : StoreView V) (messages : List Message) (given : List Answer) (new : StoreView V) → MakesAll Step old messages given new → length old.entries ≤ length new.entries
  list_grows old [] [] new makes = omega (arith, ap (λ (g : StoreView V). length g.entries) makes)
  list_grows old [] (answer ∷ given) new makes = absurd makes
  list_grows old (m ∷ messages) [] new makes = absurd makes
  list_grows old (m ∷ messages) (answer ∷ given) new (mid, step, more) =
      omega (arith, groups.grows is_known seen may_leave is_usable moment left_since has_failed known only_now old m.by m.call answer mid step, list_grows mid messages given new more)

  failed_grows : (old : StoreView V) (messages : List Message) (new : StoreView V) → alone Fails old messages new → length old.entries ≤ length new.entries
  failed_grows old [] new fails = absurd fails
  failed_grows old (m ∷ []) new fails = fail_grows old m new fails
  failed_grows old (m ∷ n ∷ messages) new fails = absurd fails

  -- one request more
  next_state : (old : StoreView V) (request : Request) (response : Response) (new : StoreView V) → State old → One old request response new → State new
  next_state old (Make m) (responses.Answer answer) new (inl good) step = inl (groups.good_step is_known seen may_leave is_usable moment left_since has_failed known only_now old m.by m.call answer new good step)
  next_state old (Make m) (responses.Answer answer) new (inr lost) step = inr (lost_answers old m.by m.call answer new lost step)
  next_state old (Make m) responses.Settled new state step = absurd step
  next_state old (Make m) (responses.Answers answers stopped) new state step = absurd step
  next_state old (MakeAll messages) (responses.Answers answers None) new state adds = list_state old messages adds.given new state adds.makes
  next_state old (MakeAll messages) (responses.Answers answers (Some recovers)) new state some = failed_state some.mid some.tried new (list_state old some.made some.adds.given some.mid state some.adds.makes) some.failed
  next_state old (MakeAll messages) (responses.Answer answer) new state step = absurd step
  next_state old (MakeAll messages) responses.Settled new state step = absurd step
  next_state old (MakeAll messages) (responses.Nothing recovers) new state step = absurd step
  next_state old Settle (responses.Answers answers stopped) new state step = absurd step
  next_state old (Make m) (responses.Nothing recovers) new (inl good) (makes, inl (shut, same)) = absurd (shut good.works)
  next_state old (Make m) (responses.Nothing recovers) new (inr lost) (makes, inl (shut, same)) = inr (subst Lost (sym same) lost)
  next_state old (Make m) (responses.Nothing recovers) new state (makes, inr off) = inr (lost_off old new off)
  next_state old Settle (responses.Answer answer) new state step = absurd step
  next_state old Settle responses.Settled new (inl good) step = inl (groups.good_settle is_known seen may_leave is_usable moment left_since has_failed known only_now old new good step)
  next_state old Settle responses.Settled new (inr lost) step = not_settled old new lost step
  next_state old Settle (responses.Nothing recovers) new state step = inr (lost_off old new step)

  next_run : (first old : StoreView V) (request : Request) (response : Response) (new : StoreView V) → Runs first old → One old request response new → Runs first new
  next_run first old (Make m) (responses.Answer answer) new run step = groups.runs_step is_known seen may_leave is_usable moment left_since has_failed known only_now first old m.by m.call answer new run step
  next_run first old (Make m) responses.Settled new run step = absurd step
  next_run first old (Make m) (responses.Answers answers stopped) new run step = absurd step
  next_run first old (MakeAll messages) (responses.Answers answers None) new run adds = list_run first old messages adds.given new run adds.makes
  next_run first old (MakeAll messages) (responses.Answers answers (Some recovers)) new run some = failed_run first some.mid some.tried new (list_run first old some.made some.adds.given some.mid run some.adds.makes) some.failed
  next_run first old (MakeAll messages) (responses.Answer answer) new run step = absurd step
  next_run first old (MakeAll messages) responses.Settled new run step = absurd step
  next_run first old (MakeAll messages) (responses.Nothing recovers) new run step = absurd step
  next_run first old Settle (responses.Answers answers stopped) new run step = absurd step
  next_run first old (Make m) (responses.Nothing recovers) new run step = groups.runs_fail is_known seen may_leave is_usable moment left_since has_failed known only_now first old m.by m.call new run step
  next_run first old Settle (responses.Answer answer) new run step = absurd step
  next_run first old Settle responses.Settled new run step = groups.runs_settle is_known seen may_leave is_usable moment left_since has_failed known only_now first old new run step
  next_run first old Settle (responses.Nothing recovers) new run step = groups.runs_off is_known seen may_leave is_usable moment left_since has_failed known only_now first old new run step

  all_run : (first old : StoreView V) (history : List (Finished (StoreView V))) → Runs first old → Steps old history → Runs first (left_by old history)
  all_run first old [] run steps = run
  all_run first old (x ∷ history) run steps = all_run first x.left history (next_run first old x.call x.reply x.left run steps.0) steps.1

  -- entries are never fewer
  next_grows : (old : StoreView V) (request : Request) (response : Response) (new : StoreView V) → One old request response new → length old.entries ≤ length new.entries
  next_grows old (Make m) (responses.Answer answer) new step = groups.grows is_known seen may_leave is_usable moment left_since has_failed known only_now old m.by m.call answer new step
  next_grows old (Make m) responses.Settled new step = absurd step
  next_grows old (Make m) (responses.Answers answers stopped) new step = absurd step
  next_grows old (MakeAll messages) (responses.Answers answers None) new adds = list_grows old messages adds.given new adds.makes
  next_grows old (MakeAll messages) (responses.Answers answers (Some recovers)) new some =
      omega (arith, list_grows old some.made some.adds.given some.mid some.adds.makes, failed_grows some.mid some.tried new some.failed)
  next_grows old (MakeAll messages) (responses.Answer answer) new step = absurd step
  next_grows old (MakeAll messages) responses.Settled new step = absurd step
  next_grows old (MakeAll messages) (responses.Nothing recovers) new step = absurd step
  next_grows old Settle (responses.Answers answers stopped) new step = absurd step
  next_grows old (Make m) (responses.Nothing recovers) new (makes, inl (shut, same)) = omega (arith, ap (λ (g : StoreView V). length g.entries) same)
  next_grows old (Make m) (responses.Nothing recovers) new (makes, inr off) = omega (arith, ap length off.entries)
  next_grows old Settle (responses.Answer answer) new step = absurd step
  next_grows old Settle responses.Settled new step = omega (arith, ap length step.entries)
  next_grows old Settle (responses.Nothing recovers) new step = omega (arith, ap length step.entries)

  pub keeps_all : (old : StoreView V) (history : List (Finished (StoreView V))) → old.log.state ≡ Open → IsKept seen may_leave is_usable (stored old) → old.entries ≡ old.kept → Steps old history → KeepsFirst moment left_since old (left_by old history)
  keeps_all old history works kept all steps =
      let good : Good old = record { works = works; kept_so = kept } in
      (all_run old old history (groups.starts is_known seen may_leave is_usable moment left_since has_failed known only_now old [] good (all ∙ sym (append-nil old.kept))) steps).keeps

  -- what a settling keeps is kept from then on
  settled_on : (old : StoreView V) (request : Request) (response : Response) (new : StoreView V) (after : List (Finished (StoreView V))) (n : ℕ) → State old → One old request response new → response ≡ responses.Settled → n ≤ length old.entries → Steps new after
      → (c : List ℕ) → left_since (left_by new after).log.device (moment new.log.device) c → LoadsFirst n (left_by new after).entries c
  settled_on old (Make m) response new after n state step is le steps = absurd (subst (λ (r : Response). One old (Make m) r new) is step)
  settled_on old (MakeAll messages) response new after n state step is le steps = absurd (subst (λ (r : Response). One old (MakeAll messages) r new) is step)
  settled_on old Settle response new after n (inr lost) step is le steps = not_settled old new lost (subst (λ (r : Response). One old Settle r new) is step)
  settled_on old Settle response new after n (inl good) step is le steps = λ c left.
      let so : So old new = subst (λ (r : Response). One old Settle r new) is step in
      let fine = groups.good_settle is_known seen may_leave is_usable moment left_since has_failed known only_now old new good so in
      let run = all_run new new after (groups.starts is_known seen may_leave is_usable moment left_since has_failed known only_now new [] fine (groups.all_kept is_known seen may_leave is_usable moment left_since has_failed known only_now old new so)) steps in
      let (count, least, within, loads) = run.keeps.each c left in
      (count, omega (arith, le, least, ap length so.kept, ap length so.entries), within, loads)

  -- a settling that comes behind
  later : (old : StoreView V) (between after : List (Finished (StoreView V))) (settled : Finished (StoreView V)) (n : ℕ) → State old → n ≤ length old.entries → settled.reply ≡ responses.Settled → Steps old (between ++ settled ∷ after)
      → (c : List ℕ) → left_since (left_by old (between ++ settled ∷ after)).log.device (moment settled.left.log.device) c → LoadsFirst n (left_by old (between ++ settled ∷ after)).entries c
  later old [] after settled n state le is steps = settled_on old settled.call settled.reply settled.left after n state steps.0 is le steps.1
  later old (x ∷ between) after settled n state le is steps =
      let grown = next_grows old x.call x.reply x.left steps.0 in
      later x.left between after settled n (next_state old x.call x.reply x.left state steps.0) (omega (arith, le, grown)) is steps.1

  -- the entries that a call has made are there
  done_here : (old : StoreView V) (request : Request) (response : Response) (new : StoreView V) (n : ℕ) (reply : Reply) → One old request response new → response ≡ responses.Answer (Given reply) → IsDone n reply → n ≤ length new.entries
  done_here old (Make m) response new n reply step is done =
      let last = groups.done is_known seen may_leave is_usable moment left_since has_failed known only_now old m.by m.call n reply new done (subst (λ (r : Response). One old (Make m) r new) is step) in
      omega (arith, last.0)
  done_here old (MakeAll messages) response new n reply step is done = absurd (subst (λ (r : Response). One old (MakeAll messages) r new) is step)
  done_here old Settle response new n reply step is done = absurd (subst (λ (r : Response). One old Settle r new) is step)

  done_in : (old : StoreView V) (before between after : List (Finished (StoreView V))) (call settled : Finished (StoreView V)) (n : ℕ) (reply : Reply) → State old → Steps old (before ++ call ∷ (between ++ settled ∷ after))
      → call.reply ≡ responses.Answer (Given reply) → IsDone n reply → settled.reply ≡ responses.Settled
      → (c : List ℕ) → left_since (left_by old (before ++ call ∷ (between ++ settled ∷ after))).log.device (moment settled.left.log.device) c → LoadsFirst n (left_by old (before ++ call ∷ (between ++ settled ∷ after))).entries c
  done_in old [] between after call settled n reply state steps is done kept =
      later call.left between after settled n (next_state old call.call call.reply call.left state steps.0) (done_here old call.call call.reply call.left n reply steps.0 is done) kept steps.1
  done_in old (x ∷ before) between after call settled n reply state steps is done kept =
      done_in x.left before between after call settled n reply (next_state old x.call x.reply x.left state steps.0) steps.1 is done kept

  pub keeps_done : (old : StoreView V) (history : List (Finished (StoreView V))) → old.log.state ≡ Open → IsKept seen may_leave is_usable (stored old) → Steps old history → KeepsDone moment left_since history (left_by old history)
  keeps_done old history works kept steps before between after call settled n reply is answered done so =
      subst (λ (h : List (Finished (StoreView V))). (c : List ℕ) → left_since (left_by old h).log.device (moment settled.left.log.device) c → LoadsFirst n (left_by old h).entries c) (sym is)
      (done_in old before between after call settled n reply (inl (record { works = works; kept_so = kept })) (subst (Steps old) is steps) answered done so)
