-- What a request adds to the calls that a pass of a hall's desk has made.
use Rattle.std.proofs.Common.{◌≡◌, ◌==◌, cond, inl, inr, ℕ, Bool, true, false, true≢false, List, [], ◌∷◌, ◌++◌, None, Some, refl, sym, ap, subst, ◌∙◌, append-nil, append_assoc}
use Rattle.std.proofs.lemmas.Bool.{eq-eqb}
use Rattle.std.proofs.lemmas.List.Elements.{filter-append}
use Rattle.pana_journal.specs.declared.entry.Entry.{Entry}
use Rattle.pana_calls.specs.declared.call.Call.{Call}
use Rattle.pana_calls.specs.declared.reply.Reply.{Reply}
use Rattle.pana_hall.specs.Run.{Exchange}
use Rattle.pana_hall.specs.Step.{Replies}
use Rattle.pana_scan.specs.declared.baseline.BaselineRow.{BaselineRow}
use Rattle.pana_turn.specs.History.{IsHistory, calls_of}
use Rattle.pana_turn.specs.Passes.{own_calls}
use Rattle.pana_calls.specs.declared.answer.Answer.{Answer}
use Rattle.pana_calls.specs.declared.answer.Answer.TheVariants.{Given, NotKept}
use Rattle.pana_daemon.specs.Desk.{AnsweredSteps, Finished, is_passing}
use Rattle.pana_daemon.specs.Scan.{BreaksLook}
use Rattle.pana_daemon.specs.Session.{AsksNone, AsksOne, BreaksOff, GetNone, GetsNone, MakesCall, MayRecover, SessionView, Settles}
use Rattle.pana_daemon.specs.declared.folder.Look.{Look}
use Rattle.pana_daemon.specs.declared.request.Request.{Request}
use Rattle.pana_daemon.specs.declared.request.Request.TheVariants.{Make, MakeAll, Settle}
use Rattle.pana_daemon.specs.declared.request.Response.{Response}
use Rattle.pana_daemon.specs.declared.request.Response.TheVariants as responses
use Rattle.pana_daemon.proofs.Sessions.{last_step, request_steps}

abbrev pub Pass : Type 0
Pass = SessionView (List Entry)

abbrev pub Steps : List Entry → Request → Response → List Entry → Type 0
Steps = AnsweredSteps Replies

-- the exchange of a request that made a call, and of another none
abbrev pub exchange_in : Request → Response → List Exchange
exchange_in (Make m) (responses.Answer (Given reply)) = record { by = m.by; call = m.call; reply = reply } ∷ []
exchange_in (Make m) (responses.Answer NotKept) = []
exchange_in (Make m) responses.Settled = []
exchange_in (Make m) (responses.Nothing recovers) = []
exchange_in (Make m) (responses.Answers answers stopped) = []
exchange_in (MakeAll messages) response = []
exchange_in Settle response = []

-- whether a request is a list of calls
abbrev pub is_list : Request → Bool
is_list (Make m) = false
is_list (MakeAll messages) = true
is_list Settle = false

abbrev pub exchanges_in : List (Finished (List Entry)) → List Exchange
exchanges_in [] = []
exchanges_in (finished ∷ history) = exchange_in finished.call finished.reply ++ exchanges_in history

exchanges_both : (xs ys : List (Finished (List Entry))) → exchanges_in (xs ++ ys) ≡ exchanges_in xs ++ exchanges_in ys
exchanges_both [] ys = refl
exchanges_both (x ∷ xs) ys = ap (λ (w : List Exchange). exchange_in x.call x.reply ++ w) (exchanges_both xs ys) ∙ sym (append_assoc (exchange_in x.call x.reply) (exchanges_in xs) (exchanges_in ys))

-- the calls that the pass made
abbrev pub made_by : Pass → List Exchange
made_by pass = exchanges_in (own_calls pass.pass)

-- none of these requests is a list of calls
abbrev pub HasNoList : List (Finished (List Entry)) → Type 0
HasNoList [] = Unit {0}
HasNoList (finished ∷ history) = (is_list finished.call ≡ false) × HasNoList history

no_list_both : (xs ys : List (Finished (List Entry))) → HasNoList xs → HasNoList ys → HasNoList (xs ++ ys)
no_list_both [] ys none rest = rest
no_list_both (x ∷ xs) ys none rest = (none.0, no_list_both xs ys none.1 rest)

-- the pass made these calls, and no others, and none of them in a list
abbrev pub Goes : Pass → List Exchange → Pass → Type 0
Goes old run new = (new.pass.number ≡ old.pass.number) × (made_by new ≡ made_by old ++ run) × (HasNoList (own_calls old.pass) → HasNoList (own_calls new.pass))

pub stays : (pass : Pass) → Goes pass [] pass
stays pass = (refl, sym (append-nil (made_by pass)), λ none. none)

pub goes_on : (old mid new : Pass) (first others : List Exchange) → Goes old first mid → Goes mid others new → Goes old (first ++ others) new
goes_on old mid new first others p q =
    (q.0 ∙ p.0, q.1 ∙ ap (λ w. w ++ others) p.1 ∙ append_assoc (made_by old) first others, λ none. q.2 (p.2 none))

-- nothing was called behind
pub goes_no_more : (old mid new : Pass) (run : List Exchange) → Goes old run mid → Goes mid [] new → Goes old run new
goes_no_more old mid new run p q = subst (λ r. Goes old r new) (append-nil run) (goes_on old mid new run [] p q)

-- the call of a request is the one that comes to those of the pass
requested : (old : Pass) (request : Request) (response : Response) (new : Pass) → is_list request ≡ false → AsksOne Steps old request response new → Goes old (exchange_in request response) new
requested old request response new single asks =
    let p = asks.0.made in
    let a = p.adds in
    let mine = old.pass in
    let f : Finished (List Entry) = record { pass = mine.number; call = request; reply = response; left = a.left } in
    let before = mine.seen ++ a.between in
    let alone : calls_of mine.number before ≡ own_calls mine =
    filter-append (λ finished. finished.pass == mine.number) mine.seen a.between ∙ ap (λ w. own_calls mine ++ w) a.others ∙ append-nil (own_calls mine) in
    let own : own_calls new.pass ≡ own_calls mine ++ f ∷ [] =
    ap (λ n. calls_of n new.pass.seen) p.same.1 ∙ ap (calls_of mine.number) a.seen ∙ filter-append (λ finished. finished.pass == mine.number) before (f ∷ [])
    ∙ ap (λ b. calls_of mine.number before ++ cond b (f ∷ []) []) (eq-eqb mine.number mine.number refl) ∙ ap (λ w. w ++ f ∷ []) alone in
    (p.same.1, ap exchanges_in own ∙ exchanges_both (own_calls mine) (f ∷ []) ∙ ap (λ w. made_by old ++ w) (append-nil (exchange_in request response)), λ none. subst HasNoList (sym own) (no_list_both (own_calls mine) (f ∷ []) none (single, tt)))

none_requested : (old new : Pass) → AsksNone Steps old new → Goes old [] new
none_requested old new asks = (asks.none.same.1, ap exchanges_in asks.none.own ∙ sym (append-nil (made_by old)), λ none. subst HasNoList (sym asks.none.own) none)

-- a call that is answered has a reply
pub made_one : (old : Pass) (by : List ℕ) (call : Call) (answer : Answer) (new : Pass) → MakesCall Steps false old by call answer new
    → (reply : Reply) × (answer ≡ Given reply) × Goes old (record { by = by; call = call; reply = reply } ∷ []) new
made_one old by call (Given reply) new (inl p) = (reply, refl, requested old _ _ new refl p)
made_one old by call NotKept new (inl p) = absurd (request_steps Steps old.pass new.pass _ _ p.0.made).2
made_one old by call answer new (inr (so, list)) = absurd (true≢false (sym so))

-- one that isn't answered wasn't made
pub made_none : (old : Pass) (by : List ℕ) (call : Call) (new : Pass) → GetsNone Steps false old by call new → Goes old [] new
made_none old by call new (inl (inl (recovers, p))) = requested old _ _ new refl p
made_none old by call new (inl (inr p)) = none_requested old new p
made_none old by call new (inr (so, list)) = absurd (true≢false (sym so))

-- to settle is no call
pub settled_none : (old new : Pass) → Settles Steps old new → Goes old [] new
settled_none old new p = requested old _ _ new refl p

pub broken_none : (old new : Pass) → BreaksOff Steps old new → Goes old [] new
broken_none old new (inl (recovers, p)) = requested old _ _ new refl p
broken_none old new (inr p) = none_requested old new p

-- of each request something has come
not_passing : (old : List Entry) (request : Request) (response : Response) (new : List Entry) → Steps old request response new → is_passing response ≡ false
not_passing old request (responses.Answer answer) new step = refl
not_passing old request responses.Settled new step = refl
not_passing old (Make m) (responses.Nothing recovers) new step = absurd step
not_passing old Settle (responses.Nothing recovers) new step = absurd step
not_passing old (MakeAll messages) (responses.Nothing recovers) new step = absurd step
not_passing old request (responses.Answers answers None) new step = refl
not_passing old (Make m) (responses.Answers answers (Some recovers)) new step = absurd step
not_passing old Settle (responses.Answers answers (Some recovers)) new step = absurd step
not_passing old (MakeAll messages) (responses.Answers answers (Some recovers)) new step = absurd step.failed

never_recovers : (pass : Pass) → IsHistory Steps pass.pass.desk.begun pass.pass.seen → MayRecover pass → ⊥
never_recovers pass run may =
    let (old, step) = last_step Steps pass.pass.desk.begun may.before may.last (subst (λ (seen : List (Finished (List Entry))). IsHistory Steps pass.pass.desk.begun seen) may.seen run) in
    true≢false (sym may.passing ∙ not_passing old may.last.call may.last.reply may.last.left step)

-- so a look that is cut short there is the last one
pub none_cut : (device : List ℕ) (look : Look) (old new : Pass) (marks_old marks_new : List BaselineRow) → BreaksLook (MakesCall Steps false) device false (GetNone Steps false) (BreaksOff Steps) look old new marks_old marks_new → MayRecover new → ⊥
none_cut device look old new marks_old marks_new (inl stops) may = never_recovers new (run_of stops.ends) may where
  run_of : GetsNone Steps false stops.mid device stops.call new → IsHistory Steps new.pass.desk.begun new.pass.seen
  run_of (inl (inl (recovers, p))) = p.0.made.run
  run_of (inl (inr p)) = p.none.run
  run_of (inr (so, list)) = absurd (true≢false (sym so))
none_cut device look old new marks_old marks_new (inr (made, end, looks, broken)) may = never_recovers new (run_of broken) may where
  run_of : BreaksOff Steps made new → IsHistory Steps new.pass.desk.begun new.pass.seen
  run_of (inl (recovers, p)) = p.0.made.run
  run_of (inr p) = p.none.run
