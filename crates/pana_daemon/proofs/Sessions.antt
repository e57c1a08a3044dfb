-- What a session leaves of its pass.
use Rattle.std.proofs.Common.{◌≡◌, ℕ, List, [], ◌∷◌, ◌++◌, ◌⊎◌, inl, inr, Bool, true, Option, Result, Ok, Err, refl, sym, ap, subst, ◌∙◌, append_assoc, append-nil, ◌^◌, IfOk, IfErr, false}
use Rattle.pana_calls.specs.Session.{alone}
use Rattle.pana_calls.specs.declared.call.Call.{Call}
use Rattle.pana_calls.specs.declared.answer.Answer.{Answer}
use Rattle.pana_wire.specs.declared.fault.WireFault.{WireFault}
use Rattle.pana_calls.specs.declared.message.Message.{Message}
use Rattle.pana_wire.specs.declared.tap.Tap.{Tap}
use Rattle.pana_wire.specs.declared.serving.Served.{Served}
use Rattle.pana_wire.specs.declared.serving.ServeFault.{ServeFault}
use Rattle.pana_wire.specs.declared.serving.ServeFault.TheVariants.{Read, Write, OutOfMemory, NoAnswer as Unanswered, Turns}
use Rattle.pana_wire.specs.Session.{AnswersSaid, AnswersLine, AnswersLines, LosesNext, FailsNext, Made, MayCallNext, MayMake, NeverBegins, lines_come}
use Rattle.pana_wire.specs.Groups.{AnswersGroups, BreaksAmong, BreaksGroup, EndsGroupsBy, ServesGroups, StopsGroups}
use Rattle.pana_wire.specs.Tap.{Note}
use Rattle.pana_turn.specs.History.{IsHistory}
use Rattle.pana_turn.specs.Passes.{AddsCall, IsSamePass}
use Rattle.pana_daemon.specs.Desk.{Finished, PassView, RequestSteps, is_nothing, is_passing}
use Rattle.pana_daemon.specs.declared.request.Request.{Request}
use Rattle.pana_daemon.specs.declared.request.Response.{Response}
use Rattle.pana_daemon.specs.Served.{EndsWith, IsServed}
use Rattle.pana_daemon.specs.Session.{Asks, AsksInVain, BreaksOff, EndsInVain, GetNone, GetsNone, GrowsTo, Leaves, MakesCall, MayRecover, Requests, RequestsNone, SessionView, Settles, at_rest, requests_seen}

module _ {S : Type 0} where
  pub grows_same : (old new : PassView S) → new ≡ old → GrowsTo old new
  grows_same old new is = subst (GrowsTo old) (sym is) (record { same = (refl, refl); seen = ([], append-nil old.seen) })

  pub grows_on : (old mid new : PassView S) → GrowsTo old mid → GrowsTo mid new → GrowsTo old new
  grows_on old mid new a b = record {
    same = (b.same.0 ∙ a.same.0, b.same.1 ∙ a.same.1);
    seen = (a.seen.0 ++ b.seen.0, sym (append_assoc old.seen a.seen.0 b.seen.0) ∙ ap (λ (l : List (Finished S)). l ++ b.seen.0) a.seen.1 ∙ b.seen.1);
  }

  -- sessions
  pub same_grows : (old new : SessionView S) → new ≡ old → GrowsTo old.pass new.pass
  same_grows old new is = grows_same old.pass new.pass (ap (λ (s : SessionView S). s.pass) is)

  pub then_grows : (old mid new : SessionView S) → GrowsTo old.pass mid.pass → GrowsTo mid.pass new.pass → GrowsTo old.pass new.pass
  then_grows old mid new a b = grows_on old.pass mid.pass new.pass a b

  added_grows : (old new : PassView S) (request : Request) (response : Response) → IsSamePass old new → AddsCall old new request response → GrowsTo old new
  added_grows old new request response same adds = record { same = same; seen = (adds.between ++ _ ∷ [], sym (append_assoc old.seen adds.between _) ∙ sym adds.seen) }

  -- nothing has come of the request, for now
  pub passing_so : (old new : PassView S) (request : Request) (response : Response) → IsSamePass old new → AddsCall old new request response → is_passing response ≡ true → MayRecover (at_rest new)
  passing_so old new request response same adds passing = record { before = old.seen ++ adds.between; last = _; seen = adds.seen; own = sym same.1; passing = passing }

  -- nothing has come of the request, or not all
  pub vain_so : (old new : PassView S) (request : Request) (response : Response) → IsSamePass old new → AddsCall old new request response → is_nothing response ≡ true → EndsInVain new
  vain_so old new request response same adds vain = record { before = old.seen ++ adds.between; last = _; seen = adds.seen; own = sym same.1; vain = vain }

  -- the last request of a history does what it did
  pub last_step : (steps : S → Request → Response → S → Type 0) (begun : S) (before : List (Finished S)) (last : Finished S) → IsHistory steps begun (before ++ last ∷ []) → (old : S) × steps old last.call last.reply last.left
  last_step steps begun [] last run = (begun, run.0)
  last_step steps begun (finished ∷ before) last run = last_step steps finished.left before last run.1

module _ {S : Type 0} (steps : S → Request → Response → S → Type 0) where
  -- what has come of a request is what may come of it
  pub request_steps : (old new : PassView S) (request : Request) (response : Response) → Requests steps old request response new → (before left : S) × steps before request response left
  request_steps old new request response m =
      let (before, step) = last_step steps new.desk.begun (old.seen ++ m.adds.between) _ (subst (λ (seen : List (Finished S)). IsHistory steps new.desk.begun seen) m.adds.seen m.run) in
      (before, m.adds.left, step)

  pub request_grows : (old new : PassView S) (request : Request) (response : Response) → Requests steps old request response new → GrowsTo old new
  request_grows old new request response m = added_grows old new _ _ m.same m.adds

  none_made : (old new : PassView S) → RequestsNone steps old new → GrowsTo old new
  none_made old new m = record { same = m.same; seen = m.seen }

  asks_grow : (old new : SessionView S) (request : Request) (response : Response) → Asks steps old request response new → GrowsTo old.pass new.pass
  asks_grow old new request response a = request_grows old.pass new.pass request response a.made

  module _ (together : Bool) where
    pub call_grows : (old new : SessionView S) (by : List ℕ) (call : Call) (answer : Answer) → MakesCall steps together old by call answer new → GrowsTo old.pass new.pass
    call_grows old new by call answer (inl asks) = asks_grow old new _ _ asks.0
    call_grows old new by call answer (inr (so, inl tells)) = grows_same old.pass new.pass tells.pass
    call_grows old new by call answer (inr (so, inr (mid, lists, tells))) = then_grows old mid new (asks_grow old mid _ _ lists.asks) (grows_same mid.pass new.pass tells.pass)

  leaves_grow : (old new : SessionView S) (messages : List Message) → Leaves old messages new → GrowsTo old.pass new.pass
  leaves_grow old new messages leaves = grows_same old.pass new.pass (ap (λ (s : SessionView S). s.pass) leaves.rests)

  vain_grows : (old new : SessionView S) (by : List ℕ) (call : Call) → AsksInVain steps old by call new → GrowsTo old.pass new.pass
  vain_grows old new by call (inl m) = asks_grow old new _ _ m.1.0
  vain_grows old new by call (inr m) = none_made old.pass new.pass m.none

  alone_grows : (old new : SessionView S) (messages : List Message) → alone (AsksInVain steps) old messages new → GrowsTo old.pass new.pass
  alone_grows old new [] none = absurd none
  alone_grows old new (m ∷ []) none = vain_grows old new m.by m.call none
  alone_grows old new (m ∷ n ∷ messages) none = absurd none

  pub all_grow : (together : Bool) (old new : SessionView S) (messages : List Message) → GetNone steps together old messages new → GrowsTo old.pass new.pass
  all_grow together old new messages (inl none) = alone_grows old new messages none
  all_grow together old new messages (inr (so, inl leaves)) = leaves_grow old new messages leaves
  all_grow together old new messages (inr (so, inr (inl (mid, lists, leaves)))) = then_grows old mid new (asks_grow old mid _ _ lists.asks) (leaves_grow mid new messages leaves)
  all_grow together old new messages (inr (so, inr (inr none))) = none_made old.pass new.pass none.none

  pub none_grows : (together : Bool) (old new : SessionView S) (by : List ℕ) (call : Call) → GetsNone steps together old by call new → GrowsTo old.pass new.pass
  none_grows together old new by call none = all_grow together old new _ none

  pub settled_grows : (old new : SessionView S) → Settles steps old new → GrowsTo old.pass new.pass
  settled_grows old new m = asks_grow old new _ _ m.0

  pub broken_grows : (old new : SessionView S) → BreaksOff steps old new → GrowsTo old.pass new.pass
  broken_grows old new (inl m) = asks_grow old new _ _ m.1.0
  broken_grows old new (inr m) = none_made old.pass new.pass m.none

  module _ (together : Bool) where
    said_grows : (old new : SessionView S) (said : Result Message WireFault) (text : List ℕ) (n : ℕ) → AnswersSaid (MakesCall steps together) old said text new n → GrowsTo old.pass new.pass
    said_grows old new (Err fault) text n a = same_grows old new a.1
    said_grows old new (Ok m) text n (answer, made, is, one) = call_grows together old new m.by m.call answer made

    line_grows : (old new : SessionView S) (line text : List ℕ) (n : ℕ) → AnswersLine (MakesCall steps together) old line text new n → GrowsTo old.pass new.pass
    line_grows old new line text n (inl a) = said_grows old new _ text n a
    line_grows old new line text n (inr a) = same_grows old new a.1

    lines_grow : (old new : SessionView S) (lines : List (List ℕ)) (output : List ℕ) (n : ℕ) → AnswersLines (MakesCall steps together) old lines output new n → GrowsTo old.pass new.pass
    lines_grow old new [] output n a = same_grows old new a.1
    lines_grow old new (line ∷ lines) output n (mid, text, rest, first, others, one, more, is, sum) = then_grows old mid new (line_grows old mid line text first one) (lines_grow mid new lines rest others more)

    made_grow : (old : SessionView S) (lines : List (List ℕ)) (made : Made (MakesCall steps together) old lines) → GrowsTo old.pass made.last.pass
    made_grow old lines made = lines_grow old made.last made.first made.text made.steps made.answers

    fails_grows : (flag : Bool) (old new : SessionView S) (lines : List (List ℕ)) → FailsNext flag (GetNone steps together) old lines new → GrowsTo old.pass new.pass
    fails_grows true old new lines (messages, asks, none) = all_grow together old new messages none
    fails_grows false old new [] p = absurd p
    fails_grows false old new (line ∷ lines) (m, says, none) = all_grow together old new (m ∷ []) none

    may_make : (old new : SessionView S) (lines : List (List ℕ)) → MayMake (MakesCall steps together) (GetNone steps together) old lines new → GrowsTo old.pass new.pass
    may_make old new lines (made, inl same) = then_grows old made.last new (made_grow old lines made) (same_grows made.last new same)
    may_make old new lines (made, inr failed) = then_grows old made.last new (made_grow old lines made) (fails_grows true made.last new made.others failed)

    loses_grows : (flag : Bool) (old new : SessionView S) (lines : List (List ℕ)) → LosesNext (MakesCall steps together) flag (GetNone steps together) old lines new → GrowsTo old.pass new.pass
    loses_grows flag old new [] p = absurd p
    loses_grows true old new (line ∷ lines) (mid, text, n, one, may) = then_grows old mid new (line_grows old mid line text n one) (may_make mid new lines may)
    loses_grows false old new (line ∷ lines) (m, answer, says, made) = call_grows together old new m.by m.call answer made

    may_grow : (flag : Bool) (old new : SessionView S) (lines : List (List ℕ)) → MayCallNext (MakesCall steps together) flag (GetNone steps together) old lines new → GrowsTo old.pass new.pass
    may_grow true old new lines may = may_make old new lines may
    may_grow false old new lines (inl same) = same_grows old new same
    may_grow false old new lines (inr (inl lost)) = loses_grows false old new lines lost
    may_grow false old new lines (inr (inr failed)) = fails_grows false old new lines failed

    groups_grow : (old new : SessionView S) (groups : List (List (List ℕ))) (notes : List Note) (n : ℕ) → AnswersGroups (MakesCall steps together) (Settles steps) requests_seen old groups notes new n → GrowsTo old.pass new.pass
    groups_grow old new [] notes n a = same_grows old new a.1
    groups_grow old new (lines ∷ groups) notes n (made, settled, text, rest, first, others, one, kept, more, is, sum) =
        then_grows old settled new (then_grows old made settled (lines_grow old made lines text first one) (settled_grows made settled kept)) (groups_grow settled new groups rest others more)

    broken_group : (fault : ServeFault) (old new : SessionView S) (lines : List (List ℕ)) (notes : List Note)
        → BreaksGroup (MakesCall steps together) together (GetNone steps together) (Settles steps) (BreaksOff steps) requests_seen fault old lines notes new → GrowsTo old.pass new.pass
    broken_group Read old new lines notes b = absurd b
    broken_group Write old new lines notes (made, last, output, calls, kept, written, is) =
        then_grows old last new (then_grows old made.last last (made_grow old lines made) (may_grow together made.last last made.others calls)) (settled_grows last new kept)
    broken_group OutOfMemory old new lines notes (made, last, lost, kept, is) =
        then_grows old last new (then_grows old made.last last (made_grow old lines made) (loses_grows together made.last last made.others lost)) (settled_grows last new kept)
    broken_group Unanswered old new lines notes (made, last, inl (failed, kept, is)) =
        then_grows old last new (then_grows old made.last last (made_grow old lines made) (fails_grows together made.last last made.others failed)) (settled_grows last new kept)
    broken_group Unanswered old new lines notes (made, last, inr (calls, broken, is)) =
        then_grows old last new (then_grows old made.last last (made_grow old lines made) (may_grow together made.last last made.others calls)) (broken_grows last new broken)
    broken_group Turns old new lines notes b = absurd b

    among_grow : (fault : ServeFault) (old new : SessionView S) (lines : List (List ℕ)) (notes : List Note)
        → BreaksAmong (MakesCall steps together) together (GetNone steps together) (Settles steps) (BreaksOff steps) requests_seen fault old lines notes new → GrowsTo old.pass new.pass
    among_grow fault old new lines notes b = then_grows old b.last new (groups_grow old b.last b.groups b.whole b.steps b.answers) (broken_group fault b.last new b.others b.part b.breaks)

    ends_grow : (fault : ServeFault) (met : Bool) (old new : SessionView S) (input : List ℕ) (notes : List Note)
        → EndsGroupsBy (MakesCall steps together) together (GetNone steps together) (Settles steps) (BreaksOff steps) requests_seen fault met old input notes new → GrowsTo old.pass new.pass
    ends_grow Read met old new input notes (n, answers) = groups_grow old new answers.0 notes n answers.2
    ends_grow Write met old new input notes b = among_grow Write old new (lines_come met input) notes b
    ends_grow OutOfMemory met old new input notes b = among_grow OutOfMemory old new (lines_come met input) notes b
    ends_grow Unanswered met old new input notes b = among_grow Unanswered old new (lines_come met input) notes b
    ends_grow Turns met old new input notes (n, answers) = groups_grow old new answers.0 notes n answers.2

    module _ {R W : Type 0} (remaining : R → Option (List ℕ)) (contents : W → Option (List ℕ)) (r r' : Tap R) (w w' : Tap W) (old new : SessionView S) where
      -- a session leaves the same pass, which has seen what it had seen
      text_grows : (result : Result Served ServeFault) → EndsWith steps together remaining contents r r' w w' old new result → GrowsTo old.pass new.pass
      text_grows (Ok served) s = groups_grow old new s.answers.0 s.notes served.calls s.answers.2
      text_grows (Err fault) (inl n) = same_grows old new n.session
      text_grows (Err fault) (inr s) = ends_grow fault _ old new s.input s.notes s.ends

      text_of : (result : Result Served ServeFault)
          → IfOk result (ServesGroups remaining contents (MakesCall steps together) (Settles steps) requests_seen r r' w w' old new)
          → IfErr result (λ fault. NeverBegins r r' w w' old new fault ⊎ StopsGroups remaining contents (MakesCall steps together) together (GetNone steps together) (Settles steps) (BreaksOff steps) requests_seen (2 ^ 40) r r' w w' old new fault)
          → EndsWith steps together remaining contents r r' w w' old new result
      text_of (Ok served) ok err = ok
      text_of (Err fault) ok err = err

      -- so a session was served where serving it ended so
      pub is_served : (result : Result Served ServeFault)
          → IfOk result (ServesGroups remaining contents (MakesCall steps together) (Settles steps) requests_seen r r' w w' old new)
          → IfErr result (λ fault. NeverBegins r r' w w' old new fault ⊎ StopsGroups remaining contents (MakesCall steps together) together (GetNone steps together) (Settles steps) (BreaksOff steps) requests_seen (2 ^ 40) r r' w w' old new fault)
          → IsServed steps together remaining contents r r' w w' old new result
      is_served result ok err = let text = text_of result ok err in record { pass = text_grows result text; text = text }

-- what came of a request is one of what may come of it
module _ {S : Type 0} (step : S → List ℕ → Call → Answer → S → Type 0) (fails : S → List Message → S → Type 0) (settles breaks_off : S → S → Type 0) where
  abbrev Steps : S → Request → Response → S → Type 0
  Steps = RequestSteps step fails settles breaks_off

  pub came : {old new : PassView S} {request : Request} {response other : Response} → Requests Steps old request response new → response ≡ other → (before left : S) × Steps before request other left
  came {old = old} {new = new} {request = request} {other = other} requested is = request_steps Steps old new request other (subst (λ (r : Response). Requests Steps old request r new) is requested)
