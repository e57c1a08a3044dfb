-- The calls of a list that was made by one request, shown one after another.
use Rattle.std.proofs.Common.{◌≡◌, ◌<◌, ◌≤◌, suc, length-append, ℕ, Bool, true, List, [], ◌∷◌, ◌++◌, length, inl, inr, arith, refl, sym, ap, subst, ◌∙◌, append-nil, Option, Some, None, is_some, false}
use Rattle.std.specs.Global.{Vec}
use Rattle.pana_calls.specs.Session.{AddsAll, AddsSome, MakesAll}
use Rattle.pana_calls.specs.declared.call.Call.{Call}
use Rattle.pana_calls.specs.declared.answer.Answer.{Answer}
use Rattle.pana_calls.specs.declared.message.Message.{Message}
use Rattle.pana_daemon.specs.Desk.{PassView, RequestSteps, answers_in}
use Rattle.pana_daemon.specs.declared.request.Request.{Request}
use Rattle.pana_daemon.specs.declared.request.Request.TheVariants.{MakeAll}
use Rattle.pana_daemon.specs.declared.request.Response.{Response}
use Rattle.pana_daemon.specs.declared.request.Response.TheVariants.{Answers}
use Rattle.pana_daemon.specs.Session.{AsksNone, AsksOne, GetNone, Lists, MakesCall, Requests, RequestsNone, SessionView, at_rest}
use Rattle.pana_daemon.proofs.Sessions.{request_steps, vain_so}

module _ {S : Type 0} (step : S → List ℕ → Call → Answer → S → Type 0) (fails : S → List Message → S → Type 0) (settles breaks_off : S → S → Type 0) (together : Bool) (is_so : together ≡ true) where
  abbrev Steps : S → Request → Response → S → Type 0
  Steps = RequestSteps step fails settles breaks_off

  -- a session of which these calls come next, with these answers
  abbrev ahead : PassView S → List Message → List Answer → SessionView S
  ahead pass calls answers = record { pass = pass; calls = calls; answers = answers }

  lists_so : (old new : PassView S) (messages : List Message) (given : List Answer) (response : Response) → Requests Steps old (MakeAll messages) response new → given ≡ answers_in response → Lists Steps (at_rest old) (ahead new messages given)
  lists_so old new messages given response requested is = record { response = response; asks = record { rests = refl; made = requested }; answers = is }

  -- the first ones are shown
  told : (pass : PassView S) (rest : List Message) (old new : S) (made : List Message) (given : List Answer) → MakesAll step old made given new → MakesAll (MakesCall Steps together) (ahead pass (made ++ rest) given) made given (ahead pass rest [])
  told pass rest old new [] [] makes = refl
  told pass rest old new [] (a ∷ given) makes = absurd makes
  told pass rest old new (m ∷ made) [] makes = absurd makes
  told pass rest old new (m ∷ made) (a ∷ given) (mid, one, more) = (ahead pass (made ++ rest) given, inr (is_so, inl (record { pass = refl; calls = refl; answers = refl })), told pass rest mid new made given more)

  -- so they are where the first of them makes the request
  told_first : (old new : PassView S) (rest : List Message) (begun left : S) (m : Message) (made : List Message) (given : List Answer) → Lists Steps (at_rest old) (ahead new (m ∷ (made ++ rest)) given)
      → MakesAll step begun (m ∷ made) given left → MakesAll (MakesCall Steps together) (at_rest old) (m ∷ made) given (ahead new rest [])
  told_first old new rest begun left m made [] lists makes = absurd makes
  told_first old new rest begun left m made (a ∷ given) lists (mid, one, more) =
      (ahead new (made ++ rest) given, inr (is_so, inr (ahead new (m ∷ (made ++ rest)) (a ∷ given), lists, record { pass = refl; calls = refl; answers = refl })), told new rest mid left made given more)

  -- all calls of a list were answered
  listed : {old new : PassView S} {messages : List Message} {answers : Vec Answer} {before after : List Answer} → 0 < length messages → Requests Steps old (MakeAll messages) (Answers answers None) new → after ≡ before ++ answers.items
      → AddsAll (MakesCall Steps together) (at_rest old) messages before after (at_rest new)
  listed {messages = []} some requested is = absurd (omega (arith, some))
  listed {old = old} {new = new} {messages = m ∷ made} {answers = answers} {before = before} some requested is =
      let (begun, left, adds) = request_steps Steps old new (MakeAll (m ∷ made)) (Answers answers None) requested in
      let lists = lists_so old new (m ∷ made) adds.given (Answers answers None) requested (sym adds.adds) in
      record {
        given = adds.given;
        adds = is ∙ ap (λ (given : List Answer). before ++ given) adds.adds;
        makes = told_first old new [] begun left m made adds.given (subst (λ (ms : List Message). Lists Steps (at_rest old) (ahead new (m ∷ ms) adds.given)) (sym (append-nil made)) lists) adds.makes;
      }

  -- some were, and the next ones have no answers
  stopped_so : (old new : PassView S) (messages made rest : List Message) (answers : Vec Answer) (recovers : Bool) (before after given : List Answer) (begun left : S) → Requests Steps old (MakeAll messages) (Answers answers (Some recovers)) new
      → messages ≡ made ++ rest → 0 < length rest → answers.items ≡ given → MakesAll step begun made given left → after ≡ before ++ given
      → AddsSome (MakesCall Steps together) (GetNone Steps together) (at_rest old) messages before after (at_rest new)
  stopped_so old new messages [] rest answers recovers before after [] begun left requested split some are makes is = record {
    made = [];
    tried = messages;
    left = [];
    split = sym (append-nil messages);
    some = subst (λ (ms : List Message). 0 < length ms) (sym split) some;
    mid = at_rest old;
    adds = record { given = []; adds = is; makes = refl };
    failed = inr (is_so, inr (inl (ahead new messages [], lists_so old new messages [] (Answers answers (Some recovers)) requested (sym are), record { calls = refl; answers = refl; vain = vain_so old new _ (Answers answers (Some recovers)) requested.same requested.adds refl; rests = refl })));
  }
  stopped_so old new messages [] rest answers recovers before after (a ∷ given) begun left requested split some are makes is = absurd makes
  stopped_so old new messages (m ∷ made) rest answers recovers before after given begun left requested split some are makes is =
      let lists = lists_so old new messages given (Answers answers (Some recovers)) requested (sym are) in
      record {
        made = m ∷ made;
        tried = rest;
        left = [];
        split = split ∙ ap (λ (ms : List Message). (m ∷ made) ++ ms) (sym (append-nil rest));
        some = some;
        mid = ahead new rest [];
        adds = record { given = given; adds = is; makes = told_first old new rest begun left m made given (subst (λ (ms : List Message). Lists Steps (at_rest old) (ahead new ms given)) split lists) makes };
        failed = inr (is_so, inl (record { calls = refl; answers = refl; vain = vain_so old new _ (Answers answers (Some recovers)) requested.same requested.adds refl; rests = refl }));
      }

  stopped : {old new : PassView S} {messages : List Message} {answers : Vec Answer} {recovers : Bool} {before after : List Answer} → Requests Steps old (MakeAll messages) (Answers answers (Some recovers)) new → after ≡ before ++ answers.items
      → AddsSome (MakesCall Steps together) (GetNone Steps together) (at_rest old) messages before after (at_rest new)
  stopped {old = old} {new = new} {messages = messages} {answers = answers} {recovers = recovers} {before = before} {after = after} requested is =
      let (begun, left, some) = request_steps Steps old new (MakeAll messages) (Answers answers (Some recovers)) requested in
      stopped_so old new messages some.made (some.tried ++ some.left) answers recovers before after some.adds.given begun some.mid requested some.split (let tried = some.some in let parts = length-append some.tried some.left in omega (arith, tried, parts)) some.adds.adds some.adds.makes (is ∙ ap (λ (given : List Answer). before ++ given) some.adds.adds)

  -- no request was made
  unlisted : {old new : PassView S} {messages : List Message} {before after : List Answer} → 0 < length messages → RequestsNone Steps old new → after ≡ before → AddsSome (MakesCall Steps together) (GetNone Steps together) (at_rest old) messages before after (at_rest new)
  unlisted {old = old} {messages = messages} {before = before} some none is = record {
    made = [];
    tried = messages;
    left = [];
    split = sym (append-nil messages);
    some = some;
    mid = at_rest old;
    adds = record { given = []; adds = is ∙ sym (append-nil before); makes = refl };
    failed = inr (is_so, inr (inr (record { rests = refl; none = none; still = refl })));
  }

  abbrev pub AllTold : SessionView S → List Message → List Answer → List Answer → SessionView S → Type 0
  AllTold old messages before after new = AddsAll (MakesCall Steps together) old messages before after new

  abbrev pub SomeTold : SessionView S → List Message → List Answer → List Answer → SessionView S → Type 0
  SomeTold old messages before after new = AddsSome (MakesCall Steps together) (GetNone Steps together) old messages before after new

  -- what the session does with a list
  pub all_told : {old new : SessionView S} {messages : List Message} {answers : Vec Answer} {response : Response} {before after : List Answer} (ended : Option Bool) → 0 < length messages → AsksOne Steps old (MakeAll messages) response new
      → response ≡ Answers answers ended → is_some ended ≡ false → after ≡ before ++ answers.items → AllTold old messages before after new
  all_told (Some recovers) some asks came none is = absurd (cc)
  all_told {old = old} {new = new} {messages = messages} {answers = answers} {before = before} {after = after} None some asks came none is =
      let made = subst (λ (r : Response). Requests Steps old.pass (MakeAll messages) r new.pass) came asks.0.made in
      subst (λ (o : SessionView S). AllTold o messages before after new) (sym asks.0.rests) (subst (λ (n : SessionView S). AllTold (at_rest old.pass) messages before after n) (sym asks.1) (listed some made is))

  pub some_told : {old new : SessionView S} {messages : List Message} {answers : Vec Answer} {response : Response} {before after : List Answer} (ended : Option Bool) → AsksOne Steps old (MakeAll messages) response new
      → response ≡ Answers answers ended → is_some ended ≡ true → after ≡ before ++ answers.items → SomeTold old messages before after new
  some_told None asks came none is = absurd (cc)
  some_told {old = old} {new = new} {messages = messages} {answers = answers} {before = before} {after = after} (Some recovers) asks came none is =
      let made = subst (λ (r : Response). Requests Steps old.pass (MakeAll messages) r new.pass) came asks.0.made in
      subst (λ (o : SessionView S). SomeTold o messages before after new) (sym asks.0.rests) (subst (λ (n : SessionView S). SomeTold (at_rest old.pass) messages before after n) (sym asks.1) (stopped made is))

  pub none_told : {old new : SessionView S} {messages : List Message} {before after : List Answer} → 0 < length messages → AsksNone Steps old new → after ≡ before → SomeTold old messages before after new
  none_told {old = old} {new = new} {messages = messages} {before = before} {after = after} some asks is =
      subst (λ (o : SessionView S). SomeTold o messages before after new) (sym asks.rests) (subst (λ (n : SessionView S). SomeTold (at_rest old.pass) messages before after n) (sym asks.still) (unlisted some asks.none is))

  -- as many answers as calls at the most
  made_many : (old new : S) (messages : List Message) (given : List Answer) → MakesAll step old messages given new → length given ≡ length messages
  made_many old new [] [] makes = refl
  made_many old new [] (a ∷ given) makes = absurd makes
  made_many old new (m ∷ messages) [] makes = absurd makes
  made_many old new (m ∷ messages) (a ∷ given) (mid, one, more) = ap suc (made_many mid new messages given more)

  few_step : (begun left : S) (messages : List Message) (answers : Vec Answer) (ended : Option Bool) → Steps begun (MakeAll messages) (Answers answers ended) left → length answers.items ≤ length messages
  few_step begun left messages answers None adds = omega (arith, ap length adds.adds, made_many begun left messages adds.given adds.makes)
  few_step begun left messages answers (Some recovers) some =
      omega (arith, ap length some.adds.adds, made_many begun some.mid some.made some.adds.given some.adds.makes, ap length some.split, length-append some.made (some.tried ++ some.left))

  pub few : {old new : SessionView S} {messages : List Message} {answers : Vec Answer} {response : Response} {ended : Option Bool} → AsksOne Steps old (MakeAll messages) response new → response ≡ Answers answers ended → length answers.items ≤ length messages
  few {old = old} {new = new} {messages = messages} {answers = answers} {ended = ended} asks came =
      let (begun, left, step) = request_steps Steps old.pass new.pass (MakeAll messages) (Answers answers ended) (subst (λ (r : Response). Requests Steps old.pass (MakeAll messages) r new.pass) came asks.0.made) in
      few_step begun left messages answers ended step
