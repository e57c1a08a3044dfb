-- A session at a desk, and what it does.
use Rattle.std.specs.Prelude.{◌≡◌, ◌⊎◌, ◌^◌, ◌≤◌, ℕ, Bool, true, List, [], ◌∷◌, ◌++◌, length}
use Rattle.std.specs.List.{list_any}
use mathlib.Core.List.{IsPrefix}
use Rattle.pana_calls.specs.Session.{alone, one}
use Rattle.pana_calls.specs.declared.call.Call.{Call}
use Rattle.pana_calls.specs.declared.answer.Answer.{Answer}
use Rattle.pana_calls.specs.declared.message.Message.{Message}
use Rattle.pana_turn.specs.History.{IsHistory}
use Rattle.pana_turn.specs.Passes.{AddsCall, IsSamePass, own_calls}
use Rattle.pana_daemon.specs.Desk.{Finished, PassView, answers_in, is_nothing, is_passing}
use Rattle.pana_daemon.specs.declared.request.Request.{Request}
use Rattle.pana_daemon.specs.declared.request.Request.TheVariants.{Make, MakeAll, Settle}
use Rattle.pana_daemon.specs.declared.request.Response.{Response}
use Rattle.pana_daemon.specs.declared.request.Response.TheVariants as responses

-- A session at a desk: its pass; and of the list of calls that it made last those that come next, with the answers to the first of
-- them. A list is made by one request, and its calls are shown one after another.
pub record SessionView (S : Type 0) : Type 0 where
  pub pass : PassView S
  pub calls : List Message
  pub answers : List Answer

-- a session none of whose calls comes next: each was shown
abbrev pub at_rest : {S : Type 0} → PassView S → SessionView S
at_rest pass = record { pass = pass; calls = []; answers = [] }

-- the next call of a list is this one, and this is its answer
pub record Tells {S : Type 0} (old : SessionView S) (by : List ℕ) (call : Call) (answer : Answer) (new : SessionView S) : Type 0 where
  pub pass : new.pass ≡ old.pass
  pub calls : old.calls ≡ record { by = by; call = call } ∷ new.calls
  pub answers : old.answers ≡ answer ∷ new.answers

-- The last request that the pass has seen is its own, and nothing has come of it, or not all.
pub record EndsInVain {S : Type 0} (pass : PassView S) : Type 0 where
  pub before : List (Finished S)
  pub last : Finished S
  pub seen : pass.seen ≡ before ++ last ∷ []
  pub own : last.pass ≡ pass.number
  pub vain : is_nothing last.reply ≡ true

-- the next calls of a list are these, they are all, and none has an answer
pub record Leaves {S : Type 0} (old : SessionView S) (messages : List Message) (new : SessionView S) : Type 0 where
  pub calls : old.calls ≡ messages
  pub answers : old.answers ≡ []
  pub vain : EndsInVain old.pass
  pub rests : new ≡ at_rest old.pass

module _ {S : Type 0} (steps : S → Request → Response → S → Type 0) where
  -- the pass made one request, and this has come of it: what it has seen is a history that ends with the request, and
  -- between what it had seen and this request there are only those of other passes
  pub record Requests (old : PassView S) (request : Request) (response : Response) (new : PassView S) : Type 0 where
    pub same : IsSamePass old new
    pub run : IsHistory steps new.desk.begun new.seen
    pub adds : AddsCall old new request response

  -- the pass made no request, since 2^62 or more are finished: it may have seen more, of other passes
  pub record RequestsNone (old new : PassView S) : Type 0 where
    pub same : IsSamePass old new
    pub run : IsHistory steps new.desk.begun new.seen
    pub seen : IsPrefix old.seen new.seen
    pub own : own_calls new ≡ own_calls old
    pub spent : 2 ^ 62 ≤ length new.seen

  -- the session was at rest, and made none
  pub record AsksNone (old new : SessionView S) : Type 0 where
    pub rests : old ≡ at_rest old.pass
    pub none : RequestsNone old.pass new.pass
    pub still : new ≡ at_rest new.pass

  -- the session was at rest, and made one request by its pass, of which this has come
  pub record Asks (old : SessionView S) (request : Request) (response : Response) (new : SessionView S) : Type 0 where
    pub rests : old ≡ at_rest old.pass
    pub made : Requests old.pass request response new.pass

  -- so it did, and is at rest again
  abbrev pub AsksOne : SessionView S → Request → Response → SessionView S → Type 0
  AsksOne old request response new = Asks old request response new × (new ≡ at_rest new.pass)

  -- the session made a list of calls by one request: they come next now, with the answers that came of it
  pub record Lists (old new : SessionView S) : Type 0 where
    pub response : Response
    pub asks : Asks old (MakeAll new.calls) response new
    pub answers : new.answers ≡ answers_in response

  -- The session made one call by a request, and this is its answer. Or, where calls are made together, the call is the next one of a
  -- list, which was made before or is made now.
  abbrev pub MakesCall : Bool → SessionView S → List ℕ → Call → Answer → SessionView S → Type 0
  MakesCall together old by call answer new = AsksOne old (Make (record { by = by; call = call })) (responses.Answer answer) new
      ⊎ ((together ≡ true) × (Tells old by call answer new ⊎ ((mid : SessionView S) × Lists old mid × Tells mid by call answer new)))

  -- one call has no answer: the session made it by a request, and the one that all share gave none; or no request was made
  abbrev pub AsksInVain : SessionView S → List ℕ → Call → SessionView S → Type 0
  AsksInVain old by call new = ((recovers : Bool) × AsksOne old (Make (record { by = by; call = call })) (responses.Nothing recovers) new) ⊎ AsksNone old new

  -- The calls have no answers: it is such a one. Or, where calls are made together, they are those of a list behind the ones that were
  -- answered, or no request was made for them.
  abbrev pub GetNone : Bool → SessionView S → List Message → SessionView S → Type 0
  GetNone together old messages new = alone AsksInVain old messages new
      ⊎ ((together ≡ true) × (Leaves old messages new ⊎ (((mid : SessionView S) × Lists old mid × Leaves mid messages new) ⊎ AsksNone old new)))

  -- so has one call
  abbrev pub GetsNone : Bool → SessionView S → List ℕ → Call → SessionView S → Type 0
  GetsNone together = one (GetNone together)

  -- the session had the one that all share settle
  abbrev pub Settles : SessionView S → SessionView S → Type 0
  Settles old new = AsksOne old Settle responses.Settled new

  -- that one couldn't settle, or the session didn't ask for it
  abbrev pub BreaksOff : SessionView S → SessionView S → Type 0
  BreaksOff old new = ((recovers : Bool) × AsksOne old Settle (responses.Nothing recovers) new) ⊎ AsksNone old new

-- how many requests the session has seen finished: the moment of a session at a desk
abbrev pub requests_seen : {S : Type 0} → SessionView S → ℕ
requests_seen session = length session.pass.seen

-- whether nothing has come of a request that the pass made, or not all
abbrev pub lacks_answer : {S : Type 0} → PassView S → Bool
lacks_answer pass = list_any (λ finished. is_nothing finished.reply) (own_calls pass)

-- The last request that the session's pass has seen is its own, and nothing has come of it, or not all; but the session that all share
-- said then that later ones may have answers.
pub record MayRecover {S : Type 0} (session : SessionView S) : Type 0 where
  pub before : List (Finished S)
  pub last : Finished S
  pub seen : session.pass.seen ≡ before ++ last ∷ []
  pub own : last.pass ≡ session.pass.number
  pub passing : is_passing last.reply ≡ true

-- the pass before and after a session: the same, and it has seen what it had seen, and maybe more
pub record GrowsTo {S : Type 0} (old new : PassView S) : Type 0 where
  pub same : IsSamePass old new
  pub seen : IsPrefix old.seen new.seen
