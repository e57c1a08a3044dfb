-- Calls that are made one after another.
use Rattle.std.proofs.Common.{◌≡◌, ℕ, List, [], ◌∷◌, ◌++◌, length, refl, sym, ap, ◌∙◌, append_assoc, append-nil, Result, Ok, Err, OnErr, arith}
use Rattle.pana_calls.specs.declared.answer.Answer.{Answer}
use Rattle.pana_calls.specs.declared.call.Call.{Call}
use Rattle.pana_calls.specs.declared.message.Message.{Message}
use Rattle.pana_calls.specs.Session.{AddsAll, AddsSome, MakesAll}

pub on_err : {T E : Type 0} → (r : Result T E) (P : Type 0) → P → OnErr r P
on_err (Ok x) P p = tt
on_err (Err e) P p = p

pub nothing_left : (messages : List Message) → length messages ≡ 0 → messages ≡ []
nothing_left [] is = refl
nothing_left (message ∷ messages) is = absurd (cc)

module _ {S : Type 0} (step : S → List ℕ → Call → Answer → S → Type 0) (fails : S → List Message → S → Type 0) where
  -- What the calls that are left do from here, the calls did from the beginning.
  pub record Completes (old : S) (messages : List Message) (given_old : List Answer) (mid : S) (left : List Message) (given : List Answer) : Type 0 where
    pub all : (given_new : List Answer) (new : S) → AddsAll step mid left given given_new new → AddsAll step old messages given_old given_new new
    pub some : (given_new : List Answer) (new : S) → AddsSome step fails mid left given given_new new → AddsSome step fails old messages given_old given_new new

  pub begins : (old : S) (messages : List Message) (given : List Answer) → Completes old messages given old messages given
  begins old messages given = record { all = λ given_new new adds. adds; some = λ given_new new adds. adds }

  module _ (mid after : S) (message : Message) (answer : Answer) (given : List Answer) (made : step mid message.by message.call answer after) where
    pub one_more : (messages : List Message) (given_new : List Answer) (new : S) → AddsAll step after messages (given ++ answer ∷ []) given_new new → AddsAll step mid (message ∷ messages) given given_new new
    one_more messages given_new new adds = record { given = answer ∷ adds.given; adds = adds.adds ∙ append_assoc given (answer ∷ []) adds.given; makes = (after, made, adds.makes) }

    pub then_some : (messages : List Message) (given_new : List Answer) (new : S) → AddsSome step fails after messages (given ++ answer ∷ []) given_new new → AddsSome step fails mid (message ∷ messages) given given_new new
    then_some messages given_new new adds = record { made = message ∷ adds.made; tried = adds.tried; left = adds.left; split = ap (λ (ms : List Message). message ∷ ms) adds.split; some = adds.some; mid = adds.mid; adds = one_more adds.made given_new adds.mid adds.adds; failed = adds.failed }

    pub goes_on : (old : S) (all left : List Message) (given_old : List Answer) → Completes old all given_old mid (message ∷ left) given → Completes old all given_old after left (given ++ answer ∷ [])
    goes_on old all left given_old far = record {
      all = λ given_new new adds. far.all given_new new (one_more left given_new new adds);
      some = λ given_new new adds. far.some given_new new (then_some left given_new new adds);
    }

  pub none_left : (old : S) (given : List Answer) → AddsAll step old [] given given old
  none_left old given = record { given = []; adds = sym (append-nil given); makes = refl }

  pub stops : (mid new : S) (message : Message) (left : List Message) (given : List Answer) → fails mid (message ∷ []) new → AddsSome step fails mid (message ∷ left) given given new
  stops mid new message left given failed = record { made = []; tried = message ∷ []; left = left; split = refl; some = omega arith; mid = mid; adds = none_left mid given; failed = failed }
