-- What calls do to one session they do to the same one as one of two kinds.
use Rattle.std.proofs.Common.{ℕ, List, [], ◌∷◌, ap}
use Rattle.pana_calls.specs.Session.{AddsAll, AddsSome, MakesAll}
use Rattle.pana_calls.specs.declared.answer.Answer.{Answer}
use Rattle.pana_calls.specs.declared.call.Call.{Call}
use Rattle.pana_calls.specs.declared.message.Message.{Message}

module _ {S T : Type 0} (into : S → T) (step : S → List ℕ → Call → Answer → S → Type 0) (other : T → List ℕ → Call → Answer → T → Type 0)
    (so : (a : S) (by : List ℕ) (call : Call) (answer : Answer) (b : S) → step a by call answer b → other (into a) by call answer (into b)) where
  makes_so : (old : S) (messages : List Message) (given : List Answer) (new : S) → MakesAll step old messages given new → MakesAll other (into old) messages given (into new)
  makes_so old [] [] new same = ap into same
  makes_so old [] (answer ∷ given) new p = absurd p
  makes_so old (m ∷ messages) [] new p = absurd p
  makes_so old (m ∷ messages) (answer ∷ given) new (mid, p, more) = (into mid, so old m.by m.call answer mid p, makes_so mid messages given new more)

  pub adds_so : (old : S) (messages : List Message) (before after : List Answer) (new : S) → AddsAll step old messages before after new → AddsAll other (into old) messages before after (into new)
  adds_so old messages before after new p = record { given = p.given; adds = p.adds; makes = makes_so old messages p.given new p.makes }

  pub some_so : (fails : S → List Message → S → Type 0) (others : T → List Message → T → Type 0) → ((a : S) (tried : List Message) (b : S) → fails a tried b → others (into a) tried (into b))
      → (old : S) (messages : List Message) (before after : List Answer) (new : S) → AddsSome step fails old messages before after new → AddsSome other others (into old) messages before after (into new)
  some_so fails others failed old messages before after new p = record {
    made = p.made;
    tried = p.tried;
    left = p.left;
    split = p.split;
    some = p.some;
    mid = into p.mid;
    adds = adds_so old p.made before after p.mid p.adds;
    failed = failed p.mid p.tried new p.failed;
  }
