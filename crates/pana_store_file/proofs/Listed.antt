-- Calls of a list, as contracts see the store of a log of which nothing is known.
use Rattle.std.proofs.Common.{Bool, List, [], ◌∷◌, inl, inr, sym, ap, ◌∙◌, append-nil}
use Rattle.pana_calls.specs.Session.{AddsAll, AddsSome, MakesAll}
use Rattle.pana_calls.specs.declared.answer.Answer.{Answer}
use Rattle.pana_calls.specs.declared.message.Message.{Message}
use Rattle.pana_shared_store.specs.Store.{Fails, GoesOn, HasCause, Makes, StoreView}
use Rattle.pana_store_file.specs.LogStore.{Answers, LogView}

abbrev pub seen_of : StoreView → LogView
seen_of store = record { entries = store.entries; broken = store.broken }

module _ (is_known : Bool) where
  makes_so : (old : StoreView) (messages : List Message) (given : List Answer) (new : StoreView) → MakesAll (Makes is_known) old messages given new → MakesAll Answers (seen_of old) messages given (seen_of new)
  makes_so old [] [] new same = ap seen_of same
  makes_so old [] (answer ∷ given) new p = absurd p
  makes_so old (m ∷ messages) [] new p = absurd p
  makes_so old (m ∷ messages) (answer ∷ given) new (mid, p, more) =
      (seen_of mid, record { at = p.on.on.at; goes_on = p.on.on.goes_on; becomes = p.on.on.becomes; whole = p.whole; same = p.same }, makes_so mid messages given new more)

  pub adds_so : (old : StoreView) (messages : List Message) (before after : List Answer) (new : StoreView) → AddsAll (Makes is_known) old messages before after new → AddsAll Answers (seen_of old) messages before after (seen_of new)
  adds_so old messages before after new p = record { given = p.given; adds = p.adds; makes = makes_so old messages p.given new p.makes }

  goes_so : (old : StoreView) (messages : List Message) (new : StoreView) → Fails is_known old messages new → GoesOn old.entries new.entries
  goes_so old messages new (inl (broken, same)) = ([], ap (λ (store : StoreView). store.entries) same ∙ sym (append-nil old.entries))
  goes_so old messages new (inr none) = elim none.on [ inl stays ↦ stays.goes_on | inr tries ↦ tries.on.goes_on ]

  pub some_so : (old : StoreView) (messages : List Message) (before after : List Answer) (new : StoreView)
      → AddsSome (Makes is_known) (λ (old : StoreView) (calls : List Message) (new : StoreView). Fails is_known old calls new × HasCause is_known old new) old messages before after new
      → AddsSome Answers (λ (old : LogView) (calls : List Message) (new : LogView). GoesOn old.entries new.entries) (seen_of old) messages before after (seen_of new)
  some_so old messages before after new p = record {
    made = p.made;
    tried = p.tried;
    left = p.left;
    split = p.split;
    some = p.some;
    mid = seen_of p.mid;
    adds = adds_so old p.made before after p.mid p.adds;
    failed = goes_so p.mid p.tried new p.failed.0;
  }
