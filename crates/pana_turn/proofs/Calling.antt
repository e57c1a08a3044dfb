-- What was seen between two looks, where the pass made no call.
use Rattle.std.specs.Prelude.{◌≡◌, ℕ, ◌==◌, List, [], ◌∷◌, ◌++◌, length}
use Rattle.std.proofs.Common.{refl, sym, ap, ◌∙◌, append_assoc, length-append, arith, subst}
use Rattle.std.proofs.lemmas.List.Elements.{filter-append}
use mathlib.Core.List.{IsPrefix}
use Rattle.pana_turn.specs.declared.finished_call.FinishedCall.{FinishedCall}
use Rattle.pana_turn.specs.History.{calls_of}
use Rattle.pana_turn.specs.Passes.{AddsCall, PassView}

-- nothing was added to a list that is the same
nothing_more : {A : Type 0} (xs ys : List A) → xs ++ ys ≡ xs → ys ≡ []
nothing_more xs [] same = refl
nothing_more xs (y ∷ ys) same = let long = ap length same in absurd (omega (arith, length-append xs (y ∷ ys)))

module _ {S C R : Type 0} where
  pub record Between (number : ℕ) (old new : List (FinishedCall S C R)) : Type 0 where
    pub calls : List (FinishedCall S C R)
    pub others : calls_of number calls ≡ []
    pub joined : old ++ calls ≡ new

  -- two looks, one after the other, with none of the pass's own calls between
  pub between : (number : ℕ) (old first last : List (FinishedCall S C R)) → IsPrefix old first → IsPrefix first last → calls_of number first ≡ calls_of number old → calls_of number last ≡ calls_of number first
      → Between number old last
  between number old first last p q same again =
      let joined : old ++ (p.0 ++ q.0) ≡ last = sym (append_assoc old p.0 q.0) ∙ ap (λ h. h ++ q.0) p.1 ∙ q.1 in
      record {
        calls = p.0 ++ q.0;
        others = nothing_more (calls_of number old) (calls_of number (p.0 ++ q.0))
            (sym (filter-append (λ finished. finished.pass == number) old (p.0 ++ q.0)) ∙ ap (calls_of number) joined ∙ again ∙ same);
        joined = joined;
      }

  -- the pass made the call
  pub adds_call : (old new : PassView S C R) (call : C) (reply : R) (left : S) (number : ℕ) (made : C) (before : List (FinishedCall S C R)) → number ≡ old.number → Between old.number old.seen before
      → made ≡ call → new.seen ≡ before ++ record { pass = number; call = made; reply = reply; left = left } ∷ [] → AddsCall old new call reply
  adds_call old new call reply left number made before same between is seen =
      record {
        between = between.calls;
        others = between.others;
        left = left;
        seen = seen ∙ ap (λ n. before ++ record { pass = n; call = made; reply = reply; left = left } ∷ []) same ∙ ap (λ c. before ++ record { pass = old.number; call = c; reply = reply; left = left } ∷ []) is
            ∙ ap (λ h. h ++ record { pass = old.number; call = call; reply = reply; left = left } ∷ []) (sym between.joined);
      }

  -- the same, by what the pass saw at its test and once it had the turn
  pub makes_call : (old new : PassView S C R) (call : C) (reply : R) (left : S) (number : ℕ) (seen first last : List (FinishedCall S C R)) (made : C) → number ≡ old.number → seen ≡ old.seen
      → IsPrefix seen first → IsPrefix first last → calls_of number first ≡ calls_of number seen → calls_of number last ≡ calls_of number first
      → made ≡ call → new.seen ≡ last ++ record { pass = number; call = made; reply = reply; left = left } ∷ [] → AddsCall old new call reply
  makes_call old new call reply left number seen first last made same seen_is p q own again is grown =
      let rest = between number seen first last p q own again in
      adds_call old new call reply left number made last same (subst (λ n. Between n old.seen last) same (subst (λ (h : List (FinishedCall S C R)). Between number h last) seen_is rest)) is grown
