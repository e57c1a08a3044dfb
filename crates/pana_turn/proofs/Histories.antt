-- Histories that grow by a call, and their beginnings.
use Rattle.std.specs.Prelude.{◌≡◌, ℕ, ◌==◌, List, [], ◌∷◌, ◌++◌, cond, All}
use Rattle.std.proofs.Common.{◌≢◌, ◌<◌, refl, sym, ap, ◌∙◌, append-nil, append_assoc, eq-eqb, ne_eqb, zero, suc, arith}
use Rattle.std.proofs.lemmas.List.Elements.{filter-append, All-append}
use mathlib.Core.List.{IsPrefix}
use Rattle.pana_turn.specs.declared.finished_call.FinishedCall.{FinishedCall}
use Rattle.pana_turn.specs.History.{IsHistory, calls_of, left_by}

pub prefix_self : {A : Type 0} (xs : List A) → IsPrefix xs xs
prefix_self xs = ([], append-nil xs)

pub prefix_nil : {A : Type 0} (xs : List A) → IsPrefix [] xs
prefix_nil xs = (xs, refl)

pub prefix_grows : {A : Type 0} (xs ys zs : List A) → IsPrefix xs ys → IsPrefix xs (ys ++ zs)
prefix_grows xs ys zs p = (p.0 ++ zs, sym (append_assoc xs p.0 zs) ∙ ap (λ w. w ++ zs) p.1)

module _ {S C R : Type 0} where
  -- the state after one call more
  pub left_by-push : (begun : S) (history : List (FinishedCall S C R)) (c : FinishedCall S C R) → left_by begun (history ++ c ∷ []) ≡ c.left
  left_by-push begun [] c = refl
  left_by-push begun (x ∷ history) c = left_by-push x.left history c

  -- a call more that the machine may make makes a history
  pub IsHistory-push : (step : S → C → R → S → Type 0) (begun : S) (history : List (FinishedCall S C R)) (c : FinishedCall S C R) → IsHistory step begun history
      → step (left_by begun history) c.call c.reply c.left → IsHistory step begun (history ++ c ∷ [])
  IsHistory-push step begun [] c run steps = (steps, tt)
  IsHistory-push step begun (x ∷ history) c run steps = (run.0, IsHistory-push step x.left history c run.1 steps)

  own_alone : (number : ℕ) (c : FinishedCall S C R) → c.pass ≡ number → calls_of number (c ∷ []) ≡ c ∷ []
  own_alone number c is = ap (λ b. cond b (c ∷ []) []) (eq-eqb c.pass number is)

  other_alone : (number : ℕ) (c : FinishedCall S C R) → c.pass ≢ number → calls_of number (c ∷ []) ≡ []
  other_alone number c not = ap (λ b. cond b (c ∷ []) []) (ne_eqb c.pass number not)

  -- a call of the pass is one more of its calls
  pub calls_of-own : (number : ℕ) (history : List (FinishedCall S C R)) (c : FinishedCall S C R) → c.pass ≡ number → calls_of number (history ++ c ∷ []) ≡ calls_of number history ++ c ∷ []
  calls_of-own number history c is = filter-append (λ finished. finished.pass == number) history (c ∷ []) ∙ ap (λ w. calls_of number history ++ w) (own_alone number c is)

  -- a call of another pass is none
  pub calls_of-other : (number : ℕ) (history : List (FinishedCall S C R)) (c : FinishedCall S C R) → c.pass ≢ number → calls_of number (history ++ c ∷ []) ≡ calls_of number history
  calls_of-other number history c not =
      filter-append (λ finished. finished.pass == number) history (c ∷ []) ∙ ap (λ w. calls_of number history ++ w) (other_alone number c not) ∙ append-nil (calls_of number history)

  only : (seats : ℕ) (c : FinishedCall S C R) → c.pass < seats → All (λ finished. finished.pass < seats) (c ∷ [])
  only seats c within zero d h = within
  only seats c within (suc k) d h = absurd (omega arith)

  -- each call of the longer history is of the desk
  pub All-push : (seats : ℕ) (history : List (FinishedCall S C R)) (c : FinishedCall S C R) → All (λ finished. finished.pass < seats) history → c.pass < seats
      → All (λ finished. finished.pass < seats) (history ++ c ∷ [])
  All-push seats history c all within = All-append (λ finished. finished.pass < seats) history (c ∷ []) all (only seats c within)
