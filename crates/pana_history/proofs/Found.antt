-- A search through a list, item by item.
use Rattle.std.proofs.Common.{◌≡◌, ℕ, ◌+◌, ◌<◌, Bool, true, false, cond, List, [], ◌∷◌, ◌++◌, length, find, get_or, take, drop, Some, None, refl, sym, ap, ◌∙◌, append_assoc}
use Rattle.std.proofs.lemmas.List.{take-append-drop, take_more}

-- behind items of which none passes
passed_over : {X : Type 0} (p : X → Bool) (xs ys : List X) → find p xs ≡ None → find p (xs ++ ys) ≡ find p ys
passed_over p [] ys none = refl
passed_over p (x ∷ xs) ys none =
    elim (p x) as (λ b. cond b (Some x) (find p xs) ≡ None → cond b (Some x) (find p (xs ++ ys)) ≡ find p ys) [
      | true ↦ λ is. absurd (cc)
      | false ↦ λ is. passed_over p xs ys is
    ] none

pub next_item : {X : Type 0} (xs : List X) (i : ℕ) (x : X) → i < length xs → x ≡ get_or xs i x → take (i + 1) xs ≡ take i xs ++ x ∷ []
next_item xs i x within is = take_more xs i x within ∙ ap (λ y. take i xs ++ y ∷ []) (sym is)

pub taken_apart : {X : Type 0} (xs : List X) (i : ℕ) (x : X) → i < length xs → x ≡ get_or xs i x → xs ≡ take i xs ++ x ∷ drop (i + 1) xs
taken_apart xs i x within is = sym (take-append-drop (i + 1) xs) ∙ ap (λ l. l ++ drop (i + 1) xs) (next_item xs i x within is) ∙ append_assoc (take i xs) (x ∷ []) (drop (i + 1) xs)

-- the next one doesn't pass either
pub not_there : {X : Type 0} (p : X → Bool) (xs : List X) (i : ℕ) (x : X) → i < length xs → x ≡ get_or xs i x → find p (take i xs) ≡ None → p x ≡ false → find p (take (i + 1) xs) ≡ None
not_there p xs i x within is none fails = ap (find p) (next_item xs i x within is) ∙ passed_over p (take i xs) (x ∷ []) none ∙ ap (λ b. cond b (Some x) None) fails

-- it does
pub is_there : {X : Type 0} (p : X → Bool) (xs : List X) (i : ℕ) (x : X) → i < length xs → x ≡ get_or xs i x → find p (take i xs) ≡ None → p x ≡ true → find p xs ≡ Some x
is_there p xs i x within is none passes =
    ap (find p) (taken_apart xs i x within is) ∙ passed_over p (take i xs) (x ∷ drop (i + 1) xs) none ∙ ap (λ b. cond b (Some x) (find p (drop (i + 1) xs))) passes
