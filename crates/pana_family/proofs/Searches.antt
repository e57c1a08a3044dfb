-- What a search over rows finds.
use Rattle.pana_family.proofs.Words.{◌≡◌, ◌↔◌, ℕ, Bool, true, ◌&&◌, List, [], ◌∷◌, refl, ap, ◌∙◌, inl, inr, arith, and_parts, nat_tests, StampRow, AreBefore, list_all, is_below}

below_all : (n : ℕ) (rows : List StampRow) → list_all (is_below n) rows ≡ true → AreBefore n rows
below_all n [] all r i = absurd i
below_all n (q ∷ rows) all r i =
    let p = and_parts (is_below n q) (list_all (is_below n) rows) all in
    elim i [
      | inl e ↦ grind (arith, nat_tests)
      | inr j ↦ below_all n rows p.1 r j
    ]

all_below : (n : ℕ) (rows : List StampRow) → AreBefore n rows → list_all (is_below n) rows ≡ true
all_below n [] all = refl
all_below n (q ∷ rows) all =
    let h = all q (inl refl) in
    let here : is_below n q ≡ true = grind (arith, nat_tests) in
    ap (λ (b : Bool). b && list_all (is_below n) rows) here ∙ all_below n rows (λ r i. all r (inr i))

pub all_before : (n : ℕ) (rows : List StampRow) → (list_all (is_below n) rows ≡ true) ↔ AreBefore n rows
all_before n rows = (below_all n rows, all_below n rows)
