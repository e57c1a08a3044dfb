-- Texts put together of their pieces.
use Rattle.std.proofs.Common.{◌≡◌, ℕ, List, [], ◌∷◌, ◌++◌, ap, ◌∙◌, append_assoc}
use Rattle.pana_text.specs.Text.{in_two, in_three}

-- what the pieces are regrouped by
pub ruleset appends = (append_assoc)

pub two_parts : (a b rest : List ℕ) → in_two a b ++ rest ≡ 40 ∷ (a ++ (44 ∷ (b ++ (41 ∷ rest))))
two_parts a b rest =
    ap (λ (t : List ℕ). 40 ∷ t) (append_assoc a (44 ∷ (b ++ (41 ∷ []))) rest ∙ ap (λ (t : List ℕ). a ++ (44 ∷ t)) (append_assoc b (41 ∷ []) rest))

pub three_parts : (a b c rest : List ℕ) → in_three a b c ++ rest ≡ 40 ∷ (a ++ (44 ∷ (b ++ (44 ∷ (c ++ (41 ∷ rest))))))
three_parts a b c rest =
    ap (λ (t : List ℕ). 40 ∷ t)
    (append_assoc a (44 ∷ (b ++ (44 ∷ (c ++ (41 ∷ []))))) rest
    ∙ ap (λ (t : List ℕ). a ++ (44 ∷ t)) (append_assoc b (44 ∷ (c ++ (41 ∷ []))) rest ∙ ap (λ (t : List ℕ). b ++ (44 ∷ t)) (append_assoc c (41 ∷ []) rest)))
