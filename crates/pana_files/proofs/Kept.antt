-- A file taken apart as it was put together.
use Rattle.std.proofs.Common.{◌≡◌, ℕ, Bool, true, false, not, List, [], ◌∷◌, ◌++◌, take, drop, refl, sym, ap, ◌∙◌}
use Rattle.std.proofs.lemmas.List.{append_assoc, take-append-drop}
use Rattle.sha2.specs.Sha256.{sha256}

-- what is cut off the front, and what is left, are the whole
pub cut : (n : ℕ) (whole front rest : List ℕ) → front ≡ take n whole → rest ≡ drop n whole → front ++ rest ≡ whole
cut n whole front rest first last = ap (λ (l : List ℕ). l ++ rest) first ∙ ap (λ (l : List ℕ). take n whole ++ l) last ∙ take-append-drop n whole

-- what `!=` answered of the digest
pub is_same : (b : Bool) → false ≡ not b → b ≡ true
is_same true h = refl
is_same false h = absurd (cc)

-- the parts of a file are the file
pub whole : (head bytes said digest behind asked rest folders more text : List ℕ) (status : ℕ)
    → said ++ digest ≡ bytes → sha256 said ≡ digest → said ≡ head ++ behind → asked ++ rest ≡ behind → folders ++ more ≡ rest → more ≡ status ∷ text
    → (head ++ (asked ++ (folders ++ status ∷ text))) ++ sha256 (head ++ (asked ++ (folders ++ status ∷ text))) ≡ bytes
whole head bytes said digest behind asked rest folders more text status cut sealed line first second third =
    let is : said ≡ head ++ (asked ++ (folders ++ status ∷ text)) =
    line ∙ ap (λ (l : List ℕ). head ++ l) (sym first) ∙ ap (λ (l : List ℕ). head ++ (asked ++ l)) (sym second) ∙ ap (λ (l : List ℕ). head ++ (asked ++ (folders ++ l))) third in
    ap (λ (l : List ℕ). l ++ sha256 l) (sym is) ∙ ap (λ (l : List ℕ). said ++ l) sealed ∙ cut

-- what is put together so is the whole
pub built : (head asked folders text first second third fourth last : List ℕ) (status : ℕ)
    → first ≡ head → second ≡ first ++ asked → third ≡ second ++ folders → fourth ≡ third ++ status ∷ [] → last ≡ fourth ++ text
    → last ≡ head ++ (asked ++ (folders ++ status ∷ text))
built head asked folders text first second third fourth last status a b c d e =
    e ∙ ap (λ (l : List ℕ). l ++ text) (d ∙ ap (λ (l : List ℕ). l ++ status ∷ []) (c ∙ ap (λ (l : List ℕ). l ++ folders) (b ∙ ap (λ (l : List ℕ). l ++ asked) a)))
    ∙ append_assoc ((head ++ asked) ++ folders) (status ∷ []) text ∙ append_assoc (head ++ asked) folders (status ∷ text) ∙ append_assoc head asked (folders ++ status ∷ text)
