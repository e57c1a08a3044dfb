-- What a file begins with, through writes behind it and in it.
use Rattle.std.proofs.Common.{◌≡◌, ℕ, ◌+◌, ◌≤◌, List, [], ◌∷◌, ◌++◌, length, get_or, take, drop, refl, sym, ◌∙◌, ap, arith, append_assoc, length-append, take-append-drop}
use Rattle.std.proofs.lemmas.List.{take_at, drop_at, drop_more, take-take}
use Rattle.pana_log.specs.Device.{Holds, Torn}
use Rattle.pana_log.specs.Lines.{Begins}

pub begins_split : (prefix c : List ℕ) → Begins prefix c → c ≡ prefix ++ drop (length prefix) c
begins_split prefix c begins = sym (take-append-drop (length prefix) c) ∙ ap (λ (l : List ℕ). l ++ drop (length prefix) c) begins

pub begins_from : (prefix c rest : List ℕ) → c ≡ prefix ++ rest → Begins prefix c
begins_from prefix c rest is = ap (λ (l : List ℕ). take (length prefix) l) is ∙ take_at prefix rest (length prefix) refl

pub begins_less : (prefix more c : List ℕ) → Begins (prefix ++ more) c → Begins prefix c
begins_less prefix more c begins = begins_from prefix c (more ++ drop (length (prefix ++ more)) c) (begins_split (prefix ++ more) c begins ∙ append_assoc prefix more _)

pub begins_torn : (prefix old new : List ℕ) (at n : ℕ) → length prefix ≤ at → Begins prefix old → Torn at n old new → Begins prefix new
begins_torn prefix old new at n far begins torn =
    sym (take-take (length prefix) at new far) ∙ ap (λ (l : List ℕ). take (length prefix) l) torn.before ∙ take-take (length prefix) at old far ∙ begins

-- one byte in the midst of what stands there may be any
pub begins_gate : (prefix rest old new : List ℕ) (b at : ℕ) → at ≡ length prefix → Begins (prefix ++ b ∷ rest) old → Torn at 1 old new → Begins (prefix ++ get_or new at 0 ∷ rest) new
begins_gate prefix rest old new b at is begins torn =
    let all = prefix ++ b ∷ rest in
    let z = drop (length all) old in
    let old_is : old ≡ prefix ++ (b ∷ (rest ++ z)) = begins_split all old begins ∙ append_assoc prefix (b ∷ rest) z in
    let long : length old ≡ length prefix + (1 + length (rest ++ z)) = omega (arith, ap length old_is, length-append prefix (b ∷ (rest ++ z))) in
    let head : take at new ≡ prefix = torn.before ∙ ap (λ (l : List ℕ). take at l) old_is ∙ take_at prefix (b ∷ (rest ++ z)) at (sym is) in
    let regrouped : old ≡ (prefix ++ b ∷ []) ++ (rest ++ z) = old_is ∙ sym (append_assoc prefix (b ∷ []) (rest ++ z)) in
    let tail : drop (at + 1) new ≡ rest ++ z = torn.after ∙ ap (λ (l : List ℕ). drop (at + 1) l) regrouped ∙ drop_at (prefix ++ b ∷ []) (rest ++ z) (at + 1) (omega (arith, is, length-append prefix (b ∷ []))) in
    let here : drop at new ≡ get_or new at 0 ∷ (rest ++ z) = drop_more new at 0 (omega (arith, is, long, torn.no_shorter)) ∙ ap (λ (l : List ℕ). get_or new at 0 ∷ l) tail in
    let new_is : new ≡ prefix ++ (get_or new at 0 ∷ (rest ++ z)) = sym (take-append-drop at new) ∙ ap (λ (l : List ℕ). l ++ drop at new) head ∙ ap (λ (l : List ℕ). prefix ++ l) here in
    begins_from (prefix ++ get_or new at 0 ∷ rest) new z (new_is ∙ sym (append_assoc prefix (get_or new at 0 ∷ rest) z))

-- bytes written right behind what stands there
pub begins_holds : (prefix bytes old new : List ℕ) (at : ℕ) → at ≡ length prefix → Begins prefix old → Holds old at bytes new → Begins (prefix ++ bytes) new
begins_holds prefix bytes old new at is begins holds =
    let head : take at old ≡ prefix = ap (λ (n : ℕ). take n old) is ∙ begins in
    begins_from (prefix ++ bytes) new (drop (at + length bytes) old) (holds ∙ ap (λ (l : List ℕ). l ++ bytes ++ drop (at + length bytes) old) head ∙ refl)

-- one byte written in the midst of what stands there
pub begins_set : (prefix rest old new : List ℕ) (b x at : ℕ) → at ≡ length prefix → Begins (prefix ++ b ∷ rest) old → Holds old at (x ∷ []) new → Begins (prefix ++ x ∷ rest) new
begins_set prefix rest old new b x at is begins holds =
    let all = prefix ++ b ∷ rest in
    let z = drop (length all) old in
    let old_is : old ≡ prefix ++ (b ∷ (rest ++ z)) = begins_split all old begins ∙ append_assoc prefix (b ∷ rest) z in
    let head : take at old ≡ prefix = ap (λ (l : List ℕ). take at l) old_is ∙ take_at prefix (b ∷ (rest ++ z)) at (sym is) in
    let regrouped : old ≡ (prefix ++ b ∷ []) ++ (rest ++ z) = old_is ∙ sym (append_assoc prefix (b ∷ []) (rest ++ z)) in
    let tail : drop (at + 1) old ≡ rest ++ z = ap (λ (l : List ℕ). drop (at + 1) l) regrouped ∙ drop_at (prefix ++ b ∷ []) (rest ++ z) (at + 1) (omega (arith, is, length-append prefix (b ∷ []))) in
    begins_from (prefix ++ x ∷ rest) new z (holds ∙ ap (λ (l : List ℕ). l ++ x ∷ [] ++ drop (at + 1) old) head ∙ ap (λ (l : List ℕ). prefix ++ x ∷ [] ++ l) tail ∙ append_assoc prefix (x ∷ []) (rest ++ z) ∙ sym (append_assoc prefix (x ∷ rest) z))
