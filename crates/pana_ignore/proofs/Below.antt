-- What is ignored in a folder.
use Rattle.std.specs.Prelude.{ℕ, ◌==◌, Bool, true, false, ◌||◌, List, [], ◌∷◌, ◌++◌}
use Rattle.std.specs.List.{list_any}
use Rattle.std.proofs.Common.{◌≡◌, refl, sym, ◌∙◌, ap, append_assoc, cond}
use Rattle.std.proofs.lemmas.Bool.{cond-false, or_parts}
use Rattle.std.proofs.lemmas.List.{append-nil}
use Rattle.std.proofs.lemmas.List.Folds.{list_any-append}
use Rattle.pana_ignore.specs.declared.pattern.Pattern.{Pattern}
use Rattle.pana_ignore.specs.Pattern.{folders_from, folders_above, ignores_here, is_ignored}

-- a name has no folders above it
folders_from-name : (above name : List ℕ) → list_any (λ b. b == 47) name ≡ false → folders_from above name ≡ []
folders_from-name above [] h = refl
folders_from-name above (b ∷ rest) h =
    let both = or_parts (b == 47) (list_any (λ b. b == 47) rest) h in
    cond-false (b == 47) (above ∷ folders_from (above ++ b ∷ []) rest) (folders_from (above ++ b ∷ []) rest) both.0
    ∙ folders_from-name (above ++ b ∷ []) rest both.1

-- those above what is in a folder are the folder and those above it
folders_from-in : (above folder name : List ℕ) → list_any (λ b. b == 47) name ≡ false
    → folders_from above (folder ++ (47 ∷ name)) ≡ folders_from above folder ++ ((above ++ folder) ∷ [])
folders_from-in above [] name h = ap (λ f. f ∷ folders_from (above ++ 47 ∷ []) name) (sym (append-nil above)) ∙ ap (λ fs. (above ++ []) ∷ fs) (folders_from-name (above ++ 47 ∷ []) name h)
folders_from-in above (b ∷ folder) name h =
    let whole : (above ++ b ∷ []) ++ folder ≡ above ++ (b ∷ folder) = append_assoc above (b ∷ []) folder in
    let later = folders_from-in (above ++ b ∷ []) folder name h ∙ ap (λ f. folders_from (above ++ b ∷ []) folder ++ (f ∷ [])) whole in
    elim (b == 47) as (λ v. cond v (above ∷ folders_from (above ++ b ∷ []) (folder ++ (47 ∷ name))) (folders_from (above ++ b ∷ []) (folder ++ (47 ∷ name)))
    ≡ cond v (above ∷ folders_from (above ++ b ∷ []) folder) (folders_from (above ++ b ∷ []) folder) ++ ((above ++ (b ∷ folder)) ∷ [])) [
      | true ↦ ap (λ fs. above ∷ fs) later
      | false ↦ later
    ]

or-assoc : (a b c : Bool) → ((a || (b || false)) || c) ≡ ((a || b) || c)
or-assoc true b c = refl
or-assoc false true c = refl
or-assoc false false c = refl

pub is_ignored-in : (patterns : List Pattern) (folder name : List ℕ) (is_folder : Bool) → list_any (λ b. b == 47) name ≡ false
    → is_ignored patterns (folder ++ (47 ∷ name)) is_folder ≡ (is_ignored patterns folder true || ignores_here patterns (folder ++ (47 ∷ name)) is_folder)
is_ignored-in patterns folder name is_folder h =
    let test : List ℕ → Bool = λ f. ignores_here patterns f true in
    ap (λ fs. list_any test fs || ignores_here patterns (folder ++ (47 ∷ name)) is_folder) (folders_from-in [] folder name h)
    ∙ ap (λ v. v || ignores_here patterns (folder ++ (47 ∷ name)) is_folder) (list_any-append test (folders_above folder) (folder ∷ []))
    ∙ or-assoc (list_any test (folders_above folder)) (test folder) (ignores_here patterns (folder ++ (47 ∷ name)) is_folder)
