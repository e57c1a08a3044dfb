-- Texts that are the same one by one are joined to the same text.
use Rattle.std.specs.Prelude.{◌≡◌, ℕ, List, [], ◌∷◌, ◌++◌, map}
use Rattle.std.specs.List.{flat_map, join_by}
use Rattle.std.proofs.Common.{refl, sym, ap, ◌∙◌}

each_behind : {X : Type 0} (f : X → List ℕ) (between : List ℕ) (xs : List X) → flat_map (λ x. between ++ f x) xs ≡ flat_map (λ text. between ++ text) (map f xs)
each_behind f between [] = refl
each_behind f between (x ∷ xs) = ap (λ rest. (between ++ f x) ++ rest) (each_behind f between xs)

pub join_texts : {X : Type 0} (f : X → List ℕ) (between : List ℕ) (xs : List X) → join_by f between xs ≡ join_by (λ text. text) between (map f xs)
join_texts f between [] = refl
join_texts f between (x ∷ xs) = ap (λ rest. f x ++ rest) (each_behind f between xs)

pub same_join : {X Y : Type 0} (f : X → List ℕ) (g : Y → List ℕ) (between : List ℕ) (xs : List X) (ys : List Y) → map f xs ≡ map g ys → join_by f between xs ≡ join_by g between ys
same_join f g between xs ys same = join_texts f between xs ∙ ap (join_by (λ text. text) between) same ∙ sym (join_texts g between ys)
