-- What is computed of things and of what they are taken to is the same where numbers and relations are.
use Rattle.std.proofs.Common.{◌≡◌, ℕ, Bool, true, false, cond, List, [], ◌∷◌, length, refl, ap, ap₂, sym, ◌∙◌}
use Rattle.std.specs.Prelude.{◌==◌, ◌&&◌, ◌||◌, not, map, filter, count_by}
use Rattle.std.specs.List.{list_any, AllByRecursion}
use Rattle.std.proofs.lemmas.List.{length-map}
use Rattle.std.proofs.lemmas.List.Sums.{length-filter}
use Rattle.pana_event.specs.declared.rel.Rel.{Rel}
use Rattle.pana_event.specs.declared.rel.Rel.TheVariants.{Equal, Older, Newer, Conflict}
use Rattle.pana_rel.specs.Board.{counts_of, has_conflict, is_rel, is_split, newest_of, relates}

-- the things for which P holds are taken to ones with the same numbers and relations
pub record AreAlike {X Y : Type 0} (P : X → Type 0) (number : X → ℕ) (rel : X → X → Rel) (number' : Y → ℕ) (rel' : Y → Y → Rel) (to : X → Y) : Type 0 where
  pub numbers : (x : X) → P x → number' (to x) ≡ number x
  pub rels : (x y : X) → P x → P y → rel' (to x) (to y) ≡ rel x y

module _ {X Y : Type 0} (P : X → Type 0) (to : X → Y) where
  pub any_to : (p : X → Bool) (q : Y → Bool) → ((x : X) → P x → q (to x) ≡ p x) → (xs : List X) → AllByRecursion P xs → list_any q (map to xs) ≡ list_any p xs
  any_to p q same [] all = refl
  any_to p q same (x ∷ xs) all = ap₂ (λ a b. a || b) (same x all.0) (any_to p q same xs all.1)

  pub filter_to : (p : X → Bool) (q : Y → Bool) → ((x : X) → P x → q (to x) ≡ p x) → (xs : List X) → AllByRecursion P xs → filter q (map to xs) ≡ map to (filter p xs)
  filter_to p q same [] all = refl
  filter_to p q same (x ∷ xs) all =
      ap₂ (λ b l. cond b (to x ∷ l) l) (same x all.0) (filter_to p q same xs all.1)
      ∙ elim (p x) as (λ b. cond b (to x ∷ map to (filter p xs)) (map to (filter p xs)) ≡ map to (cond b (x ∷ filter p xs) (filter p xs))) [ true ↦ refl | false ↦ refl ]

  pub count_to : (p : X → Bool) (q : Y → Bool) → ((x : X) → P x → q (to x) ≡ p x) → (xs : List X) → AllByRecursion P xs → count_by q (map to xs) ≡ count_by p xs
  count_to p q same xs all = sym (length-filter q (map to xs)) ∙ ap length (filter_to p q same xs all) ∙ length-map (filter p xs) to ∙ length-filter p xs

all_filter : {X : Type 0} (P : X → Type 0) (p : X → Bool) (xs : List X) → AllByRecursion P xs → AllByRecursion P (filter p xs)
all_filter P p [] all = tt
all_filter P p (x ∷ xs) all = elim (p x) as (λ b. AllByRecursion P (cond b (x ∷ filter p xs) (filter p xs))) [ true ↦ (all.0, all_filter P p xs all.1) | false ↦ all_filter P p xs all.1 ]

module _ {X Y : Type 0} {P : X → Type 0} {number : X → ℕ} {rel : X → X → Rel} {number' : Y → ℕ} {rel' : Y → Y → Rel} {to : X → Y} (alike : AreAlike P number rel number' rel' to) where
  relates_to : (wanted : Rel) (x other : X) → P x → P other → relates number' rel' wanted (to x) (to other) ≡ relates number rel wanted x other
  relates_to wanted x other p q = ap₂ (λ b r. not b && is_rel r wanted) (ap₂ (λ m n. m == n) (alike.numbers other q) (alike.numbers x p)) (alike.rels other x q p)

  pub counts_alike : (xs : List X) (x : X) → AllByRecursion P xs → P x → counts_of number' rel' (map to xs) (to x) ≡ counts_of number rel xs x
  counts_alike xs x all here =
      let count : (wanted : Rel) → count_by (relates number' rel' wanted (to x)) (map to xs) ≡ count_by (relates number rel wanted x) xs =
      λ wanted. count_to P to (relates number rel wanted x) (relates number' rel' wanted (to x)) (λ other. relates_to wanted x other here) xs all in
      rw (count Newer, count Older, count Equal, count Conflict) refl

  any_alike : (wanted : Rel) (x : X) (xs : List X) → AllByRecursion P xs → P x → list_any (relates number' rel' wanted (to x)) (map to xs) ≡ list_any (relates number rel wanted x) xs
  any_alike wanted x xs all here = any_to P to (relates number rel wanted x) (relates number' rel' wanted (to x)) (λ other. relates_to wanted x other here) xs all

  pub newest_alike : (xs : List X) → AllByRecursion P xs → newest_of number' rel' (map to xs) ≡ map to (newest_of number rel xs)
  newest_alike xs all =
      filter_to P to (λ x. not (list_any (relates number rel Newer x) xs)) (λ y. not (list_any (relates number' rel' Newer y) (map to xs))) (λ x here. ap not (any_alike Newer x xs all here)) xs all

  pub split_alike : (xs : List X) → AllByRecursion P xs → is_split number' rel' (map to xs) ≡ is_split number rel xs
  split_alike xs all =
      let top = newest_of number rel xs in
      let each = all_filter P (λ x. not (list_any (relates number rel Newer x) xs)) xs all in
      ap (has_conflict number' rel') (newest_alike xs all)
      ∙ any_to P to (λ x. list_any (relates number rel Conflict x) top) (λ y. list_any (relates number' rel' Conflict y) (map to top)) (λ x here. any_alike Conflict x top each here) top each
