-- Where copies stand among copies.
use Rattle.std.proofs.Common.{◌≡◌, ℕ, zero, suc, Bool, false, ◌<◌, ◌≤◌, List, [], ◌∷◌, length, get_or, refl, ap, sym, subst, ◌∙◌, inl, inr, arith}
use Rattle.std.specs.Prelude.{◌==◌, if◌then◌else◌, Contains}
use Rattle.std.specs.List.{insert, remove}
use Rattle.std.proofs.lemmas.Bool.{cases_Bool, cases_lt, eq-eqb, ne_eqb, eqb-true}
use Rattle.pana_rel.specs.Pairs.{place_of}
use Rattle.pana_rel.specs.inner.Square.{IsRising, up}

pub up_other : (at i : ℕ) → up at i ≡ at → ⊥
up_other zero i h = absurd (omega (arith, h))
up_other (suc at) zero h = absurd (omega (arith, h))
up_other (suc at) (suc i) h = up_other at i (omega (arith, h))

pub up_within : (at i n : ℕ) → i < n → up at i < suc n
up_within zero i n h = omega arith
up_within (suc at) zero n h = omega arith
up_within (suc at) (suc i) zero h = absurd (omega arith)
up_within (suc at) (suc i) (suc n) h = let below = up_within at i n (omega arith) in omega (arith, below)

pub up_insert : {X : Type 0} (xs : List X) (at i : ℕ) (y d : X) → at ≤ length xs → get_or (insert xs at y) (up at i) d ≡ get_or xs i d
up_insert xs zero i y d h = refl
up_insert [] (suc at) i y d h = absurd (omega arith)
up_insert (x ∷ xs) (suc at) zero y d h = refl
up_insert (x ∷ xs) (suc at) (suc i) y d h = up_insert xs at i y d (omega arith)

pub up_remove : {X : Type 0} (xs : List X) (k i : ℕ) (d : X) → get_or (remove xs k) i d ≡ get_or xs (up k i) d
up_remove [] zero i d = refl
up_remove [] (suc k) i d = refl
up_remove (x ∷ xs) zero i d = refl
up_remove (x ∷ xs) (suc k) zero d = refl
up_remove (x ∷ xs) (suc k) (suc i) d = up_remove xs k i d

-- the rest of rising copies rises
pub rising_rest : (c : ℕ) (cs : List ℕ) → IsRising (c ∷ cs) → IsRising cs
rising_rest c cs rising i j less within = rising (suc i) (suc j) (omega arith) (omega arith)

-- the first of rising copies is not among the rest
pub first_below : (c : ℕ) (cs : List ℕ) (i : ℕ) → IsRising (c ∷ cs) → i < length cs → c < get_or cs i 0
first_below c cs i rising within = rising zero (suc i) (omega arith) (omega arith)

pub place_at : (cs : List ℕ) (i : ℕ) → IsRising cs → i < length cs → place_of (get_or cs i 0) cs ≡ i
place_at [] i rising h = absurd (omega arith)
place_at (c ∷ cs) zero rising h = rw (eq-eqb c c refl) refl
place_at (c ∷ cs) (suc i) rising h =
    let less = first_below c cs i rising (omega arith) in
    rw (ne_eqb c (get_or cs i 0) (λ same. omega (arith, same, less))) (ap suc (place_at cs i (rising_rest c cs rising) (omega arith)))

place_found : (a : ℕ) (cs : List ℕ) (k : ℕ) → k < length cs → get_or cs k a ≡ a → place_of a cs < length cs
place_found a [] k h found = absurd (omega arith)
place_found a (c ∷ cs) zero h found = rw (eq-eqb c a found) (omega arith)
place_found a (c ∷ cs) (suc k) h found = elim (cases_Bool (c == a)) [
  | inl hit ↦ rw hit (omega arith)
  | inr miss ↦ let below = place_found a cs k (omega arith) found in rw miss (omega (arith, below))
]

-- a copy that is there has a place
pub place_within : (cs : List ℕ) (a : ℕ) → Contains cs a → place_of a cs < length cs
place_within cs a here = place_found a cs here.0 here.1 here.2

pub place_reads : (a : ℕ) (cs : List ℕ) (d : ℕ) → place_of a cs < length cs → get_or cs (place_of a cs) d ≡ a
place_reads a [] d h = absurd (omega arith)
place_reads a (c ∷ cs) d h = elim (cases_Bool (c == a)) [
  | inl hit ↦ rw hit (eqb-true c a hit)
  | inr miss ↦ let P : Bool → Type 0 = λ t. (if t then 0 else suc (place_of a cs)) < suc (length cs) in
      let here : P false = subst P miss h in
      rw miss (place_reads a cs d (omega (arith, here)))
]

-- what has a place is there
pub contains_place : (cs : List ℕ) (a : ℕ) → place_of a cs < length cs → Contains cs a
contains_place cs a h = (place_of a cs, h, place_reads a cs a h)

-- a copy that isn't there has the place behind all
pub place_past : (cs : List ℕ) (a : ℕ) → ¬ Contains cs a → length cs ≤ place_of a cs
place_past cs a gone = elim (cases_lt (place_of a cs) (length cs)) [
  | inl less ↦ absurd (gone (contains_place cs a less))
  | inr more ↦ more
]

-- two copies that are there stand at one place only where they are one
pub same_place : (cs : List ℕ) (a b : ℕ) → Contains cs a → Contains cs b → place_of a cs ≡ place_of b cs → a ≡ b
same_place cs a b here there same =
    sym (place_reads a cs 0 (place_within cs a here)) ∙ ap (λ i. get_or cs i 0) same ∙ place_reads b cs 0 (place_within cs b there)

pub place_insert_other : (cs : List ℕ) (at n a : ℕ) → ¬ (n ≡ a) → at ≤ length cs → place_of a (insert cs at n) ≡ up at (place_of a cs)
place_insert_other cs zero n a other h = rw (ne_eqb n a other) refl
place_insert_other [] (suc at) n a other h = absurd (omega arith)
place_insert_other (c ∷ cs) (suc at) n a other h = elim (cases_Bool (c == a)) [
  | inl hit ↦ rw hit refl
  | inr miss ↦ rw miss (ap suc (place_insert_other cs at n a other (omega arith)))
]

pub place_insert_same : (cs : List ℕ) (at n : ℕ) → ¬ Contains cs n → at ≤ length cs → place_of n (insert cs at n) ≡ at
place_insert_same cs zero n gone h = rw (eq-eqb n n refl) refl
place_insert_same [] (suc at) n gone h = absurd (omega arith)
place_insert_same (c ∷ cs) (suc at) n gone h =
    rw (ne_eqb c n (λ same. gone (zero, omega arith, same))) (ap suc (place_insert_same cs at n (λ here. gone (suc here.0, omega (arith, here.1), here.2)) (omega arith)))

pub place_remove : (cs : List ℕ) (k a : ℕ) → k < length cs → ¬ (get_or cs k 0 ≡ a) → place_of a cs ≡ up k (place_of a (remove cs k))
place_remove [] k a h other = absurd (omega arith)
place_remove (c ∷ cs) zero a h other = rw (ne_eqb c a other) refl
place_remove (c ∷ cs) (suc k) a h other = elim (cases_Bool (c == a)) [
  | inl hit ↦ rw hit refl
  | inr miss ↦ rw miss (ap suc (place_remove cs k a (omega arith) other))
]
