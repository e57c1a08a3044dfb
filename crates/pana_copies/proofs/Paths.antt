-- The copies that are kept at one path, on the devices that were looked at so far.
use Rattle.std.proofs.Common.{◌≡◌, ℕ, ◌<◌, Bool, true, false, ◌&&◌, ◌||◌, nat_eq, ◌==◌, List, [], ◌∷◌, ◌++◌, Option, Some, None, option_map, is_some, refl, sym, ap, ◌∙◌, subst, arith, ◌↔◌}
use Rattle.std.specs.Bool.{Decides}
use Rattle.std.specs.Cmp.{nat_eq_equiv, ranks}
use Rattle.std.specs.List.{AllByRecursion, IsDistinct, list_any}
use Rattle.std.specs.List.Sorted.{IsStrictlySortedBy, IsPermutation, IsSorted}
use Rattle.std.specs.Map.{keys_of, lookup}
use Rattle.std.specs.Ordering.{nat_cmp, MatchOrdering}
use Rattle.std.specs.declared.cmp.Ordering.TheVariants.{Less}
use Rattle.std.specs.Str.{bytes_eq}
use Rattle.std.proofs.lemmas.Bool.{and_parts, and_from, or_from, false_from_ne_true}
use Rattle.std.proofs.lemmas.Bool.Decides.{same_from_decides, Decides-like, Decides-eqb}
use Rattle.std.proofs.lemmas.Cmp.{nat_list_eq_equiv}
use Rattle.std.proofs.lemmas.List.Folds.{list_any-append}
use Rattle.std.proofs.lemmas.List.Sorted.{IsNonDecreasingBy-from_sort}
use Rattle.std.proofs.lemmas.Map.Keys.{IsDistinct-head, IsDistinct-tail, IsDistinct-push, IsDistinct-IsPermutation, IsStrictlyIncreasing-from_distinct, sorted_from_strictly_increasing}
use Rattle.std.proofs.lemmas.Map.Made.{is_some-lookup}
use Rattle.std.proofs.lemmas.Slice.Eq.{bytes_eq-Decides}
use Rattle.pana_copies.specs.declared.place.Place.{Place}
use Rattle.pana_copies.specs.Places.{same_place}
use Rattle.pana_copies.specs.Spots.{AreRising}
use Rattle.pana_copies.specs.inner.Indexes.{IsIndexed}
use Rattle.pana_copies.specs.inner.Sides.{spots_of}
use Rattle.pana_copies.proofs.Counts.{kept_at_all, place_counts}
use Rattle.pana_copies.proofs.Kept.{spot_from, stands, same_place-Decides}

-- whether a copy with this place is at the path, on one of the devices
abbrev pub at_path : List ℕ → List (List ℕ) → Option Place → Bool
at_path path devices None = false
at_path path devices (Some p) = list_any (bytes_eq p.device) devices && bytes_eq p.path path

-- these are the copies at the path on the devices, none twice
pub record AreFound (place : ℕ → Option Place) (path : List ℕ) (devices : List (List ℕ)) (found : List ℕ) : Type 0 where
  pub those : (copy : ℕ) → list_any (λ n. n == copy) found ≡ at_path path devices (place copy)
  pub once : IsDistinct nat_eq found

all_at : {X : Type 0} (P : X → Type 0) (xs : List X) (x : X) (rest : List X) → AllByRecursion P (xs ++ x ∷ rest) → P x
all_at P [] x rest all = all.0
all_at P (y ∷ xs) x rest all = all_at P xs x rest all.1

not_before : (done : List (List ℕ)) (device : List ℕ) (rest : List (List ℕ)) → IsDistinct bytes_eq (done ++ device ∷ rest) → list_any (bytes_eq device) done ≡ false
not_before [] device rest apart = refl
not_before (d ∷ done) device rest apart =
    or_from (bytes_eq device d) (list_any (bytes_eq device) done)
    (nat_list_eq_equiv.symm device d ∙ all_at (λ y. bytes_eq d y ≡ false) done device rest (IsDistinct-head bytes_eq d (done ++ device ∷ rest) apart))
    (not_before done device rest (IsDistinct-tail bytes_eq d (done ++ device ∷ rest) apart))

none_at_all : (path : List ℕ) (place : Option Place) → at_path path [] place ≡ false
none_at_all path None = refl
none_at_all path (Some p) = refl

pub found_none : (place : ℕ → Option Place) (path : List ℕ) → AreFound place path [] []
unfolding IsDistinct
found_none place path = record { those = λ copy. sym (none_at_all path (place copy)); once = tt }

spread : (before here same : Bool) → ((before || (here || false)) && same) ≡ ((before && same) || (here && same))
spread before here same = grind arith

-- whether it is there, once one more device was looked at
one_more : (path device : List ℕ) (done : List (List ℕ)) (place : Option Place) (here : Bool) → Decides here (place ≡ Some (record { device = device; path = path }))
    → at_path path (done ++ device ∷ []) place ≡ (at_path path done place || here)
one_more path device done None here is = sym (false_from_ne_true here (λ h. let none = is.0 h in absurd (cc)))
one_more path device done (Some p) here is =
    let now : Place = record { device = device; path = path } in
    let test : here ≡ same_place p now = same_from_decides here (same_place p now) (Decides-like here (λ h. let same : p ≡ now = cc in same) (λ h. ap Some h) is) (same_place-Decides p now) in
    ap (λ b. b && bytes_eq p.path path) (list_any-append (bytes_eq p.device) done (device ∷ []))
    ∙ spread (list_any (bytes_eq p.device) done) (bytes_eq p.device device) (bytes_eq p.path path)
    ∙ ap (λ b. (list_any (bytes_eq p.device) done && bytes_eq p.path path) || b) (sym test)

or_nothing : (b : Bool) → (b || false) ≡ b
or_nothing true = refl
or_nothing false = refl

list_any-flipped : (copy : ℕ) (found : List ℕ) → list_any (nat_eq copy) found ≡ list_any (λ n. n == copy) found
list_any-flipped copy [] = refl
list_any-flipped copy (n ∷ found) = λ i. nat_eq_equiv.symm copy n i || list_any-flipped copy found i

-- what a look-up of a place answers
abbrev Answers : (ℕ → Option Place) → Place → Option ℕ → Type 0
Answers place looked answer = (n : ℕ) → (answer ≡ Some n) ↔ (place n ≡ Some looked)

module _ (place : ℕ → Option Place) (path : List ℕ) (done : List (List ℕ)) (device : List ℕ) (found : List ℕ) (looked : Place) (on : looked.device ≡ device) (under : looked.path ≡ path) where
  abbrev now : Place
  now = record { device = device; path = path }

  at_now : (answer : Option ℕ) → Answers place looked answer → Answers place now answer
  at_now answer at = let same : looked ≡ now = λ j. record { device = on j; path = under j } in subst (λ p. Answers place p answer) same at

  pub found_more : (rest : List (List ℕ)) (copy : ℕ) → IsDistinct bytes_eq (done ++ device ∷ rest) → Answers place looked (Some copy)
      → AreFound place path done found → AreFound place path (done ++ device ∷ []) (found ++ copy ∷ [])
  found_more rest copy apart answer are =
      let at = at_now (Some copy) answer in
      let not_yet : list_any (λ n. n == copy) found ≡ false = are.those copy ∙ ap (at_path path done) ((at copy).0 refl) ∙ ap (λ b. b && bytes_eq path path) (not_before done device rest apart) in
      record {
        those = λ n. list_any-append (λ m. m == n) found (copy ∷ [])
            ∙ (λ i. are.those n i || or_nothing (copy == n) i)
            ∙ sym (one_more path device done (place n) (copy == n) (Decides-like (copy == n) (λ same. (at n).0 (ap Some same)) (λ h. let same = (at n).1 h in cc) (Decides-eqb copy n)));
        once = IsDistinct-push nat_eq_equiv found copy are.once (list_any-flipped copy found ∙ not_yet);
      }

  pub found_no_more : Answers place looked None → AreFound place path done found → AreFound place path (done ++ device ∷ []) found
  found_no_more answer are =
      record {
        those = λ n. are.those n
            ∙ sym (or_nothing (at_path path done (place n)))
            ∙ sym (one_more path device done (place n) false (λ h. absurd (cc), λ h. let none = (at_now None answer n).1 h in absurd (cc)));
        once = are.once;
      }

from_at_path : (path : List ℕ) (devices : List (List ℕ)) (place : Option Place) → at_path path devices place ≡ true → (p : Place) × (place ≡ Some p) × (p.path ≡ path)
from_at_path path devices None h = absurd (cc)
from_at_path path devices (Some p) h = (p, refl, (bytes_eq-Decides p.path path).0 (and_parts _ _ h).1)

-- once each device that is counted was looked at, all of that path are found
pub found_all : (es : List (ℕ × ℕ)) (ps : List Place) (counts : List (List ℕ × ℕ)) → IsIndexed es ps counts → (path : List ℕ) (found : List ℕ)
    → AreFound (λ n. option_map (λ s. s.place) (lookup (nat_eq n) (spots_of es ps))) path (keys_of counts) found → (copy : ℕ)
    → (list_any (λ n. n == copy) found ≡ true) ↔ ((p : Place) × (option_map (λ s. s.place) (lookup (nat_eq copy) (spots_of es ps)) ≡ Some p) × (p.path ≡ path))
found_all es ps counts indexed path found are copy = (λ h. from_at_path path (keys_of counts) _ (sym (are.those copy) ∙ h), is_found)
  where
    is_found : (p : Place) × (option_map (λ s. s.place) (lookup (nat_eq copy) (spots_of es ps)) ≡ Some p) × (p.path ≡ path) → list_any (λ n. n == copy) found ≡ true
    is_found at =
        let p = at.0 in
        let x = spot_from _ p at.1 in
        let s = stands es ps indexed.even copy x.0 x.1 in
        let device : list_any (bytes_eq p.device) (keys_of counts) ≡ true = sym (is_some-lookup (bytes_eq p.device) counts) ∙ ap is_some (indexed.counted p.device) ∙ kept_at_all _ (place_counts ps s.index p (s.second ∙ ap Some x.2)) in
        are.those copy ∙ ap (at_path path (keys_of counts)) at.1 ∙ and_from _ _ device ((bytes_eq-Decides p.path path).1 at.2)

all_above : (x : ℕ) (xs : List ℕ) → AllByRecursion (λ y. nat_cmp x y ≡ Less) xs → AllByRecursion (λ y. x < y) xs
all_above x [] all = tt
all_above x (y ∷ xs) all = (less x y all.0, all_above x xs all.1)
  where
    less : (a b : ℕ) → nat_cmp a b ≡ Less → a < b
    less a b h = subst (λ o. MatchOrdering o (a < b) (a ≡ b) (b < a)) h (ranks a b)

rising_strictly : (xs : List ℕ) → IsStrictlySortedBy nat_cmp xs → AreRising xs
unfolding IsStrictlySortedBy
rising_strictly [] h = tt
rising_strictly (x ∷ xs) h = (all_above x xs h.0, rising_strictly xs h.1)

-- numbers that are sorted, and none twice, rise
pub rising_sorted : (xs ys : List ℕ) → IsDistinct nat_eq xs → IsPermutation xs ys → IsSorted nat_cmp ys → AreRising ys
rising_sorted xs ys once moved sorted =
    rising_strictly ys (sorted_from_strictly_increasing ys (IsStrictlyIncreasing-from_distinct ys (IsNonDecreasingBy-from_sort (λ n. n) ys sorted) (IsDistinct-IsPermutation nat_eq nat_eq_equiv.symm xs ys moved once)))
