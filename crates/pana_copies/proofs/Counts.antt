-- The counts of the devices stay right where a place comes or goes.
use Rattle.std.proofs.Common.{◌≡◌, ℕ, ◌+◌, ◌-◌, ◌<◌, true, cond, List, [], ◌∷◌, ◌++◌, slice_get, Some, is_some, sym, ap, ◌∙◌, arith}
use Rattle.std.specs.List.{swap_remove}
use Rattle.std.specs.Map.{lookup}
use Rattle.std.specs.Option.{unwrap_or}
use Rattle.std.specs.Str.{bytes_eq}
use Rattle.std.proofs.lemmas.Bool.Decides.{nat_tests}
use Rattle.std.proofs.lemmas.Cmp.{nat_list_eq_equiv}
use Rattle.std.proofs.lemmas.List.Sums.{sum_by-append, sum_by-swap_remove}
use Rattle.std.proofs.lemmas.Option.{get_or_from_slice_get, slice_get_within}
use Rattle.std.proofs.lemmas.Slice.Eq.{bytes_eq-Decides}
use Rattle.pana_copies.specs.declared.place.Place.{Place}
use Rattle.pana_copies.specs.inner.Counts.{counted, unless_zero, places_on, AreCounted}

kept_count : (n : ℕ) → unwrap_or (unless_zero n) 0 ≡ n
kept_count n = grind (arith, nat_tests)

one_more : (n : ℕ) → Some (n + 1) ≡ unless_zero (n + 1)
one_more n = grind (arith, nat_tests)

places_on-push : (device : List ℕ) (ps : List Place) (p : Place) → places_on device (ps ++ p ∷ []) ≡ places_on device ps + cond (bytes_eq device p.device) 1 0
places_on-push device ps p = let both = sum_by-append (λ (q : Place). cond (bytes_eq device q.device) 1 0) ps (p ∷ []) in omega (arith, both)

places_on-swap_remove : (device : List ℕ) (ps : List Place) (i : ℕ) (p : Place) → slice_get ps i ≡ Some p → places_on device (swap_remove ps i p) + cond (bytes_eq device p.device) 1 0 ≡ places_on device ps
places_on-swap_remove device ps i p at =
    let test = λ (q : Place). cond (bytes_eq device q.device) 1 0 in
    ap (λ q. places_on device (swap_remove ps i p) + test q) (sym (get_or_from_slice_get ps i p p at))
    ∙ sum_by-swap_remove test ps i p (slice_get_within ps i p at)

-- a device with a place has a count
pub place_counts : (ps : List Place) (i : ℕ) (p : Place) → slice_get ps i ≡ Some p → 0 < places_on p.device ps
place_counts ps i p at =
    let one : ℕ = 1 in
    let test : cond (bytes_eq p.device p.device) 1 0 ≡ one = ap (λ b. cond b 1 0) (nat_list_eq_equiv.refl p.device) in
    omega (arith, test, places_on-swap_remove p.device ps i p at)

pub kept_at_all : (n : ℕ) → 0 < n → is_some (unless_zero n) ≡ true
kept_at_all n h = grind (arith, nat_tests)

pub counted_places : (counts : List (List ℕ × ℕ)) (ps : List Place) (device : List ℕ) → AreCounted counts ps → counted counts device ≡ places_on device ps
counted_places counts ps device are = ap (λ o. unwrap_or o 0) (are device) ∙ kept_count (places_on device ps)

pub counted_more : (counts more : List (List ℕ × ℕ)) (ps : List Place) (p : Place) → AreCounted counts ps
    → ((other : List ℕ) → lookup (bytes_eq other) more ≡ cond (bytes_eq p.device other) (Some (counted counts p.device + 1)) (lookup (bytes_eq other) counts))
    → AreCounted more (ps ++ p ∷ [])
counted_more counts more ps p are says device = grind (arith, bytes_eq-Decides, one_more, places_on-push device ps p, says device, are device, counted_places counts ps p.device are)

pub counted_fewer : (counts fewer : List (List ℕ × ℕ)) (ps : List Place) (i : ℕ) (p : Place) → AreCounted counts ps → slice_get ps i ≡ Some p
    → ((other : List ℕ) → lookup (bytes_eq other) fewer ≡ cond (bytes_eq p.device other) (unless_zero (counted counts p.device - 1)) (lookup (bytes_eq other) counts))
    → AreCounted fewer (swap_remove ps i p)
counted_fewer counts fewer ps i p are at says device = grind (arith, bytes_eq-Decides, places_on-swap_remove device ps i p at, says device, are device, counted_places counts ps p.device are)
