-- The devices that are counted are those on which a copy is kept.
use Rattle.std.proofs.Common.{◌≡◌, ℕ, ◌↔◌, true, nat_eq, List, [], ◌∷◌, Some, option_map, is_some, sym, ap, ◌∙◌, arith}
use Rattle.std.specs.List.{list_any}
use Rattle.std.specs.Map.{keys_of, lookup}
use Rattle.std.specs.Str.{bytes_eq}
use Rattle.std.proofs.lemmas.Bool.Decides.{nat_tests}
use Rattle.std.proofs.lemmas.Map.Made.{is_some-lookup}
use Rattle.std.proofs.lemmas.Slice.Eq.{bytes_eq-Decides}
use Rattle.pana_copies.specs.declared.place.Place.{Place}
use Rattle.pana_copies.specs.inner.Counts.{places_on, unless_zero}
use Rattle.pana_copies.specs.inner.Indexes.{IsIndexed}
use Rattle.pana_copies.specs.inner.Sides.{spots_of}
use Rattle.pana_copies.proofs.Counts.{kept_at_all, place_counts}
use Rattle.pana_copies.proofs.Kept.{entry_at, kept_at, place_from_any, spot_from, stands}

-- a device whose places are counted has a place
some_place : (device : List ℕ) (ps : List Place) → is_some (unless_zero (places_on device ps)) ≡ true → list_any (λ p. bytes_eq device p.device) ps ≡ true
some_place device [] some = absurd (cc)
some_place device (p ∷ ps) some = grind (arith, nat_tests, some_place device ps)

module _ (es : List (ℕ × ℕ)) (ps : List Place) (counts : List (List ℕ × ℕ)) (indexed : IsIndexed es ps counts) (device : List ℕ) where
  abbrev Holds : Type 0
  Holds = (copy : ℕ) × (place : Place) × (option_map (λ s. s.place) (lookup (nat_eq copy) (spots_of es ps)) ≡ Some place) × (place.device ≡ device)

  holds : list_any (bytes_eq device) (keys_of counts) ≡ true → Holds
  holds any =
      let some : is_some (unless_zero (places_on device ps)) ≡ true = ap is_some (sym (indexed.counted device)) ∙ is_some-lookup (bytes_eq device) counts ∙ any in
      let at = place_from_any (λ p. bytes_eq device p.device) ps (some_place device ps some) in
      let e = entry_at es ps indexed.even.long at.0 at.1 at.2 in
      (e.0.0, at.1, ap (option_map (λ s. s.place)) (kept_at es ps indexed.even at.0 e.0 at.1 e.1 at.2), sym ((bytes_eq-Decides device at.1.device).0 at.3))

  is_counted : Holds → list_any (bytes_eq device) (keys_of counts) ≡ true
  is_counted (copy, p, is, on) =
      let x = spot_from _ p is in
      let s = stands es ps indexed.even copy x.0 x.1 in
      let here : list_any (bytes_eq p.device) (keys_of counts) ≡ true = sym (is_some-lookup (bytes_eq p.device) counts) ∙ ap is_some (indexed.counted p.device) ∙ kept_at_all _ (place_counts ps s.index p (s.second ∙ ap Some x.2)) in
      ap (λ d. list_any (bytes_eq d) (keys_of counts)) (sym on) ∙ here

  pub devices_are : (list_any (bytes_eq device) (keys_of counts) ≡ true) ↔ Holds
  devices_are = (holds, is_counted)
