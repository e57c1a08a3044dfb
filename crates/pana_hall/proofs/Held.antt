-- The holdings of a device, by the numbers of its copies.
use Rattle.pana_hall.proofs.Words.{◌≡◌, ℕ, zero, suc, ◌≤◌, ◌<◌, ◌+◌, Bool, true, false, ◌&&◌, ◌==◌, List, [], ◌∷◌, ◌++◌, length, map, filter, take, list_any, Option, Some, None, option_map, unwrap_or, filter_map, option_to_list, nat_le}
use Rattle.pana_hall.proofs.Words.{refl, sym, ap, ◌∙◌, subst, arith, nat_tests, AllByRecursion, Place, Table, Entry, Copy, copy_in, living, IsAccepted, AreSpots, Holding, holding, holdings, holding_in, bytes_eq, has, take_more}
use Rattle.std.proofs.Common.{◌↔◌, get_or}
use Rattle.std.proofs.lemmas.Bool.{and_parts, and_from, le-leb, leb-true}
use Rattle.std.proofs.lemmas.List.{take-map}
use Rattle.std.proofs.lemmas.List.Elements.{filter_map-append}
use Rattle.std.proofs.lemmas.Slice.Eq.{bytes_eq-Decides}
use Rattle.pana_copies.specs.Spots as tables
use Rattle.pana_family.proofs.Members.{from_both}
use Rattle.pana_hall.specs.inner.Finding.{passes}
use Rattle.pana_hall.specs.Living.{copies_of}
use Rattle.pana_hall.proofs.Lists.{each_filter, each_passes, each_two}
use Rattle.pana_hall.proofs.Moves.{found_number}
use Rattle.pana_hall.proofs.{Places.living_found, Ready.at_spots, Ready.place_spots}
use Rattle.pana_hall.proofs.Numbered.{LivesAmong, numbers_of, passes_is}

-- whether a copy is on the device, with a number from this one on
abbrev pub is_wanted : List ℕ → ℕ → Copy → Bool
is_wanted device from copy = bytes_eq copy.place.device device && nat_le from copy.known.copy

-- the holdings with a number from this one on
wanted_holdings : (device : List ℕ) (from : ℕ) (copies : List Copy) → filter (λ h. nat_le from h.copy) (holdings copies device) ≡ map holding (filter (is_wanted device from) copies)
wanted_holdings device from [] = refl
wanted_holdings device from (c ∷ copies) = grind (arith, nat_tests, wanted_holdings device from copies)

-- each of these copies as a holding
all_held : (copies : List Copy) (device : List ℕ) (cs : List Copy) → AllByRecursion (λ c. holding_in copies device c.known.copy ≡ Some (holding c)) cs
    → filter_map (holding_in copies device) (map (λ c. c.known.copy) cs) ≡ map holding cs
all_held copies device [] all = refl
all_held copies device (c ∷ cs) all = grind (arith, nat_tests, all_held copies device cs all.1, all.0)

-- one number more
pub held_more : (g : ℕ → Option Holding) (numbers : List ℕ) (i d : ℕ) → i < length numbers
    → filter_map g (take (i + 1) numbers) ≡ filter_map g (take i numbers) ++ option_to_list (g (get_or numbers i d))
held_more g numbers i d within = ap (filter_map g) (take_more numbers i d within) ∙ filter_map-append g (take i numbers) (get_or numbers i d ∷ []) ∙ grind (arith, nat_tests)

all_front : (P : Copy → Type 0) (n : ℕ) (cs : List Copy) → AllByRecursion P cs → AllByRecursion P (take n cs)
all_front P zero cs all = tt
all_front P (suc n) [] all = tt
all_front P (suc n) (c ∷ cs) all = (all.0, all_front P n cs all.1)

module _ (journal : List Entry) (table : Table) (device : List ℕ) (from : ℕ) (numbers : List ℕ) (accepted : IsAccepted 8 journal) (spots : AreSpots journal table)
    (on_device : (n : ℕ) → (list_any (λ m. m == n) numbers ≡ true) ↔ tables.IsOnDevice table device from n) where
  abbrev wanted : List Copy
  wanted = filter (is_wanted device from) (living journal)

  has_wanted : (n : ℕ) → has numbers n ≡ passes (is_wanted device from) (living journal) n
  has_wanted n = from_both _ _ (λ h. is_there ((on_device n).0 h)) (λ e. (on_device n).1 (by_copy (copy_in (living journal) n) refl e))
    where
      is_there : tables.IsOnDevice table device from n → passes (is_wanted device from) (living journal) n ≡ true
      is_there on =
          let x = at_spots journal table spots n on.0 on.1 in
          let here : x.0.place.device ≡ device = ap (λ (p : Place). p.device) x.2 ∙ on.2 in
          let least : from ≤ x.0.known.copy = subst (λ k. from ≤ k) (sym (found_number (living journal) n x.0 x.1)) on.3 in
          passes_is (is_wanted device from) (living journal) n x.0 x.1 ∙ and_from _ _ ((bytes_eq-Decides x.0.place.device device).1 here) (le-leb from x.0.known.copy least)

      by_copy : (o : Option Copy) → copy_in (living journal) n ≡ o → unwrap_or (option_map (is_wanted device from) o) false ≡ true → tables.IsOnDevice table device from n
      by_copy None at e = absurd (cc)
      by_copy (Some x) at e =
          let both = and_parts (bytes_eq x.place.device device) (nat_le from x.known.copy) e in (
            x.place,
            place_spots journal table spots n ∙ ap (option_map (λ copy. copy.place)) at,
            (bytes_eq-Decides x.place.device device).0 both.0,
            subst (λ k. from ≤ k) (found_number (living journal) n x at) (leb-true from x.known.copy both.1),
          )

  each_held : AllByRecursion (λ c. holding_in (living journal) device c.known.copy ≡ Some (holding c)) wanted
  unfolding copies_of
  each_held =
      each_two (LivesAmong (living journal)) (λ c. is_wanted device from c ≡ true) _ wanted (λ c at e. grind (arith, nat_tests, at, e))
      (each_filter (LivesAmong (living journal)) (is_wanted device from) (living journal) (living_found 8 journal accepted))
      (each_passes (is_wanted device from) (living journal))

  -- the holdings of these copies are those of the device
  pub held_on : tables.AreRising numbers → filter_map (holding_in (living journal) device) numbers ≡ filter (λ h. nat_le from h.copy) (holdings (living journal) device)
  held_on rises =
      ap (filter_map (holding_in (living journal) device)) (numbers_of journal accepted (is_wanted device from) numbers rises has_wanted)
      ∙ all_held (living journal) device wanted each_held
      ∙ sym (wanted_holdings device from (living journal))

  -- and the first of them the first of those
  pub held_first : (n : ℕ) → tables.AreRising numbers → filter_map (holding_in (living journal) device) (take n numbers) ≡ take n (filter (λ h. nat_le from h.copy) (holdings (living journal) device))
  held_first n rises =
      ap (λ l. filter_map (holding_in (living journal) device) (take n l)) (numbers_of journal accepted (is_wanted device from) numbers rises has_wanted)
      ∙ ap (filter_map (holding_in (living journal) device)) (take-map (λ (c : Copy). c.known.copy) n wanted)
      ∙ all_held (living journal) device (take n wanted) (all_front _ n wanted each_held)
      ∙ sym (take-map holding n wanted)
      ∙ ap (take n) (sym (wanted_holdings device from (living journal)))
