-- How many copies live, and on how many devices, as the table of copies counts them.
use Rattle.std.proofs.Common.{◌≡◌, ℕ, ◌≤◌, ◌<◌, true, false, nat_eq, List, [], ◌∷◌, map, length, Some, option_map, is_some, refl, sym, ap, ◌∙◌, arith}
use Rattle.std.specs.Bool.{Decides}
use Rattle.std.specs.Cmp.{nat_eq_equiv}
use Rattle.std.specs.List.{AllByRecursion, IsDistinct, list_any}
use Rattle.std.specs.Map.{keys_of}
use Rattle.std.specs.Set.{distinct_count}
use Rattle.std.specs.Str.{bytes_eq}
use Rattle.std.proofs.lemmas.Bool.Decides.{nat_tests, same_from_decides}
use Rattle.std.proofs.lemmas.Cmp.{nat_list_eq_equiv}
use Rattle.std.proofs.lemmas.List.{length-map}
use Rattle.std.proofs.lemmas.Map.Keys.{IsDistinct-cons}
use Rattle.std.proofs.lemmas.Map.Made.{is_some-lookup, length-from_keys, length-from_same_keys}
use Rattle.std.proofs.lemmas.Map.Entries.{length-keys_of}
use Rattle.std.proofs.lemmas.Slice.Eq.{bytes_eq-Decides}
use Rattle.pana_copies.specs.Spots.{AreDevices, CountsDevices, HasDevice, Table, kept}
use Rattle.pana_journal.specs.declared.entry.Entry.{Entry}
use Rattle.pana_hall.specs.Accepted.{IsAccepted}
use Rattle.pana_hall.specs.Living.{Copy, copy_in, living, number_of}
use Rattle.pana_hall.specs.Queries.{counts_of}
use Rattle.pana_hall.specs.inner.Kept.{AreSpots}
use Rattle.pana_hall.specs.inner.Spots.{spot_of}
use Rattle.pana_hall.specs.laws.Layers.{AreRising}
use Rattle.pana_hall.proofs.Places.{living_found}
use Rattle.pana_hall.proofs.Ready.{at_spots, place_spots}
use Rattle.pana_hall.proofs.Runs.{rising}

-- the device of a copy
abbrev device_of : Copy → List ℕ
device_of copy = copy.place.device

-- a copy is found by its number where that is one of the numbers
found_any : (n : ℕ) (copies : List Copy) → is_some (option_map spot_of (copy_in copies n)) ≡ list_any (nat_eq n) (map number_of copies)
found_any n [] = refl
found_any n (copy ∷ copies) = grind (arith, nat_tests, found_any n copies)

unequal : (m n : ℕ) → m < n → nat_eq m n ≡ false
unequal m n less = grind (arith, nat_tests)

above_apart : (low m : ℕ) (copies : List Copy) → m ≤ low → AreRising number_of low copies → AllByRecursion (λ n. nat_eq m n ≡ false) (map number_of copies)
above_apart low m [] within rises = tt
above_apart low m (copy ∷ copies) within rises = (unequal m (number_of copy) (omega (arith, rises.0)), above_apart (number_of copy) m copies (omega (arith, rises.0)) rises.1)

-- no number stands twice among rising ones
rising_apart : (low : ℕ) (copies : List Copy) → AreRising number_of low copies → IsDistinct nat_eq (map number_of copies)
unfolding IsDistinct
rising_apart low [] rises = tt
rising_apart low (copy ∷ copies) rises = IsDistinct-cons nat_eq (number_of copy) (map number_of copies) (above_apart (number_of copy) (number_of copy) copies (omega arith) rises.1) (rising_apart (number_of copy) copies rises.1)

-- a copy that is found is on one of the devices
any_device : (n : ℕ) (device : List ℕ) (copy : Copy) (copies : List Copy) → copy_in copies n ≡ Some copy → copy.place.device ≡ device → list_any (bytes_eq device) (map device_of copies) ≡ true
any_device n device copy [] at on = absurd (cc)
any_device n device copy (c ∷ copies) at on = grind (arith, nat_tests, bytes_eq-Decides, any_device n device copy copies)

module _ (journal : List Entry) (table : Table) (accepted : IsAccepted 8 journal) (spots : AreSpots journal table) where
  same_numbers : (n : ℕ) → list_any (nat_eq n) (keys_of table.spots) ≡ list_any (nat_eq n) (map number_of (living journal))
  unfolding kept
  same_numbers n = sym (is_some-lookup (nat_eq n) table.spots) ∙ ap is_some (spots n) ∙ found_any n (living journal)

  -- as many copies are kept as live
  as_many : IsDistinct nat_eq (keys_of table.spots) → length table.spots ≡ length (living journal)
  as_many once =
      sym (length-keys_of table.spots)
      ∙ length-from_same_keys nat_eq_equiv (keys_of table.spots) (map number_of (living journal)) once (rising_apart 0 (living journal) (rising 8 journal accepted).0) same_numbers
      ∙ length-map (living journal) number_of

  -- a device of one of these living copies has a copy in the table
  on_device : (device : List ℕ) (copies : List Copy) → AllByRecursion (λ c. copy_in (living journal) c.known.copy ≡ Some c) copies → list_any (bytes_eq device) (map device_of copies) ≡ true → HasDevice table device
  on_device device [] found any = absurd (cc)
  on_device device (c ∷ copies) found any =
      elim (bytes_eq device c.place.device) as (λ b. bytes_eq device c.place.device ≡ b → HasDevice table device) [
        | true ↦ λ is. (c.known.copy, c.place, place_spots journal table spots c.known.copy ∙ ap (option_map (λ copy. copy.place)) found.0, sym ((bytes_eq-Decides device c.place.device).0 is))
        | false ↦ λ is. on_device device copies found.1 (grind arith)
      ] refl

  device_kept : (device : List ℕ) → Decides (list_any (bytes_eq device) (map device_of (living journal))) (HasDevice table device)
  device_kept device = (on_device device (living journal) (living_found 8 journal accepted), is_there)
    where
      is_there : HasDevice table device → list_any (bytes_eq device) (map device_of (living journal)) ≡ true
      is_there (n, place, at, on) =
          let x = at_spots journal table spots n place at in
          any_device n device x.0 (living journal) x.1 (ap (λ p. p.device) x.2 ∙ on)

  as_many_devices : (devices : List (List ℕ)) → AreDevices table devices → length devices ≡ distinct_count bytes_eq (map device_of (living journal))
  as_many_devices devices are =
      length-from_keys nat_list_eq_equiv devices (map device_of (living journal)) are.once
      (λ device. same_from_decides _ _ (are.those device) (device_kept device))

  pub counted : (copies devices : ℕ) → copies ≡ length table.spots → IsDistinct nat_eq (keys_of table.spots) → CountsDevices table devices → record { copies = copies; devices = devices } ≡ counts_of (living journal)
  unfolding counts_of
  counted copies devices long once (names, are, many) = λ i. record { copies = (long ∙ as_many once) i; devices = (many ∙ as_many_devices names are) i }
