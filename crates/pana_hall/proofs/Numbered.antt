-- Living copies by their numbers.
use Rattle.pana_hall.proofs.Words.{◌≡◌, ℕ, ◌<◌, Bool, true, false, ◌&&◌, ◌==◌, List, [], ◌∷◌, map, filter, find, list_any, Option, Some, None, option_map, unwrap_or}
use Rattle.pana_hall.proofs.Words.{refl, sym, ap, ◌∙◌, subst, arith, nat_tests, then_some, AllByRecursion, Entry, Copy, copy_in, living, IsAccepted, AreRising, In, any_from, eq-eqb, eqb-true, has, in_filter, cond, inl, inr}
use Rattle.pana_copies.specs.Spots as tables
use Rattle.pana_family.proofs.Members.{any_some, from_both, to_filter}
use Rattle.pana_hall.specs.inner.Finding.{passes}
use Rattle.pana_hall.proofs.Lists.{each_of, found_by, rises_each, rises_filter, rises_map}
use Rattle.pana_hall.proofs.Moves.{found_number}
use Rattle.pana_hall.proofs.{Listed.same_by_key, Places.living_found, Runs.rising}
use Rattle.pana_hall.proofs.Related.{any_alike, each_from, each_in}

-- A test by number is that of the copy that lives under it.

pub passes_is : (test : Copy → Bool) (copies : List Copy) (n : ℕ) (x : Copy) → copy_in copies n ≡ Some x → passes test copies n ≡ test x
passes_is test copies n x at = ap (λ o. unwrap_or (option_map test o) false) at

abbrev pub LivesAmong : List Copy → Copy → Type 0
LivesAmong copies c = copy_in copies c.known.copy ≡ Some c

-- a number that is in a list is found there
number_found : (xs : List ℕ) (n : ℕ) → find (λ x. x == n) xs ≡ then_some (has xs n) n
number_found [] n = refl
number_found (x ∷ xs) n = grind (arith, nat_tests, number_found xs n)

pub has_filter : (p : ℕ → Bool) (xs : List ℕ) (n : ℕ) → has (filter p xs) n ≡ (p n && has xs n)
has_filter p [] n = grind (arith, nat_tests)
has_filter p (x ∷ xs) n = grind (arith, nat_tests, has_filter p xs n)

-- what is found is a member
found_member : (p : Copy → Bool) (xs : List Copy) (x : Copy) → find p xs ≡ Some x → In x xs
found_member p [] x e = absurd (cc)
found_member p (y ∷ xs) x e =
    elim (p y) as (λ b. cond b (Some y) (find p xs) ≡ Some x → In x (y ∷ xs)) [
      | true ↦ λ f. inl (let same : y ≡ x = cc in sym same)
      | false ↦ λ f. inr (found_member p xs x f)
    ] e

-- a copy that passes the test has the number where the one with the number passes it
has_passing : (test : Copy → Bool) (copies : List Copy) (n : ℕ) → AllByRecursion (LivesAmong copies) copies → has (map (λ c. c.known.copy) (filter test copies)) n ≡ passes test copies n
has_passing test copies n each =
    any_alike (λ m. m == n) (λ c. c.known.copy == n) (λ c. c.known.copy) (filter test copies) (each_of _ (λ c. refl) (filter test copies))
    ∙ from_both _ _
    (λ e.
    let z = any_some (λ c. c.known.copy == n) (filter test copies) e in
    let k = in_filter test copies z.0 z.1 in
    let here : LivesAmong copies z.0 = each_in (LivesAmong copies) copies z.0 each k.0 in
    passes_is test copies n z.0 (subst (λ m. copy_in copies m ≡ Some z.0) (eqb-true z.0.known.copy n z.2) here) ∙ k.1)
    (λ e. by_copy (copy_in copies n) refl e)
  where
    by_copy : (o : Option Copy) → copy_in copies n ≡ o → unwrap_or (option_map test o) false ≡ true → list_any (λ c. c.known.copy == n) (filter test copies) ≡ true
    by_copy None at e = absurd (cc)
    by_copy (Some x) at e = any_from (λ c. c.known.copy == n) (filter test copies) x (to_filter test copies x (found_member (λ c. c.known.copy == n) copies x at) e) (eq-eqb x.known.copy n (found_number copies n x at))

-- Rising numbers are those of the copies that pass a test.

rises_behind : (x : ℕ) (xs : List ℕ) → tables.AreRising (x ∷ xs) → AreRising (λ n. n) x xs
rises_behind x [] rises = tt
rises_behind x (y ∷ xs) rises = (rises.0.0, rises_behind y xs rises.1)

all_later : (P : ℕ → Type 0) (p : ℕ → Bool) (xs : List ℕ) → AllByRecursion P xs → AllByRecursion P (filter p xs)
all_later P p [] all = tt
all_later P p (x ∷ xs) all = grind (arith, nat_tests, all_later P p xs all.1)

-- what a test keeps of rising numbers rises
pub filter_rises : (p : ℕ → Bool) (xs : List ℕ) → tables.AreRising xs → tables.AreRising (filter p xs)
filter_rises p [] rises = tt
filter_rises p (x ∷ xs) rises = grind (arith, nat_tests, filter_rises p xs rises.1, all_later (λ y. x < y) p xs rises.0)

module _ (journal : List Entry) (accepted : IsAccepted 8 journal) (test : Copy → Bool) (numbers : List ℕ) where
  -- a number under which a copy lives is above 0
  above : (n : ℕ) (x : Copy) → copy_in (living journal) n ≡ Some x → 0 < n
  above n x at =
      let over = (found_by (λ c. c.known.copy == n) (λ c. 0 < c.known.copy) (living journal) x (rises_each (λ c. c.known.copy) 0 (living journal) (rising 8 journal accepted).0) at).1 in
      subst (λ k. 0 < k) (found_number (living journal) n x at) over

  passing_above : (n : ℕ) → passes test (living journal) n ≡ true → 0 < n
  passing_above n = by_copy (copy_in (living journal) n) refl
    where
      by_copy : (o : Option Copy) → copy_in (living journal) n ≡ o → unwrap_or (option_map test o) false ≡ true → 0 < n
      by_copy None at e = absurd (cc)
      by_copy (Some x) at e = above n x at

  rises_above_zero : (xs : List ℕ) → AllByRecursion (λ n. 0 < n) xs → tables.AreRising xs → AreRising (λ n. n) 0 xs
  rises_above_zero [] all rises = tt
  rises_above_zero (x ∷ xs) all rises = (all.0, rises_behind x xs rises)

  pub numbers_of : tables.AreRising numbers → ((n : ℕ) → has numbers n ≡ passes test (living journal) n) → numbers ≡ map (λ c. c.known.copy) (filter test (living journal))
  numbers_of rises those =
      let copies = living journal in
      let each = each_from _ numbers (λ n i. passing_above n (sym (those n) ∙ any_from (λ m. m == n) numbers n i (eq-eqb n n refl))) in
      same_by_key (λ n. n) 0 numbers (map (λ c. c.known.copy) (filter test copies))
      (rises_above_zero numbers each rises)
      (rises_map (λ c. c.known.copy) (λ c. c.known.copy) (λ n. n) (λ c. refl) 0 (filter test copies) (rises_filter (λ c. c.known.copy) 0 test copies (rising 8 journal accepted).0))
      (λ n. number_found numbers n
      ∙ ap (λ b. then_some b n) (those n ∙ sym (has_passing test copies n (living_found 8 journal accepted)))
      ∙ sym (number_found (map (λ c. c.known.copy) (filter test copies)) n))
