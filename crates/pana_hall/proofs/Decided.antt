-- What a sighting comes to, by the numbers of copies.
use Rattle.pana_hall.proofs.Words.{◌≡◌, ℕ, Bool, true, false, not, ◌&&◌, ◌||◌, ◌==◌, List, [], ◌∷◌, map, filter, find, list_any, Option, Some, None, is_none, is_some, option_map, option_and_then, unwrap_or}
use Rattle.pana_hall.proofs.Words.{filter_agree, refl, sym, ap, ap₂, ◌∙◌, arith, nat_tests, map-map, then_some, AllByRecursion, Place, Table, Entry, Copy, copy_in, living, is_of, IsAccepted, AreSpots}
use Rattle.pana_hall.proofs.Words.{has}
use Rattle.std.proofs.Common.{◌↔◌}
use Rattle.std.proofs.lemmas.Slice.Eq.{bytes_eq-Decides}
use Rattle.pana_copies.specs.Spots as tables
use Rattle.pana_hall.proofs.Words.{Edit, Reconcile, Merge, Remove, Note, IsSome, IsThere}
use Rattle.pana_calls.specs.declared.call.Sighting.{Sighting}
use Rattle.pana_calls.specs.declared.call.Sighting.TheVariants.{Found, Missing}
use Rattle.std.specs.Option.{option_or}
use Rattle.pana_event.specs.declared.rel.Rel.{Rel}
use Rattle.pana_event.specs.declared.rel.Rel.TheVariants as rels
use Rattle.pana_rel.specs.Board.{is_rel, relates}
use Rattle.pana_hall.specs.declared.relating.Relative.{Relative}
use Rattle.pana_hall.specs.declared.decision.Decision.{Decision}
use Rattle.pana_hall.specs.declared.decision.Decision.TheVariants.{Known, One, Both}
use Rattle.pana_hall.specs.Living.{sum_of}
use Rattle.pana_hall.specs.Status.{copy_relation, family_copies}
use Rattle.pana_hall.specs.Finding.{best, decision, elsewhere, first_or, found, found_again, found_new, heir_of, holds, holds_other, missing, others, relates_to}
use Rattle.pana_hall.specs.inner.Rows.{place_at, sum_in}
use Rattle.pana_hall.specs.inner.Relatives.{first_number, relative, relatives_of}
use Rattle.pana_hall.specs.inner.Finding.{again_in, best_in, heir_in, holders_in, holds_so, is_elsewhere, is_newer, is_other, is_unlike, knows_all, passes, source_of}
use Rattle.pana_hall.proofs.Lists.{each_filter, each_of, each_weaker, filter_filter, found_by}
use Rattle.pana_hall.proofs.Moves.{found_number}
use Rattle.pana_hall.proofs.{Places.living_found, Ready.place_spots}
use Rattle.pana_hall.proofs.Numbered.{LivesAmong, filter_rises, has_filter, numbers_of, passes_is}
use Rattle.pana_hall.proofs.Related.{any_alike, filter_alike, find_alike, find_filter, has_copy, own_found, related, relatives_are, there_is}

-- The best of some copies, by their numbers.

newer_is : (copies : List Copy) (c d : Copy) → LivesAmong copies c → LivesAmong copies d → is_newer copies c.known.copy d.known.copy ≡ relates_to rels.Newer c d
newer_is copies c d at there = passes_is _ copies c.known.copy c at ∙ passes_is (relates_to rels.Newer c) copies d.known.copy d there

pub best_is : (copies xs : List Copy) → AllByRecursion (LivesAmong copies) xs → best_in copies (map (λ c. c.known.copy) xs) ≡ option_map (λ c. c.known.copy) (best xs)
best_is copies xs each =
    find_alike (λ n. not (list_any (is_newer copies n) (map (λ c. c.known.copy) xs))) (λ c. not (list_any (relates_to rels.Newer c) xs)) (λ c. c.known.copy) xs
    (each_weaker (LivesAmong copies) _ xs (λ c at. ap not (any_alike (is_newer copies c.known.copy) (relates_to rels.Newer c) (λ d. d.known.copy) xs (each_weaker (LivesAmong copies) _ xs (λ d there. newer_is copies c d at there) each))) each)

-- so of those elsewhere
pub source_is : (journal : List Entry) (place : Place) (sum : List ℕ) (numbers : List ℕ) → IsAccepted 8 journal → numbers ≡ map (λ c. c.known.copy) (elsewhere (living journal) place sum)
    → best_in (living journal) numbers ≡ source_of (living journal) place sum
source_is journal place sum numbers accepted are =
    ap (best_in (living journal)) are ∙ best_is (living journal) (elsewhere (living journal) place sum) (each_filter (LivesAmong (living journal)) _ (living journal) (living_found 8 journal accepted))

-- The relatives of a living copy.

abbrev is_none_of : List Copy → Bool
is_none_of [] = true
is_none_of (c ∷ copies) = false

none_of : (p : Copy → Bool) (xs : List Copy) → not (list_any p xs) ≡ is_none_of (filter p xs)
none_of p [] = refl
none_of p (x ∷ xs) = grind (arith, nat_tests, none_of p xs)

map_or : (a b : Option Copy) → option_or (option_map (λ c. c.known.copy) a) (option_map (λ c. c.known.copy) b) ≡ option_map (λ c. c.known.copy) (option_or a b)
map_or None b = refl
map_or (Some a) b = refl

both_ways : (a b r h : Bool) → (a && ((b && r) && h)) ≡ (((a && b) && h) && (a && r))
both_ways true true true true = refl
both_ways true true true false = refl
both_ways true true false true = refl
both_ways true true false false = refl
both_ways true false r h = refl
both_ways false b r h = refl

-- A decision on a file that is found again, from its parts.

changed_by : ℕ → List ℕ → Bool → Option ℕ → Option ℕ → Bool → (ℕ → Option (List ℕ)) → Decision
changed_by n sum alone source unlike unknown sums =
    first_or (One (Edit n (Some sum))) (
    then_some (alone && is_some source) (One (Remove n None))
    ∷ option_and_then (λ other. then_some unknown (Both (Edit other (sums other)) (Edit n (Some sum)))) unlike
    ∷ then_some unknown (One (Note n sum))
    ∷ []
    )

again_by : ℕ → List ℕ → Option ℕ → Option ℕ → Bool → Decision → Decision
again_by n sum newer conflict held last =
    first_or last (
    option_map (λ other. One (Reconcile n other (Some sum))) newer
    ∷ option_map (λ other. One (Merge n other (Some sum))) conflict
    ∷ then_some held (Known (Some n))
    ∷ []
    )

-- the same by copies
abbrev last_of : ℕ → List ℕ → Option Copy → Bool → List (Option Decision)
last_of n sum unlike unknown = option_and_then (λ other. then_some unknown (Both (Edit other.known.copy (sum_of other)) (Edit n (Some sum)))) unlike ∷ then_some unknown (One (Note n sum)) ∷ []

abbrev changes_of : ℕ → List ℕ → Bool → Option Copy → Option Copy → Bool → List (Option Decision)
changes_of n sum alone source unlike unknown = option_and_then (λ other. then_some alone (One (Remove n None))) source ∷ last_of n sum unlike unknown

last_same : (n : ℕ) (sum : List ℕ) (unlike : Option Copy) (unknown : Bool) (sums : ℕ → Option (List ℕ)) → ((y : Copy) → unlike ≡ Some y → sums y.known.copy ≡ sum_of y)
    → changed_by n sum false None (option_map (λ c. c.known.copy) unlike) unknown sums ≡ first_or (One (Edit n (Some sum))) (last_of n sum unlike unknown)
unfolding changed_by
last_same n sum (Some y) true sums are = ap (λ s. Both (Edit y.known.copy s) (Edit n (Some sum))) (are y refl)
last_same n sum (Some y) false sums are = refl
last_same n sum None true sums are = refl
last_same n sum None false sums are = refl

changed_same : (n : ℕ) (sum : List ℕ) (alone : Bool) (source unlike : Option Copy) (unknown : Bool) (sums : ℕ → Option (List ℕ)) → ((y : Copy) → unlike ≡ Some y → sums y.known.copy ≡ sum_of y)
    → changed_by n sum alone (option_map (λ c. c.known.copy) source) (option_map (λ c. c.known.copy) unlike) unknown sums ≡ first_or (One (Edit n (Some sum))) (changes_of n sum alone source unlike unknown)
unfolding changed_by
changed_same n sum true (Some z) unlike unknown sums are = refl
changed_same n sum true None unlike unknown sums are = last_same n sum unlike unknown sums are
changed_same n sum false (Some z) unlike unknown sums are = last_same n sum unlike unknown sums are
changed_same n sum false None unlike unknown sums are = last_same n sum unlike unknown sums are

again_same : (n : ℕ) (sum : List ℕ) (newer conflict : Option Copy) (held : Bool) (last : Decision) (later : List (Option Decision))
    → again_by n sum (option_map (λ c. c.known.copy) newer) (option_map (λ c. c.known.copy) conflict) held (first_or last later)
    ≡ first_or last (option_map (λ other. One (Reconcile n other.known.copy (Some sum))) newer ∷ option_map (λ other. One (Merge n other.known.copy (Some sum))) conflict ∷ then_some held (Known (Some n)) ∷ later)
unfolding again_by
again_same n sum (Some y) conflict held last later = refl
again_same n sum None (Some y) held last later = refl
again_same n sum None None true last later = refl
again_same n sum None None false last later = refl

again_parts : (copies : List Copy) (sum : List ℕ) (n : ℕ) (relatives : List Relative) (source : Option ℕ)
    → again_in copies sum n relatives source
    ≡ again_by n sum (best_in copies (holders_in copies rels.Newer sum n relatives)) (best_in copies (holders_in copies rels.Conflict sum n relatives)) (passes (holds sum) copies n)
    (changed_by n sum (not (list_any (is_other n) relatives)) source (first_number (is_unlike copies sum n) relatives) (is_none (sum_in copies n)) (sum_in copies))
unfolding again_by changed_by
again_parts copies sum n relatives source = refl

module _ (journal : List Entry) (n : ℕ) (x : Copy) (accepted : IsAccepted 8 journal) (at : copy_in (living journal) n ≡ Some x) where
  abbrev own : List Copy
  own = family_copies (living journal) x

  abbrev of_number : Copy → Relative
  of_number c = relative (living journal) n c.known.copy

  abbrev is_apart : Copy → Bool
  is_apart c = not (c.known.copy == x.known.copy)

  number : x.known.copy ≡ n
  number = found_number (living journal) n x at

  -- the others of its family
  others_are : filter is_apart own ≡ others (living journal) x
  others_are = filter_filter is_apart (is_of x.family) (living journal)

  other_is : (y : Copy) → is_other n (of_number y) ≡ is_apart y
  other_is y = ap (λ k. not (y.known.copy == k)) (sym number)

  -- those that relate so and hold the sum
  holds_alike : (rel : Rel) (sum : List ℕ) (y : Copy) → LivesAmong (living journal) y → holds_so (living journal) rel sum n (of_number y) ≡ (relates (λ c. c.known.copy) copy_relation rel x y && holds sum y)
  holds_alike rel sum y there = ap₂ (λ (a b : Bool). a && b) (related journal n x accepted at rel y there) (passes_is (holds sum) (living journal) y.known.copy y there)

  holders_same : (rel : Rel) (sum : List ℕ) → filter (λ y. relates (λ c. c.known.copy) copy_relation rel x y && holds sum y) own ≡ filter (relates_to rel x) (filter (holds sum) (others (living journal) x))
  holders_same rel sum =
      let of : Copy → Bool = is_of x.family in
      let so : Copy → Bool = λ y. relates (λ c. c.known.copy) copy_relation rel x y && holds sum y in
      let among : Copy → Bool = λ y. of y && is_apart y in
      filter_filter so of (living journal)
      ∙ filter_agree (λ y. of y && so y) (λ y. (among y && holds sum y) && relates_to rel x y) (λ y. both_ways (of y) (is_apart y) (is_rel (copy_relation y x) rel) (holds sum y)) (living journal)
      ∙ sym (filter_filter (relates_to rel x) (λ y. among y && holds sum y) (living journal))
      ∙ ap (filter (relates_to rel x)) (sym (filter_filter (holds sum) among (living journal)))

  holders_are : (rel : Rel) (sum : List ℕ) → holders_in (living journal) rel sum n (relatives_of journal n) ≡ map (λ c. c.known.copy) (filter (relates_to rel x) (filter (holds sum) (others (living journal) x)))
  holders_are rel sum =
      let so : Copy → Bool = λ y. relates (λ c. c.known.copy) copy_relation rel x y && holds sum y in
      ap (holders_in (living journal) rel sum n) (relatives_are journal n x accepted at)
      ∙ ap (map (λ it. it.copy)) (filter_alike (holds_so (living journal) rel sum n) so of_number own (each_weaker _ _ own (λ y there. holds_alike rel sum y there.0) (own_found journal x.family accepted)))
      ∙ map-map (λ (it : Relative). it.copy) of_number (filter so own)
      ∙ ap (map (λ c. c.known.copy)) (holders_same rel sum)

  pub best_holder_is : (rel : Rel) (sum : List ℕ) → best_in (living journal) (holders_in (living journal) rel sum n (relatives_of journal n)) ≡ option_map (λ c. c.known.copy) (best (filter (relates_to rel x) (filter (holds sum) (others (living journal) x))))
  best_holder_is rel sum =
      ap (best_in (living journal)) (holders_are rel sum)
      ∙ best_is (living journal) _ (each_filter (LivesAmong (living journal)) (relates_to rel x) _ (each_filter (LivesAmong (living journal)) (holds sum) _ (each_filter (LivesAmong (living journal)) _ (living journal) (living_found 8 journal accepted))))

  -- the first of the others that passes a test
  first_is : (test : Relative → Bool) (q : Copy → Bool) → ((y : Copy) → LivesAmong (living journal) y → is_of x.family y ≡ true → test (of_number y) ≡ (q y && is_apart y))
      → first_number test (relatives_of journal n) ≡ option_map (λ c. c.known.copy) (find q (others (living journal) x))
  first_is test q alike =
      ap (first_number test) (relatives_are journal n x accepted at)
      ∙ ap (option_map (λ it. it.copy)) (find_alike test (λ y. q y && is_apart y) of_number own (each_weaker _ _ own (λ y there. alike y there.0 there.1) (own_found journal x.family accepted)))
      ∙ found_copy (find (λ y. q y && is_apart y) own)
      ∙ ap (option_map (λ c. c.known.copy)) (sym (find_filter q is_apart own) ∙ ap (find q) others_are)
    where
      found_copy : (o : Option Copy) → option_map (λ it. it.copy) (option_map of_number o) ≡ option_map (λ c. c.known.copy) o
      found_copy None = refl
      found_copy (Some c) = refl

  unlike_is : (sum : List ℕ) → first_number (is_unlike (living journal) sum n) (relatives_of journal n)
      ≡ option_map (λ c. c.known.copy) (find (λ other. relates_to rels.Equal x other && holds_other sum other) (others (living journal) x))
  unlike_is sum =
      first_is (is_unlike (living journal) sum n) (λ other. relates_to rels.Equal x other && holds_other sum other)
      (λ y there of. ap₂ (λ (a b : Bool). a && b) (related journal n x accepted at rels.Equal y there) (passes_is (holds_other sum) (living journal) y.known.copy y there)
      ∙ turned (is_of x.family y) (is_apart y) (is_rel (copy_relation y x) rels.Equal) (holds_other sum y) of)
    where
      turned : (a b r h : Bool) → a ≡ true → ((b && r) && h) ≡ (((a && r) && h) && b)
      turned a b r h e = grind (arith, nat_tests)

  -- the heir
  pub heir_is : heir_in n (relatives_of journal n) ≡ heir_of (living journal) x
  heir_is =
      ap₂ (λ (a b : Option ℕ). option_or a b)
      (first_is (knows_all n) (λ other. relates_to rels.Newer x other || relates_to rels.Equal x other)
      (λ y there of. ap₂ (λ (a b : Bool). a || b) (related journal n x accepted at rels.Newer y there) (related journal n x accepted at rels.Equal y there)
      ∙ turned (is_of x.family y) (is_apart y) (is_rel (copy_relation y x) rels.Newer) (is_rel (copy_relation y x) rels.Equal) of))
      (first_is (is_other n) (λ other. true) (λ y there of. other_is y))
      ∙ map_or _ _
    where
      turned : (a b r s : Bool) → a ≡ true → ((b && r) || (b && s)) ≡ (((a && r) || (a && s)) && b)
      turned a b r s e = grind (arith, nat_tests)

  -- whether it is alone
  alone_is : not (list_any (is_other n) (relatives_of journal n)) ≡ is_none_of (others (living journal) x)
  alone_is =
      ap (λ l. not (list_any (is_other n) l)) (relatives_are journal n x accepted at)
      ∙ ap not (any_alike (is_other n) is_apart of_number own (each_of _ other_is own))
      ∙ none_of is_apart own ∙ ap is_none_of others_are

  -- what is done where its file holds the sum
  pub again_is : (sum : List ℕ) → again_in (living journal) sum n (relatives_of journal n) (source_of (living journal) x.place sum) ≡ found_again (living journal) sum x
  again_is sum =
      let copies = living journal in
      let with : List Copy = filter (holds sum) (others copies x) in
      let newer : Option Copy = best (filter (relates_to rels.Newer x) with) in
      let conflict : Option Copy = best (filter (relates_to rels.Conflict x) with) in
      let source : Option Copy = best (elsewhere copies x.place sum) in
      let unlike : Option Copy = find (λ other. relates_to rels.Equal x other && holds_other sum other) (others copies x) in
      let alone : Bool = is_none_of (others copies x) in
      let unknown : Bool = is_none (sum_of x) in
      let sums : (y : Copy) → unlike ≡ Some y → sum_in copies y.known.copy ≡ sum_of y =
      λ y e. ap (option_and_then sum_of) (found_by _ (LivesAmong copies) (others copies x) y (each_filter (LivesAmong copies) _ copies (living_found 8 journal accepted)) e).1 in
      let changed : changed_by n sum (not (list_any (is_other n) (relatives_of journal n))) (source_of copies x.place sum) (first_number (is_unlike copies sum n) (relatives_of journal n)) (is_none (sum_in copies n)) (sum_in copies)
      ≡ changed_by x.known.copy sum alone (option_map (λ c. c.known.copy) source) (option_map (λ c. c.known.copy) unlike) unknown (sum_in copies) =
      cc (alone_is, unlike_is sum, number) in
      again_parts copies sum n (relatives_of journal n) (source_of copies x.place sum)
      ∙ ap (again_by n sum _ _ _) (changed ∙ changed_same x.known.copy sum alone source unlike unknown (sum_in copies) sums)
      ∙ again_all newer conflict (first_or (One (Edit x.known.copy (Some sum))) (changes_of x.known.copy sum alone source unlike unknown)) (best_holder_is rels.Newer sum) (best_holder_is rels.Conflict sum)
      ∙ again_same x.known.copy sum newer conflict (holds sum x) (One (Edit x.known.copy (Some sum))) (changes_of x.known.copy sum alone source unlike unknown)
    where
      again_all : (newer conflict : Option Copy) (last : Decision) {r m : Option ℕ} → r ≡ option_map (λ c. c.known.copy) newer → m ≡ option_map (λ c. c.known.copy) conflict
          → again_by n sum r m (passes (holds sum) (living journal) n) last ≡ again_by x.known.copy sum (option_map (λ c. c.known.copy) newer) (option_map (λ c. c.known.copy) conflict) (holds sum x) last
      again_all newer conflict last a b = cc (passes_is (holds sum) (living journal) n x at, number)

-- The parts of a decision, as they are found by number.

-- where a living copy is kept
place_is : (journal : List Entry) (table : Table) (n : ℕ) (x : Copy) → AreSpots journal table → copy_in (living journal) n ≡ Some x → place_at table n ≡ x.place
place_is journal table n x spots at = ap (λ o. unwrap_or o (record { device = []; path = [] })) (place_spots journal table spots n ∙ ap (option_map (λ copy. copy.place)) at)

pub found_again_is : (journal : List Entry) (table : Table) (n : ℕ) (sum : List ℕ) (relatives : List Relative) (made : Decision) → IsAccepted 8 journal → AreSpots journal table → IsSome (copy_in (living journal) n) → relatives ≡ relatives_of journal n
    → made ≡ again_in (living journal) sum n relatives (source_of (living journal) (place_at table n) sum) → option_map (found_again (living journal) sum) (copy_in (living journal) n) ≡ Some made
found_again_is journal table n sum relatives made accepted spots lives are is =
    let x = has_copy _ lives in
    ap (option_map (found_again (living journal) sum)) x.1
    ∙ ap (λ d. Some d) (sym (is ∙ ap (λ r. again_in (living journal) sum n r (source_of (living journal) (place_at table n) sum)) are
    ∙ ap (λ p. again_in (living journal) sum n (relatives_of journal n) (source_of (living journal) p sum)) (place_is journal table n x.0 spots x.1)
    ∙ again_is journal n x.0 accepted x.1 sum))

pub heir_told : (journal : List Entry) (n : ℕ) (relatives : List Relative) (heir : Option ℕ) → IsAccepted 8 journal → IsSome (copy_in (living journal) n) → relatives ≡ relatives_of journal n
    → heir ≡ heir_in n relatives → option_map (heir_of (living journal)) (copy_in (living journal) n) ≡ Some heir
heir_told journal n relatives heir accepted lives are is =
    let x = has_copy _ lives in
    ap (option_map (heir_of (living journal))) x.1 ∙ ap (λ h. Some h) (sym (is ∙ ap (heir_in n) are ∙ heir_is journal n x.0 accepted x.1))

-- A sighting at a place.

pub decided_again : (journal : List Entry) (table : Table) (place : Place) (sum : List ℕ) (there : Option ℕ) (n : ℕ) (sighting : Sighting) (made : Decision) → IsAccepted 8 journal → AreSpots journal table → IsThere table place there
    → there ≡ Some n → sighting ≡ Found place sum → option_map (found_again (living journal) sum) (copy_in (living journal) n) ≡ Some made → made ≡ decision (living journal) sighting
unfolding found
decided_again journal table place sum there n sighting made accepted spots is_there at is told =
    let own = there_is journal table place there accepted spots is_there ∙ ap (option_and_then (copy_in (living journal))) at in
    sym (ap (decision (living journal)) is ∙ ap (λ o. unwrap_or (option_map (found_again (living journal) sum) o) (found_new (living journal) place sum)) own
    ∙ ap (λ o. unwrap_or o (found_new (living journal) place sum)) told)

pub decided_new : (journal : List Entry) (table : Table) (place : Place) (sum : List ℕ) (there : Option ℕ) (sighting : Sighting) (made : Decision) → IsAccepted 8 journal → AreSpots journal table → IsThere table place there
    → there ≡ None → sighting ≡ Found place sum → made ≡ found_new (living journal) place sum → made ≡ decision (living journal) sighting
unfolding found
decided_new journal table place sum there sighting made accepted spots is_there at is told =
    let own = there_is journal table place there accepted spots is_there ∙ ap (option_and_then (copy_in (living journal))) at in
    told ∙ sym (ap (decision (living journal)) is ∙ ap (λ o. unwrap_or (option_map (found_again (living journal) sum) o) (found_new (living journal) place sum)) own)

pub decided_gone : (journal : List Entry) (table : Table) (place : Place) (there : Option ℕ) (n : ℕ) (sighting : Sighting) (heir : Option ℕ) → IsAccepted 8 journal → AreSpots journal table → IsThere table place there
    → there ≡ Some n → sighting ≡ Missing place → option_map (heir_of (living journal)) (copy_in (living journal) n) ≡ Some heir → One (Remove n heir) ≡ decision (living journal) sighting
unfolding missing
decided_gone journal table place there n sighting heir accepted spots is_there at is told =
    let own = there_is journal table place there accepted spots is_there ∙ ap (option_and_then (copy_in (living journal))) at in
    sym (ap (decision (living journal)) is ∙ ap (λ o. unwrap_or (option_map (λ copy. One (Remove copy.known.copy (heir_of (living journal) copy))) o) (Known None)) own ∙ by_copy (copy_in (living journal) n) refl told)
  where
    by_copy : (o : Option Copy) → copy_in (living journal) n ≡ o → option_map (heir_of (living journal)) o ≡ Some heir
        → unwrap_or (option_map (λ copy. One (Remove copy.known.copy (heir_of (living journal) copy))) o) (Known None) ≡ One (Remove n heir)
    by_copy None e h = absurd (cc)
    by_copy (Some x) e h = cc (found_number (living journal) n x e)

pub decided_none : (journal : List Entry) (table : Table) (place : Place) (there : Option ℕ) (sighting : Sighting) → IsAccepted 8 journal → AreSpots journal table → IsThere table place there
    → there ≡ None → sighting ≡ Missing place → Known None ≡ decision (living journal) sighting
unfolding missing
decided_none journal table place there sighting accepted spots is_there at is =
    let own = there_is journal table place there accepted spots is_there ∙ ap (option_and_then (copy_in (living journal))) at in
    sym (ap (decision (living journal)) is ∙ ap (λ o. unwrap_or (option_map (λ copy. One (Remove copy.known.copy (heir_of (living journal) copy))) o) (Known None)) own)

-- The copies elsewhere, from the numbers of those with the path.

and_less : (a b : Bool) → (a ≡ true → b ≡ true) → (a && b) ≡ a
and_less true b f = f refl
and_less false b f = refl

module _ (journal : List Entry) (table : Table) (place : Place) (sum : List ℕ) (numbers : List ℕ) (accepted : IsAccepted 8 journal) (spots : AreSpots journal table)
    (with_path : (n : ℕ) → (list_any (λ m. m == n) numbers ≡ true) ↔ tables.HasPath table place.path n) where
  abbrev test : ℕ → Bool
  test = passes (is_elsewhere place sum) (living journal)

  -- each copy elsewhere is among them
  same_path : (x : Copy) → is_elsewhere place sum x ≡ true → x.place.path ≡ place.path
  same_path x e = grind (arith, nat_tests, bytes_eq-Decides)

  passing_among : (n : ℕ) → (test n && has numbers n) ≡ test n
  passing_among n = by_copy (copy_in (living journal) n) refl
    where
      by_copy : (o : Option Copy) → copy_in (living journal) n ≡ o → (unwrap_or (option_map (is_elsewhere place sum) o) false && has numbers n) ≡ unwrap_or (option_map (is_elsewhere place sum) o) false
      by_copy None at = refl
      by_copy (Some x) at =
          and_less (is_elsewhere place sum x) (has numbers n) (λ e. (with_path n).1 (x.place, place_spots journal table spots n ∙ ap (option_map (λ copy. copy.place)) at, same_path x e))

  pub elsewhere_is : tables.AreRising numbers → filter test numbers ≡ map (λ c. c.known.copy) (elsewhere (living journal) place sum)
  elsewhere_is rises =
      numbers_of journal accepted (is_elsewhere place sum) (filter test numbers) (filter_rises test numbers rises)
      (λ n. has_filter test numbers n ∙ passing_among n)
