-- How the copies of a family relate to one of them, by their numbers and by what they know.
use Rattle.pana_hall.proofs.Words.{◌≡◌, ℕ, Bool, true, false, cond, not, ◌&&◌, List, [], ◌∷◌, map, filter, length, find, count_by, Option, Some, None, IsSome, option_map, unwrap_or, AllByRecursion}
use Rattle.pana_hall.proofs.Words.{zero, suc, ◌+◌, ◌-◌, ◌<◌, ◌≤◌, ◌++◌, nat_le, take, take_all, option_and_then, option_to_list, filter-append, map-append, AreRising, eqb-true}
use Rattle.pana_hall.proofs.Words.{list_any, refl, sym, ap, ◌∙◌, subst, arith, nat_tests, map-map, length-map, length-filter, Place, Table, kept, Entry, families, Copy, copy_in, living, is_of, first}
use Rattle.pana_hall.proofs.Words.{unknown, other_family, IsAccepted, KeptRows, family_of, AreSpots, copy_rows, sets_at, spot_of}
use Rattle.pana_event.specs.declared.rel.Rel.{Rel}
use Rattle.pana_event.specs.declared.rel.Rel.TheVariants as rels
use Rattle.pana_rel.specs.Board.{newest_of, relates}
use Rattle.pana_family.specs.Holders.{is_copy}
use Rattle.pana_family.specs.Table as by_table
use Rattle.pana_family.specs.Board.{board_newest, known_relation, number_of as board_number}
use Rattle.pana_family.proofs.Members.{any_from, any_some, from_both, in_filter, to_filter}
use Rattle.pana_hall.proofs.Words.{In, Known, all_known, ap₂, eq-eqb, has, inl, inr, sets_of, ◌==◌}
use Rattle.pana_family.proofs.BySets.{copy_numbers}
use Rattle.pana_hall.specs.declared.relating.Relative.{Relative}
use Rattle.pana_calls.specs.declared.standing.CopyState.{CopyState}
use Rattle.pana_calls.specs.declared.standing.CopyState.TheVariants.{Newest, Obsolete, Conflict}
use Rattle.std.proofs.lemmas.Bool.{le-leb}
use Rattle.std.proofs.lemmas.List.{take-append-le}
use Rattle.pana_rel.specs.declared.counts.Counts.{Counts}
use Rattle.pana_hall.specs.{Living.sum_of, inner.Rows.sum_in}
use Rattle.pana_calls.specs.declared.standing.{CopyStanding.CopyStanding, PlacedCopy.PlacedCopy, StatusRow.StatusRow}
use Rattle.pana_hall.specs.Status.{is_asked, is_newest, standing_of, state_of, status_rows, copy_relation, counts_among, family_copies, is_listed, placed, state_among, status_row, with_of}
use Rattle.pana_hall.specs.inner.Relatives.{counts_in, first_number, newest_with, numbers_with, placed_at, relates_so, relative, relatives_of, replaces, row_in, with_in}
use Rattle.pana_hall.proofs.Lists.{each_filter, each_map, each_passes, each_two, each_weaker, each_of, filter_all, filter_twice, found_by}
use Rattle.pana_hall.proofs.Shown.{upto, upto_more, upto_none}
use Rattle.pana_hall.proofs.Words.{PlaceTaken, IsThere, same_place}
use Rattle.pana_hall.proofs.{Answered.taken_is, Answered.stands_of, Moves.found_number, Places.living_found, Ready.place_spots, Ready.family_of as family_of_copy, Sound.accepted_is_sound, Stood.copies_sets}

-- Lists of which one is made of the other, item by item.

pub filter_alike : {X Y : Type 0} (p : Y → Bool) (q : X → Bool) (f : X → Y) (xs : List X) → AllByRecursion (λ x. p (f x) ≡ q x) xs → filter p (map f xs) ≡ map f (filter q xs)
filter_alike p q f [] alike = refl
filter_alike p q f (x ∷ xs) alike = grind (arith, nat_tests, filter_alike p q f xs alike.1)

pub count_alike : {X Y : Type 0} (p : Y → Bool) (q : X → Bool) (f : X → Y) (xs : List X) → AllByRecursion (λ x. p (f x) ≡ q x) xs → count_by p (map f xs) ≡ count_by q xs
count_alike p q f xs alike = sym (length-filter p (map f xs)) ∙ ap length (filter_alike p q f xs alike) ∙ length-map (filter q xs) f ∙ length-filter q xs

pub any_alike : {X Y : Type 0} (p : Y → Bool) (q : X → Bool) (f : X → Y) (xs : List X) → AllByRecursion (λ x. p (f x) ≡ q x) xs → list_any p (map f xs) ≡ list_any q xs
any_alike p q f [] alike = refl
any_alike p q f (x ∷ xs) alike = grind (arith, nat_tests, any_alike p q f xs alike.1)

pub find_alike : {X Y : Type 0} (p : Y → Bool) (q : X → Bool) (f : X → Y) (xs : List X) → AllByRecursion (λ x. p (f x) ≡ q x) xs → find p (map f xs) ≡ option_map f (find q xs)
find_alike p q f [] alike = refl
find_alike p q f (x ∷ xs) alike = grind (arith, nat_tests, find_alike p q f xs alike.1)

pub find_filter : {X : Type 0} (p q : X → Bool) (xs : List X) → find p (filter q xs) ≡ find (λ x. p x && q x) xs
find_filter p q [] = refl
find_filter p q (x ∷ xs) = grind (arith, nat_tests, find_filter p q xs)

-- Members.

pub each_in : {X : Type 0} (P : X → Type 0) (xs : List X) (x : X) → AllByRecursion P xs → In x xs → P x
each_in P [] x each i = absurd i
each_in P (y ∷ xs) x each i = elim i [ inl same ↦ subst P (sym same) each.0 | inr j ↦ each_in P xs x each.1 j ]

pub each_from : {X : Type 0} (P : X → Type 0) (xs : List X) → ((x : X) → In x xs → P x) → AllByRecursion P xs
each_from P [] all = tt
each_from P (x ∷ xs) all = (all x (inl refl), each_from P xs (λ y i. all y (inr i)))

-- A living copy and its family.

-- how a copy with these counts stands
abbrev pub standing_by : ℕ → ℕ → Counts → Option (List ℕ) → CopyStanding
standing_by copy family counts sum = record {
  copy = copy;
  family = family;
  newer = counts.above;
  older = counts.below;
  equal = counts.equal;
  conflict = counts.conflict;
  state = state_of counts;
  sum = sum;
}

-- the copies of a family, each found by its number
pub own_found : (journal : List Entry) (family : ℕ) → IsAccepted 8 journal
    → AllByRecursion (λ c. (copy_in (living journal) c.known.copy ≡ Some c) × (is_of family c ≡ true)) (filter (is_of family) (living journal))
own_found journal family accepted =
    each_two (λ c. copy_in (living journal) c.known.copy ≡ Some c) (λ c. is_of family c ≡ true) _ (filter (is_of family) (living journal)) (λ c found of. (found, of))
    (each_filter _ (is_of family) (living journal) (living_found 8 journal accepted)) (each_passes (is_of family) (living journal))

-- the numbers that a family keeps are those of its living copies
pub numbers_is : (journal : List Entry) (n : ℕ) (it : KeptRows) → IsAccepted 8 journal → it ≡ family_of journal (families journal n) → map (λ row. row.copy) (copy_rows it.rows) ≡ numbers_with journal n
numbers_is journal n it accepted is =
    let family = families journal n in
    copy_numbers it.rows (sets_at 0 family journal) (stands_of journal family it accepted is).same
    ∙ ap (map (λ t. t.copy)) (copies_sets journal family accepted)
    ∙ map-map (λ t. t.copy) (λ c. c.known) (filter (is_of family) (living journal))

-- each of them may be compared with the copy
compared : (journal : List Entry) (n : ℕ) (x y : Copy) → copy_in (living journal) n ≡ Some x → copy_in (living journal) y.known.copy ≡ Some y → is_of x.family y ≡ true
    → first (unknown y.known.copy (living journal) ∷ unknown n (living journal) ∷ other_family y.known.copy n (living journal) ∷ []) ≡ None
compared journal n x y at there of = grind (arith, nat_tests)

pub all_compared : (journal : List Entry) (n : ℕ) → IsAccepted 8 journal → IsSome (copy_in (living journal) n)
    → AllByRecursion (λ other. first (unknown other (living journal) ∷ unknown n (living journal) ∷ other_family other n (living journal) ∷ []) ≡ None) (numbers_with journal n)
all_compared journal n accepted lives = with_copy (copy_in (living journal) n) refl lives
  where
    with_copy : (o : Option Copy) → copy_in (living journal) n ≡ o → IsSome o
        → AllByRecursion (λ other. first (unknown other (living journal) ∷ unknown n (living journal) ∷ other_family other n (living journal) ∷ []) ≡ None) (numbers_with journal n)
    with_copy None at some = absurd (cc)
    with_copy (Some x) at some =
        let own = family_of_copy journal n x (accepted_is_sound 8 journal accepted) at in
        each_map _ (λ c. c.known.copy) (filter (is_of (families journal n)) (living journal))
        (each_weaker _ _ (filter (is_of (families journal n)) (living journal)) (λ y there. compared journal n x y at there.0 (subst (λ f. is_of f y ≡ true) (sym own) there.1)) (own_found journal (families journal n) accepted))

module _ (journal : List Entry) (n : ℕ) (x : Copy) (accepted : IsAccepted 8 journal) (at : copy_in (living journal) n ≡ Some x) where
  abbrev own : List Copy
  own = family_copies (living journal) x

  -- its family is that of its number, so its relatives are made of the family's copies
  pub relatives_are : relatives_of journal n ≡ map (λ c. relative (living journal) n c.known.copy) own
  relatives_are =
      ap (λ f. relatives_in f) (sym (family_of_copy journal n x (accepted_is_sound 8 journal accepted) at))
      ∙ map-map (relative (living journal) n) (λ c. c.known.copy) own
    where
      relatives_in : ℕ → List Relative
      relatives_in f = map (relative (living journal) n) (map (λ c. c.known.copy) (filter (is_of f) (living journal)))

  -- a copy of the family relates by its number as it does
  pub related : (wanted : Rel) (y : Copy) → copy_in (living journal) y.known.copy ≡ Some y → relates_so wanted n (relative (living journal) n y.known.copy) ≡ relates (λ c. c.known.copy) copy_relation wanted x y
  related wanted y there = rw (there, at, found_number (living journal) n x at) refl

  all_related : (wanted : Rel) → AllByRecursion (λ y. relates_so wanted n (relative (living journal) n y.known.copy) ≡ relates (λ c. c.known.copy) copy_relation wanted x y) own
  all_related wanted = each_weaker _ _ own (λ y there. related wanted y there.0) (own_found journal x.family accepted)

  pub counts_are : counts_in (relatives_of journal n) n ≡ counts_among (living journal) x
  counts_are =
      let count : (wanted : Rel) → count_by (relates_so wanted n) (relatives_of journal n) ≡ count_by (relates (λ c. c.known.copy) copy_relation wanted x) own =
      λ wanted. ap (count_by (relates_so wanted n)) relatives_are ∙ count_alike (relates_so wanted n) _ (λ c. relative (living journal) n c.known.copy) own (all_related wanted) in
      cc (count rels.Newer, count rels.Older, count rels.Equal, count rels.Conflict)

  pub first_conflict_is : first_number (relates_so rels.Conflict n) (relatives_of journal n) ≡ option_map (λ c. c.known.copy) (with_of (living journal) x Conflict)
  first_conflict_is =
      ap (first_number (relates_so rels.Conflict n)) relatives_are
      ∙ ap (option_map (λ it. it.copy)) (find_alike (relates_so rels.Conflict n) _ (λ c. relative (living journal) n c.known.copy) own (all_related rels.Conflict))
      ∙ copies_found (with_of (living journal) x Conflict)
    where
      copies_found : (o : Option Copy) → option_map (λ it. it.copy) (option_map (λ c. relative (living journal) n c.known.copy) o) ≡ option_map (λ c. c.known.copy) o
      copies_found None = refl
      copies_found (Some c) = refl

copy_numbers_found : (journal : List Entry) (n : ℕ) (o : Option Copy) → option_map (λ it. it.copy) (option_map (λ c. relative (living journal) n c.known.copy) o) ≡ option_map (λ c. c.known.copy) o
copy_numbers_found journal n None = refl
copy_numbers_found journal n (Some c) = refl

-- the newest copies of a family, by their numbers
newest_are : (journal : List Entry) (family : ℕ) → IsAccepted 8 journal
    → board_newest (sets_of family (living journal))
    ≡ map (λ c. c.known.copy) (newest_of (λ c. c.known.copy) copy_relation (filter (is_of family) (living journal)))
unfolding board_newest
newest_are journal family accepted =
    let own = filter (is_of family) (living journal) in
    let newest : List Known → List Known = newest_of board_number known_relation in
    let sets = copies_sets journal family accepted in
    ap (λ l. map board_number (newest l)) (ap by_table.copies_of (sym sets) ∙ filter_twice (λ t. is_copy t.holder) (sets_at 0 family journal) ∙ sets)
    ∙ ap (map board_number) (filter_alike (λ t. not (list_any (relates board_number known_relation rels.Newer t) (all_known own))) (free own) (λ c. c.known) own (each_of _ (λ y. ap not (any_alike (relates board_number known_relation rels.Newer y.known) (relates (λ c. c.known.copy) copy_relation rels.Newer y) (λ c. c.known) own (each_of _ (λ z. refl) own))) own))
    ∙ map-map board_number (λ c. c.known) (filter (free own) own)
  where
    free : List Copy → Copy → Bool
    free own y = not (list_any (relates (λ c. c.known.copy) copy_relation rels.Newer y) own)

-- a copy is among those that pass a test where it passes, since no other has its number
among : (journal : List Entry) (free : Copy → Bool) (own : List Copy) (y : Copy) → AllByRecursion (λ c. copy_in (living journal) c.known.copy ≡ Some c) own → In y own → copy_in (living journal) y.known.copy ≡ Some y
    → has (map (λ c. c.known.copy) (filter free own)) y.known.copy ≡ free y
among journal free own y each i there =
    any_alike (λ n. n == y.known.copy) (λ c. c.known.copy == y.known.copy) (λ c. c.known.copy) (filter free own) (each_of _ (λ c. refl) (filter free own))
    ∙ from_both _ _
    (λ e.
    let z = any_some (λ c. c.known.copy == y.known.copy) (filter free own) e in
    let k = in_filter free own z.0 z.1 in
    let here = each_in (λ c. copy_in (living journal) c.known.copy ≡ Some c) own z.0 each k.0 in
    let number = eqb-true z.0.known.copy y.known.copy z.2 in
    let same : z.0 ≡ y = cc in
    ap free (sym same) ∙ k.1)
    (λ e. any_from (λ c. c.known.copy == y.known.copy) (filter free own) y (to_filter free own y i e) (eq-eqb y.known.copy y.known.copy refl))

-- the first of the family's newest copies that is newer, by numbers
pub replacement_is : (journal : List Entry) (n : ℕ) (x : Copy) → IsAccepted 8 journal → copy_in (living journal) n ≡ Some x
    → first_number (replaces (newest_with journal n) n) (relatives_of journal n) ≡ option_map (λ c. c.known.copy) (with_of (living journal) x Obsolete)
replacement_is journal n x accepted at =
    let own = family_copies (living journal) x in
    let newer : Copy → Copy → Bool = relates (λ c. c.known.copy) copy_relation rels.Newer in
    let free : Copy → Bool = λ y. not (list_any (newer y) own) in
    let each = each_filter _ (is_of x.family) (living journal) (living_found 8 journal accepted) in
    let newest : newest_with journal n ≡ map (λ c. c.known.copy) (filter free own) =
    ap (λ f. board_newest (sets_of f (living journal))) (sym (family_of_copy journal n x (accepted_is_sound 8 journal accepted) at)) ∙ newest_are journal x.family accepted in
    let alike : AllByRecursion (λ y. replaces (newest_with journal n) n (relative (living journal) n y.known.copy) ≡ (newer x y && free y)) own =
    each_from _ own (λ y i. let there = each_in _ own y each i in
    ap₂ (λ (a b : Bool). a && b) (related journal n x accepted at rels.Newer y there) (ap (λ l. has l y.known.copy) newest ∙ among journal free own y each i there)) in
    ap (first_number (replaces (newest_with journal n) n)) (relatives_are journal n x accepted at)
    ∙ ap (option_map (λ it. it.copy)) (find_alike (replaces (newest_with journal n) n) (λ y. newer x y && free y) (λ c. relative (living journal) n c.known.copy) own alike)
    ∙ copy_numbers_found journal n (find (λ y. newer x y && free y) own)
    ∙ ap (option_map (λ c. c.known.copy)) (sym (find_filter (newer x) free own))

-- the copy to replace it or to merge it with, by its number
pub with_is : (journal : List Entry) (n : ℕ) (x : Copy) → IsAccepted 8 journal → copy_in (living journal) n ≡ Some x → (state : CopyState)
    → with_in journal n (relatives_of journal n) state ≡ (unwrap_or (with_of (living journal) x state) x).known.copy
with_is journal n x accepted at = by_state
  where
    unwrapped : (o : Option Copy) → unwrap_or (option_map (λ c. c.known.copy) o) n ≡ (unwrap_or o x).known.copy
    unwrapped None = sym (found_number (living journal) n x at)
    unwrapped (Some c) = refl

    by_state : (state : CopyState) → with_in journal n (relatives_of journal n) state ≡ (unwrap_or (with_of (living journal) x state) x).known.copy
    by_state Obsolete = ap (λ o. unwrap_or o n) (replacement_is journal n x accepted at) ∙ unwrapped (with_of (living journal) x Obsolete)
    by_state Conflict = ap (λ o. unwrap_or o n) (first_conflict_is journal n x accepted at) ∙ unwrapped (with_of (living journal) x Conflict)
    by_state Newest = sym (found_number (living journal) n x at)

-- what is found in a list has what all of it have
pub found_or : {X : Type 0} (P : X → Type 0) (p : X → Bool) (xs : List X) (x : X) → AllByRecursion P xs → P x → P (unwrap_or (find p xs) x)
found_or P p xs x each own = elim (find p xs) as (λ o. find p xs ≡ o → P (unwrap_or o x)) [
  | None ↦ λ e. own
  | Some y ↦ λ e. (found_by p P xs y each e).1
] refl

-- whether a copy is the one that lives under its number
abbrev LivesIn : List Entry → Copy → Type 0
LivesIn journal c = copy_in (living journal) c.known.copy ≡ Some c

-- it lives
pub with_found : (journal : List Entry) (n : ℕ) (x : Copy) → IsAccepted 8 journal → copy_in (living journal) n ≡ Some x → (state : CopyState)
    → copy_in (living journal) (unwrap_or (with_of (living journal) x state) x).known.copy ≡ Some (unwrap_or (with_of (living journal) x state) x)
with_found journal n x accepted at = by_state
  where
    itself : LivesIn journal x
    itself = subst (λ k. copy_in (living journal) k ≡ Some x) (sym (found_number (living journal) n x at)) at

    each : AllByRecursion (LivesIn journal) (family_copies (living journal) x)
    each = each_filter (LivesIn journal) (is_of x.family) (living journal) (living_found 8 journal accepted)

    by_state : (state : CopyState) → LivesIn journal (unwrap_or (with_of (living journal) x state) x)
    by_state Obsolete = found_or (LivesIn journal) _ _ x (each_filter (LivesIn journal) _ (family_copies (living journal) x) each) itself
    by_state Conflict = found_or (LivesIn journal) _ _ x each itself
    by_state Newest = itself

-- where a living copy is kept
pub placed_is : (journal : List Entry) (copies : Table) (c : Copy) → AreSpots journal copies → copy_in (living journal) c.known.copy ≡ Some c → placed_at copies c.known.copy ≡ placed c
placed_is journal copies c spots there = rw (place_spots journal copies spots c.known.copy, there) refl

-- The rows of a status, number by number.

-- those up to a number
abbrev pub rows_to : List Copy → Option (List ℕ) → ℕ → ℕ → List StatusRow
rows_to copies device from n = map (status_row copies) (filter (λ c. nat_le from c.known.copy && is_listed copies device c) (upto n copies))

-- no row below the first number
rows_below : (q : Copy → Bool) (from n : ℕ) (copies : List Copy) → n + 1 ≡ from → filter (λ c. nat_le from c.known.copy && q c) (upto n copies) ≡ []
rows_below q from n [] next = refl
rows_below q from n (c ∷ copies) next = grind (arith, nat_tests, rows_below q from n copies next)

pub rows_none : (copies : List Copy) (device : Option (List ℕ)) (from n : ℕ) → AreRising (λ c. c.known.copy) 0 copies → n ≡ from - 1 → rows_to copies device from n ≡ []
rows_none copies device zero n rises is = ap (λ l. map (status_row copies) (filter (λ c. nat_le zero c.known.copy && is_listed copies device c) l)) (upto_none 0 n copies (omega arith) rises)
rows_none copies device (suc k) n rises is = ap (map (status_row copies)) (rows_below (is_listed copies device) (suc k) n copies (omega arith))

-- one number more adds its row
pub rows_more : (copies : List Copy) (device : Option (List ℕ)) (from n : ℕ) → AreRising (λ c. c.known.copy) 0 copies → from ≤ n + 1
    → rows_to copies device from (n + 1) ≡ rows_to copies device from n ++ option_to_list (row_in copies device (n + 1))
rows_more copies device from n rises within =
    let test : Copy → Bool = λ c. nat_le from c.known.copy && is_listed copies device c in
    ap (λ l. map (status_row copies) (filter test l)) (upto_more 0 n copies rises)
    ∙ ap (map (status_row copies)) (filter-append test (upto n copies) (option_to_list (copy_in copies (n + 1))))
    ∙ map-append (status_row copies) (filter test (upto n copies)) (filter test (option_to_list (copy_in copies (n + 1))))
    ∙ ap (λ l. rows_to copies device from n ++ l) (elim (copy_in copies (n + 1)) as (λ o. copy_in copies (n + 1) ≡ o
    → map (status_row copies) (filter test (option_to_list o)) ≡ option_to_list (option_and_then (λ c. cond (is_listed copies device c) (Some (status_row copies c)) None) o)) [
      | None ↦ λ e. refl
      | Some c ↦ λ e. one c (le-leb from c.known.copy (omega (arith, found_number copies (n + 1) c e)))
    ] refl)
  where
    one : (c : Copy) → nat_le from c.known.copy ≡ true
        → map (status_row copies) (filter (λ d. nat_le from d.known.copy && is_listed copies device d) (c ∷ []))
        ≡ option_to_list (cond (is_listed copies device c) (Some (status_row copies c)) None)
    one c e = grind (arith, nat_tests)

-- so where there is one, and where there is none
pub rows_push : (copies : List Copy) (device : Option (List ℕ)) (from n : ℕ) (rows : List StatusRow) (o : Option StatusRow) → AreRising (λ c. c.known.copy) 0 copies → from ≤ n + 1 → rows ≡ rows_to copies device from n
    → o ≡ row_in copies device (n + 1) → rows ++ option_to_list o ≡ rows_to copies device from (n + 1)
rows_push copies device from n rows o rises within are row = ap (λ l. l ++ option_to_list o) are ∙ ap (λ k. rows_to copies device from n ++ option_to_list k) row ∙ sym (rows_more copies device from n rises within)

-- all of them
pub rows_all : (copies : List Copy) (device : Option (List ℕ)) (from last n : ℕ) (rows : List StatusRow) → AllByRecursion (λ c. c.known.copy ≤ last) copies → last ≤ n → rows ≡ rows_to copies device from n
    → length rows < 100 → rows ≡ status_rows copies device from
unfolding status_rows
rows_all copies device from last n rows each within is few =
    let all : upto n copies ≡ copies = filter_all (λ c. nat_le c.known.copy n) copies (each_weaker (λ c. c.known.copy ≤ last) _ copies (λ c below. le-leb c.known.copy n (omega arith)) each) in
    let whole = map (status_row copies) (filter (λ c. nat_le from c.known.copy && is_listed copies device c) copies) in
    let same : rows ≡ whole = is ∙ ap (λ l. map (status_row copies) (filter (λ c. nat_le from c.known.copy && is_listed copies device c) l)) all in
    same ∙ sym (take_all 100 whole (omega (arith, ap length same)))

-- the copies up to a number are the first
upto_split : (low n : ℕ) (copies : List Copy) → AreRising (λ c. c.known.copy) low copies → copies ≡ upto n copies ++ filter (λ c. not (nat_le c.known.copy n)) copies
upto_split low n [] rises = refl
upto_split low n (c ∷ copies) rises = grind (arith, nat_tests, upto_split c.known.copy n copies rises.1, upto_none)

-- the first of them
pub rows_first : (copies : List Copy) (device : Option (List ℕ)) (from n : ℕ) (rows : List StatusRow) → AreRising (λ c. c.known.copy) 0 copies → rows ≡ rows_to copies device from n → length rows ≡ 100
    → rows ≡ status_rows copies device from
unfolding status_rows
rows_first copies device from n rows rises is full =
    let test : Copy → Bool = λ c. nat_le from c.known.copy && is_listed copies device c in
    let later = filter (λ c. not (nat_le c.known.copy n)) copies in
    let whole : map (status_row copies) (filter test copies) ≡ rows ++ map (status_row copies) (filter test later) =
    ap (λ l. map (status_row copies) (filter test l)) (upto_split 0 n copies rises)
    ∙ ap (map (status_row copies)) (filter-append test (upto n copies) later)
    ∙ map-append (status_row copies) (filter test (upto n copies)) (filter test later)
    ∙ ap (λ l. l ++ map (status_row copies) (filter test later)) (sym is) in
    sym (ap (take 100) whole ∙ take-append-le 100 rows (map (status_row copies) (filter test later)) (omega arith) ∙ take_all 100 rows (omega arith))

-- the rows up to a number, of which there are few enough for more
pub record RowsTo (copies : List Copy) (device : Option (List ℕ)) (from n : ℕ) (rows : List StatusRow) : Type 0 where
  pub rows_are : rows ≡ rows_to copies device from n
  pub few : length rows < 100

-- a copy that is looked up by its number lives, or no number is that of a living copy
pub has_copy : (o : Option Copy) → IsSome o → (x : Copy) × (o ≡ Some x)
has_copy None some = absurd (cc)
has_copy (Some x) some = (x, refl)

-- the row of a copy that isn't newest
pub row_is : (journal : List Entry) (n : ℕ) (x : Copy) (copies : Table) (state : CopyState) (row : StatusRow) → IsAccepted 8 journal → AreSpots journal copies → copy_in (living journal) n ≡ Some x
    → state ≡ state_of (counts_in (relatives_of journal n) n) → is_newest state ≡ false
    → row ≡ record { copy = n; place = (placed_at copies n).place; state = state; with = placed_at copies (with_in journal n (relatives_of journal n) state) }
    → Some row ≡ row_in (living journal) None n
unfolding is_listed status_row
row_is journal n x copies state row accepted spots at is later row_are =
    let number : x.known.copy ≡ n = found_number (living journal) n x at in
    let own : state ≡ state_among (living journal) x = is ∙ ap state_of (counts_are journal n x accepted at) in
    let there : copy_in (living journal) x.known.copy ≡ Some x = subst (λ k. copy_in (living journal) k ≡ Some x) (sym number) at in
    let here : placed_at copies n ≡ placed x = ap (placed_at copies) (sym number) ∙ placed_is journal copies x spots there in
    let with : placed_at copies (with_in journal n (relatives_of journal n) state) ≡ placed (unwrap_or (with_of (living journal) x (state_among (living journal) x)) x) =
    ap (placed_at copies) (with_is journal n x accepted at state) ∙ placed_is journal copies _ spots (with_found journal n x accepted at state)
    ∙ ap (λ s. placed (unwrap_or (with_of (living journal) x s) x)) own in
    let listed : is_newest (state_among (living journal) x) ≡ false = ap is_newest (sym own) ∙ later in
    ap (λ r. Some r) (row_are ∙ row_same n _ state _ x number (ap (λ p. p.place) here) own with)
    ∙ sym (ap (option_and_then (λ c. cond (is_listed (living journal) None c) (Some (status_row (living journal) c)) None)) at
    ∙ ap (λ b. cond (not b) (Some (status_row (living journal) x)) None) listed)
  where
    row_same : (n : ℕ) (place : Place) (state : CopyState) (with : PlacedCopy) (x : Copy) → x.known.copy ≡ n → place ≡ x.place → state ≡ state_among (living journal) x
        → with ≡ placed (unwrap_or (with_of (living journal) x (state_among (living journal) x)) x)
        → record { copy = n; place = place; state = state; with = with } ≡ status_row (living journal) x
    row_same n place state with x a b d e = cc

-- a copy that is newest has none
pub row_not : (journal : List Entry) (n : ℕ) (x : Copy) → IsAccepted 8 journal → copy_in (living journal) n ≡ Some x → is_newest (state_of (counts_in (relatives_of journal n) n)) ≡ true → None ≡ row_in (living journal) None n
unfolding is_listed
row_not journal n x accepted at newest =
    let own : is_newest (state_among (living journal) x) ≡ true = ap (λ k. is_newest (state_of k)) (sym (counts_are journal n x accepted at)) ∙ newest in
    sym (ap (option_and_then (λ c. cond (is_listed (living journal) None c) (Some (status_row (living journal) c)) None)) at
    ∙ ap (λ b. cond (not b) (Some (status_row (living journal) x)) None) own)

-- nor has one at a place that isn't asked for
pub row_asked : (journal : List Entry) (device : Option (List ℕ)) (n : ℕ) (x : Copy) → copy_in (living journal) n ≡ Some x
    → row_in (living journal) device n ≡ cond (is_asked device x.place) (row_in (living journal) None n) None
unfolding is_listed
row_asked journal device n x at = rw at (by_test (is_asked device x.place))
  where
    by_test : (b : Bool) → cond (b && not (is_newest (state_among (living journal) x))) (Some (status_row (living journal) x)) None
        ≡ cond b (cond (true && not (is_newest (state_among (living journal) x))) (Some (status_row (living journal) x)) None) None
    by_test true = refl
    by_test false = refl

-- how a living copy stands
pub standing_is : (journal : List Entry) (n : ℕ) (x : Copy) (standing : CopyStanding) → IsAccepted 8 journal → copy_in (living journal) n ≡ Some x → standing ≡ standing_by n (families journal n) (counts_in (relatives_of journal n) n) (sum_in (living journal) n)
    → option_map (standing_of (living journal)) (copy_in (living journal) n) ≡ Some standing
unfolding standing_of
standing_is journal n x standing accepted at is =
    ap (option_map (standing_of (living journal))) at
    ∙ ap (λ s. Some s) (sym (is ∙ ap (λ k. standing_by n (families journal n) k (sum_in (living journal) n)) (counts_are journal n x accepted at) ∙ ap (standing_by n (families journal n) (counts_among (living journal) x)) (ap (option_and_then sum_of) at) ∙ standing_same (found_number (living journal) n x at) (family_of_copy journal n x (accepted_is_sound 8 journal accepted) at)))
  where
    standing_same : x.known.copy ≡ n → x.family ≡ families journal n → standing_by n (families journal n) (counts_among (living journal) x) (sum_of x) ≡ standing_of (living journal) x
    standing_same a b = cc

-- the copy to replace it or to merge it with is kept
pub with_kept : (journal : List Entry) (n : ℕ) (x : Copy) (copies : Table) (state : CopyState) → IsAccepted 8 journal → AreSpots journal copies → copy_in (living journal) n ≡ Some x
    → IsSome (kept copies (with_in journal n (relatives_of journal n) state))
with_kept journal n x copies state accepted spots at =
    subst (λ k. IsSome (kept copies k)) (sym (with_is journal n x accepted at state))
    (subst IsSome (sym (spots (unwrap_or (with_of (living journal) x state) x).known.copy ∙ ap (option_map spot_of) (with_found journal n x accepted at state))) refl)

-- the copy that is kept at a place is the living one there
pub there_is : (journal : List Entry) (copies : Table) (place : Place) (found : Option ℕ) → IsAccepted 8 journal → AreSpots journal copies → IsThere copies place found
    → find (λ c. same_place c.place place) (living journal) ≡ option_and_then (copy_in (living journal)) found
there_is journal copies place found accepted spots there =
    elim (find (λ c. same_place c.place place) (living journal)) as (λ o. find (λ c. same_place c.place place) (living journal) ≡ o → o ≡ option_and_then (copy_in (living journal)) found) [
      | None ↦ λ e. no_number found (taken_is journal copies place found accepted spots there ∙ ap (option_map (λ c. PlaceTaken c.known.copy)) e)
      | Some y ↦ λ e. of_number y found (found_by _ (LivesIn journal) (living journal) y (living_found 8 journal accepted) e).1 (taken_is journal copies place found accepted spots there ∙ ap (option_map (λ c. PlaceTaken c.known.copy)) e)
    ] refl
  where
    no_number : (o : Option ℕ) → option_map PlaceTaken o ≡ None → None ≡ option_and_then (copy_in (living journal)) o
    no_number None e = refl
    no_number (Some n) e = absurd (cc)

    of_number : (y : Copy) (o : Option ℕ) → copy_in (living journal) y.known.copy ≡ Some y → option_map PlaceTaken o ≡ Some (PlaceTaken y.known.copy) → Some y ≡ option_and_then (copy_in (living journal)) o
    of_number y None at e = absurd (cc)
    of_number y (Some n) at e = let same : n ≡ y.known.copy = cc in sym (ap (copy_in (living journal)) same ∙ at)
