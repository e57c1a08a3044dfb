-- Causes and answers read off what a hall keeps.
use Rattle.pana_hall.proofs.Words.{◌≡◌, ℕ, ◌+◌, ◌<◌, ◌≤◌, Bool, true, false, cond, not, ◌&&◌, ◌||◌, ◌==◌, nat_le, List, [], ◌∷◌, ◌++◌, length, filter, reverse, find, count_by, Option, Some, None}
use Rattle.pana_hall.proofs.Words.{length-map, option_map, option_and_then, suc, nat_lt, slice_index_or, map, then_some, AllByRecursion, list_any, refl, sym, ap, ◌∙◌, subst, inl, inr, arith, or-true}
use Rattle.pana_hall.proofs.Words.{reverse-append, map-append, length-filter, map-map, Place, same_place, Spot, Table, kept, Entry, entry_at, has, copy_rows, divides, lives, PlaceTaken, FamilyFull}
use Rattle.pana_hall.proofs.Words.{TooDeep, OtherFamily, KeptRows, ends_in, last_place, families, Copy, copies_of, copy_in, living, known_to, pending, is_last, displaced, taken, taken_from, taken_since}
use Rattle.pana_hall.proofs.Words.{family_full, too_deep, pending_with, unknown, other_family, first, is_of, IsAccepted, layer, of_each, AreSpots, family_of, undone_of, families_of, rows_of}
use Rattle.pana_hall.proofs.Words.{stamp_rows, spot_of, IsThere, other_there, filter-append, nat_tests, set_in, StandsFor, all_listed, listed, ListedFamily, begun, family_row, sets_at, StampRow}
use Rattle.pana_hall.proofs.Words.{seed_row, eq-eqb, or_comm, cases_Bool, map-id, reverse-reverse, unknown_family, touch_in, of_known, is_some, ArePlaced, slice_get_within}
use Rattle.pana_copies.proofs.Kept.{one_place}
use Rattle.pana_hall.proofs.Lists.{is_last_push, each_map, each_of, each_unmap, each_weaker, any_push, is_last-push, entry_at_place, slice_get-each, found_by}
use Rattle.pana_hall.proofs.Sound.{accepted_is_sound, all_none, beside, living_fit, none_false}
use Rattle.pana_hall.proofs.Tables.{own_copy, ends_at, layer_now, each_has, pending_each}
use Rattle.pana_hall.proofs.Places.{same_place-itself, none_passes, living_found, back_at}
use Rattle.pana_hall.proofs.Stood.{count_rows, copies_sets, layers_stand, lives_rows, rows_living, stood_one}
use Rattle.pana_hall.proofs.Ready.{place_spots, at_spots, family_of as family_of_copy, given_back}
use Rattle.pana_hall.specs.{inner.Families.family_at}
use Rattle.pana_hall.proofs.{Listed.entry_within, Listed.found_at, Listed.found_entry, Moves.found_number, Knowns.IsCopyIn, Knowns.found_there, Knowns.set_known}
use Rattle.pana_family.specs.Table as table
use Rattle.pana_family.specs.{Board.board_newest, Board.board_split, Board.known_relation, Board.number_of as copy_number, Stands.AreSame, Table.Known, Table.copies_of as known_copies}
use Rattle.pana_family.proofs.{BySets.same_copies, Members.same_length}
use Rattle.pana_rel.specs.Board.{is_split, newest_of}
use Rattle.pana_family.specs.{Stamps.AreStamps, Stamps.stamps_in, Stamps.text_of}
use Rattle.pana_calls.specs.{declared.copy_stamp.CopyStamp.CopyStamp}
use Rattle.pana_hall.specs.{Stamps.AreStampsOf}
use Rattle.pana_calls.specs.{declared.family_row.FamilyRow.FamilyRow}
use Rattle.pana_hall.specs.StampRows as rows
use Rattle.pana_family.proofs.Changes.{touch_found}

-- Causes read off what a hall keeps.

-- what a test finds among the living copies is the number that the table gives, where the two agree
find_is : (p : Copy → Bool) (journal : List Entry) (found : Option ℕ) → IsAccepted 8 journal → ((x : Copy) → copy_in (living journal) x.known.copy ≡ Some x → p x ≡ true → found ≡ Some x.known.copy)
    → ((n : ℕ) → found ≡ Some n → (x : Copy) × (copy_in (living journal) n ≡ Some x) × (p x ≡ true)) → option_map PlaceTaken found ≡ option_map (λ x. PlaceTaken x.known.copy) (find p (living journal))
find_is p journal found accepted to from = grind (arith, nat_tests, found_by, living_found, none_passes)

pub taken_is : (journal : List Entry) (copies : Table) (place : Place) (found : Option ℕ) → IsAccepted 8 journal → AreSpots journal copies → IsThere copies place found
    → option_map PlaceTaken found ≡ taken place (living journal)
taken_is journal copies place found accepted spots there =
    find_is (λ copy. same_place copy.place place) journal found accepted
    (λ x at is. (there x.known.copy).1 (place_spots journal copies spots x.known.copy ∙ ap (option_map (λ copy. copy.place)) at ∙ ap (λ p. Some p) (one_place x.place place is)))
    (λ n e. let y = at_spots journal copies spots n place ((there n).0 e) in (y.0, y.1, ap (λ p. same_place p place) y.2 ∙ same_place-itself place))

pub taken_from_is : (journal : List Entry) (copies : Table) (back : Copy) (found : Option ℕ) → IsAccepted 8 journal → AreSpots journal copies → IsThere copies back.place found
    → other_there back.known.copy found ≡ taken_from back (living journal)
taken_from_is journal copies back found accepted spots there =
    let other : Option ℕ = option_and_then (λ n. cond (n == back.known.copy) None (Some n)) found in
    other_map found ∙ find_is (λ x. not (x.known.copy == back.known.copy) && same_place x.place back.place) journal other accepted
    (λ x at is.
    let both = parts (x.known.copy == back.known.copy) (same_place x.place back.place) is in
    let here = (there x.known.copy).1 (place_spots journal copies spots x.known.copy ∙ ap (option_map (λ copy. copy.place)) at ∙ ap (λ p. Some p) (one_place x.place back.place both.1)) in
    ap (option_and_then (λ n. cond (n == back.known.copy) None (Some n))) here ∙ ap (λ b. cond b None (Some x.known.copy)) both.0)
    (λ n e.
    let is = other_is found n e in
    let y = at_spots journal copies spots n back.place ((there n).0 is.0) in
    (y.0, y.1, rw (found_number (living journal) n y.0 y.1, is.1, y.2, same_place-itself back.place) refl))
  where
    parts : (a b : Bool) → (not a && b) ≡ true → (a ≡ false) × (b ≡ true)
    parts true b e = absurd (cc)
    parts false b e = (refl, e)

    other_map : (o : Option ℕ) → other_there back.known.copy o ≡ option_map PlaceTaken (option_and_then (λ n. cond (n == back.known.copy) None (Some n)) o)
    other_map None = refl
    other_map (Some n) = elim (n == back.known.copy) as (λ b. cond b None (Some (PlaceTaken n)) ≡ option_map PlaceTaken (cond b None (Some n))) [ true ↦ refl | false ↦ refl ]

    other_is : (o : Option ℕ) (n : ℕ) → option_and_then (λ k. cond (k == back.known.copy) None (Some k)) o ≡ Some n → (o ≡ Some n) × ((n == back.known.copy) ≡ false)
    other_is None n e = absurd (cc)
    other_is (Some k) n e = elim (k == back.known.copy) as (λ b. (k == back.known.copy) ≡ b → cond b None (Some k) ≡ Some n → (Some k ≡ Some n) × ((n == back.known.copy) ≡ false)) [
      | true ↦ λ t f. absurd (cc)
      | false ↦ λ t f. grind (arith, nat_tests)
    ] refl e

-- an entry is pending, or is the last
has-reverse : (xs : List ℕ) (n : ℕ) → has (reverse xs) n ≡ has xs n
has-reverse [] n = refl
has-reverse (x ∷ xs) n = ap (λ l. has l n) (reverse-append (x ∷ []) xs) ∙ any_push (λ k. k == n) (reverse xs) x ∙ or_comm (has (reverse xs) n) (x == n) ∙ ap (λ b. (x == n) || b) (has-reverse xs n)

pends_each : (journal : List Entry) (layers : ℕ → List Entry) (n : ℕ) (numbers : List ℕ) → list_any (λ u. u.entry == n) (of_each (undone_of journal) layers numbers) ≡ has numbers n
pends_each journal layers n [] = refl
pends_each journal layers n (m ∷ numbers) = ap (λ b. (m == n) || b) (pends_each journal (λ k. layers (k + 1)) n numbers)

pends_is : (journal : List Entry) (family n : ℕ) → list_any (λ u. u.entry == n) (family_of journal family).undo ≡ has (pending 8 family journal) n
pends_is journal family n = grind (arith, nat_tests, pends_each, has-reverse)

-- the last of a list that is written the other way round is its first
ends_each : (journal : List Entry) (layers : ℕ → List Entry) (n : ℕ) (numbers : List ℕ) → ends_in n (of_each (undone_of journal) layers numbers) ≡ is_last n (reverse numbers)
ends_each journal layers n [] = refl
ends_each journal layers n (m ∷ numbers) = sym (ap (is_last n) (reverse-append (m ∷ []) numbers) ∙ is_last-push (reverse numbers) m n)

lasts_is : (journal : List Entry) (family n : ℕ) → ends_in n (family_of journal family).undo ≡ is_last n (pending 8 family journal)
lasts_is journal family n = grind (arith, nat_tests, ends_each, reverse-reverse)

-- whether an entry is pending, or the last that is, as its family has it
pub kept_pends : (journal : List Entry) (n : ℕ) (it : KeptRows) → it ≡ family_of journal (families journal n) → list_any (λ u. u.entry == n) it.undo ≡ has (pending_with 8 n journal) n
kept_pends journal n it is = ap (λ (k : KeptRows). list_any (λ u. u.entry == n) k.undo) is ∙ pends_is journal (families journal n) n

pub kept_lasts : (journal : List Entry) (n : ℕ) (it : KeptRows) → it ≡ family_of journal (families journal n) → ends_in n it.undo ≡ is_last n (pending_with 8 n journal)
kept_lasts journal n it is = ap (λ (k : KeptRows). ends_in n k.undo) is ∙ lasts_is journal (families journal n) n

-- nothing is pending under a number without an entry
pub none_pending : (journal : List Entry) (n : ℕ) → IsAccepted 8 journal → entry_at journal n ≡ None → has (pending_with 8 n journal) n ≡ false
none_pending journal n accepted none =
    let sound = accepted_is_sound 8 journal accepted in
    let HasEntry : ℕ → Type 0 = λ k. (e : Entry) × (entry_at journal k ≡ Some e) in
    elim (cases_Bool (has (pending_with 8 n journal) n)) [
      | inr out ↦ out
      | inl in_it ↦
          let there = each_has HasEntry (pending_with 8 n journal) n (pending_each HasEntry 8 (families journal n) journal sound (each_weaker _ _ journal (λ e at. (e, at)) sound.found)) in_it in
          absurd (let at = there.1 in cc)
    ]

-- and none is the last
pub none_last : (numbers : List ℕ) (n : ℕ) → has numbers n ≡ false → is_last n numbers ≡ false
none_last numbers n out = grind (arith, nat_tests, is_last_push, any_push, or-true)

-- the family of a living copy has all the copies that it takes
pub full_is : (journal : List Entry) (n : ℕ) (copy : Copy) (it : KeptRows) → IsAccepted 8 journal → copy_in (living journal) n ≡ Some copy → it ≡ family_of journal (families journal n)
    → then_some (nat_le 256 (length (copy_rows it.rows))) FamilyFull ≡ family_full n (living journal)
full_is journal n copy it accepted found is =
    let long : length (copy_rows it.rows) ≡ count_by (is_of copy.family) (living journal) =
    ap (λ (k : KeptRows). length (copy_rows k.rows)) is ∙ count_rows journal (families journal n) accepted
    ∙ ap (λ f. length (filter (is_of f) (living journal))) (sym (family_of_copy journal n copy (accepted_is_sound 8 journal accepted) found)) ∙ length-filter (is_of copy.family) (living journal) in
    grind (arith, nat_tests)

-- whether a living copy's id can be divided
pub deep_is : (journal : List Entry) (n : ℕ) (copy : Copy) (it : KeptRows) → IsAccepted 8 journal → copy_in (living journal) n ≡ Some copy → it ≡ family_of journal (families journal n)
    → then_some (not (divides it.rows n)) TooDeep ≡ too_deep n journal (living journal)
deep_is journal n copy it accepted found is =
    let own = family_of_copy journal n copy (accepted_is_sound 8 journal accepted) found in
    cc (layer_now 8 (families journal n) journal)

-- what the last pending entry's copy gets back, and what stands against that
pub back_place : (journal : List Entry) (m c : ℕ) (it : KeptRows) (undone : Entry) → IsAccepted 8 journal → is_last m (pending_with 8 m journal) ≡ true
    → entry_at journal m ≡ Some undone → displaced undone.report ≡ Some c → it ≡ family_of journal (families journal m)
    → (back : Copy) × (last_place it.undo ≡ Some back.place) × (taken_since m journal ≡ taken_from back (living journal)) × (back.known.copy ≡ c)
back_place journal m c it undone accepted at_end at moves is =
    let sound = accepted_is_sound 8 journal accepted in
    let ends = ends_at 8 m journal sound at_end in
    let same : undone ≡ ends.last = let here = ends.at in cc in
    let back = back_at journal m c accepted ends (ap (λ (e : Entry). displaced e.report) (sym same) ∙ moves) in (
      back.copy,
      ap (λ (k : KeptRows). last_place k.undo) is ∙ given_back journal m sound ends ∙ ap (option_map (λ copy. copy.place)) back.is,
      ap (option_and_then (λ copy. taken_from copy (living journal))) back.is,
      back.number,
    )

-- a copy lives exactly where the family of its entry has it
pub has_living : (journal : List Entry) (list : List KeptRows) (positions : List ℕ) (n : ℕ) (it : KeptRows) → IsAccepted 8 journal → list ≡ families_of journal → ArePlaced journal positions
    → family_at list positions n ≡ Some it → lives it.rows n ≡ is_some (copy_in (living journal) n)
has_living journal list positions n it accepted listed placed at =
    let within = at_within list positions n it at in
    let is : Some it ≡ Some (family_of journal (families journal n)) = sym at ∙ found_at journal list positions n listed placed within.0 (subst (λ k. n ≤ k) placed.count within.1) in
    let same : it ≡ family_of journal (families journal n) = cc in
    ap (λ (k : KeptRows). lives k.rows n) same ∙ rows_living journal n accepted
  where
    at_within : (list : List KeptRows) (positions : List ℕ) (n : ℕ) (it : KeptRows) → family_at list positions n ≡ Some it → (0 < n) × (n ≤ length positions)
    at_within list positions n it at = grind (arith, nat_tests, slice_get_within)

-- and none does without an entry
pub none_living : (journal : List Entry) (list : List KeptRows) (positions : List ℕ) (n : ℕ) → IsAccepted 8 journal → list ≡ families_of journal → ArePlaced journal positions
    → family_at list positions n ≡ None → is_some (copy_in (living journal) n) ≡ false
none_living journal list positions n accepted listed placed none =
    elim (copy_in (living journal) n) as (λ o. copy_in (living journal) n ≡ o → is_some o ≡ false) [
      | None ↦ λ e. refl
      | Some copy ↦ λ e.
          let within = found_entry journal n copy accepted e in
          let odd : None ≡ Some (family_of journal (families journal n)) = sym none ∙ found_at journal list positions n listed placed within.0 within.1 in
          absurd (cc)
    ] refl

-- where it does, it is found
pub is_living : (journal : List Entry) (n : ℕ) → is_some (copy_in (living journal) n) ≡ true → (copy : Copy) × (copy_in (living journal) n ≡ Some copy)
is_living journal n lives = grind (arith, nat_tests)

-- two living copies are of two families where the numbers of these differ
pub apart_is : (journal : List Entry) (a b of other : ℕ) → IsAccepted 8 journal → is_some (copy_in (living journal) a) ≡ true → is_some (copy_in (living journal) b) ≡ true
    → of ≡ families journal a → other ≡ families journal b → then_some (not (of == other)) OtherFamily ≡ other_family a b (living journal)
apart_is journal a b of other accepted first second of_is other_is =
    let sound = accepted_is_sound 8 journal accepted in
    let x = is_living journal a first in
    let y = is_living journal b second in
    let x_family = family_of_copy journal a x.0 sound x.1 in
    let y_family = family_of_copy journal b y.0 sound y.1 in
    grind (arith, nat_tests, x.1, y.1)

-- a copy that is kept lives
pub found_spot : (journal : List Entry) (copies : Table) (n : ℕ) (spot : Spot) → AreSpots journal copies → kept copies n ≡ Some spot → (copy : Copy) × (copy_in (living journal) n ≡ Some copy) × (spot_of copy ≡ spot)
found_spot journal copies n spot spots at = grind (arith, nat_tests)

-- Answers read off the families.

-- a living copy is one of its family's table
row_of_copy : (journal : List Entry) (family n : ℕ) (copy : Copy) → IsAccepted 8 journal → copy_in (living journal) n ≡ Some copy → families journal n ≡ family → IsCopyIn (sets_at 0 family journal) n copy
row_of_copy journal family n copy accepted found of =
    let stood = layers_stand journal accepted 0 family in
    found_there (sets_at 0 family journal) (copies_of (layer 8 0 family journal)) n copy stood.copies (own_copy journal family n (accepted_is_sound 8 journal accepted) of ∙ found)

-- what it knows is read there, and the entry that touched it last
pub set_of_copy : (journal : List Entry) (family n : ℕ) (copy : Copy) → IsAccepted 8 journal → copy_in (living journal) n ≡ Some copy → families journal n ≡ family
    → set_in (sets_at 0 family journal) n ≡ known_to (living journal) n
set_of_copy journal family n copy accepted found of =
    set_known (sets_at 0 family journal) n copy (stood_one _ (layers_stand journal accepted 0 family)) (row_of_copy journal family n copy accepted found of) ∙ (rw found refl)

pub touch_of_copy : (journal : List Entry) (family n : ℕ) (copy : Copy) → IsAccepted 8 journal → copy_in (living journal) n ≡ Some copy → families journal n ≡ family
    → touch_in (sets_at 0 family journal) n ≡ copy.known.touch
touch_of_copy journal family n copy accepted found of =
    let stood = layers_stand journal accepted 0 family in
    let at = row_of_copy journal family n copy accepted found of in
    let row = of_known (rows_of (layer 8 0 family journal)) (sets_at 0 family journal) stood.stands.same copy.known at.there in
    grind (arith, nat_tests, touch_found)

-- two copies that may be compared live in one family
pub record Pair (journal : List Entry) (a b : ℕ) : Type 0 where
  pub first : Copy
  pub second : Copy
  pub found_first : copy_in (living journal) a ≡ Some first
  pub found_second : copy_in (living journal) b ≡ Some second
  pub of : families journal b ≡ families journal a

pub pair_at : (journal : List Entry) (a b : ℕ) → IsAccepted 8 journal → first (unknown a (living journal) ∷ unknown b (living journal) ∷ other_family a b (living journal) ∷ []) ≡ None → Pair journal a b
pair_at journal a b accepted free =
    let none = all_none (unknown a (living journal) ∷ unknown b (living journal) ∷ other_family a b (living journal) ∷ []) free in
    let y = beside journal a b (living_fit 8 journal (accepted_is_sound 8 journal accepted)) none.0 none.1.0 none.1.1.0 in
    grind (arith, nat_tests)

-- a family that has begun is its own
pub begun_at : (journal : List Entry) (family : ℕ) → IsAccepted 8 journal → first (unknown_family family journal ∷ []) ≡ None → (0 < family) × (family ≤ length journal) × (families journal family ≡ family)
begun_at journal family accepted free = grind (arith, nat_tests, accepted_is_sound, none_false, all_none, entry_within, entry_at_place, slice_get-each)

-- the families of a list, one after another
abbrev pub rows_of_families : List Copy → List ℕ → List FamilyRow
rows_of_families copies numbers = map (family_row copies) (filter (λ family. list_any (is_of family) copies) numbers)

pub rows_push : (copies : List Copy) (numbers : List ℕ) (n : ℕ) → rows_of_families copies (numbers ++ n ∷ []) ≡ rows_of_families copies numbers ++ cond (list_any (is_of n) copies) (family_row copies n ∷ []) []
rows_push copies numbers n = grind (arith, nat_tests, filter-append, map-append)

pub any_count : {X : Type 0} (p : X → Bool) (xs : List X) → list_any p xs ≡ nat_lt 0 (length (filter p xs))
any_count p [] = refl
any_count p (x ∷ xs) = grind (arith, nat_tests, any_count p xs)

-- a family has a living copy where it counts one
pub lives_is : (journal : List Entry) (family : ℕ) → IsAccepted 8 journal → nat_lt 0 (length (copy_rows (rows.rows_of (layer 8 0 family journal)))) ≡ list_any (is_of family) (living journal)
lives_is journal family accepted = grind (arith, nat_tests, count_rows, any_count)

-- each family of the list is the one of its number
pub each_own : (journal : List Entry) (list : List ListedFamily) → all_listed list ≡ families_of journal → AllByRecursion (λ it. listed it ≡ family_of journal (listed it).number) list
each_own journal list is =
    each_unmap (λ it. it ≡ family_of journal it.number) listed list
    (grind (arith, nat_tests, each_map, each_of))

-- and their numbers are those of the families that have begun
pub numbers_own : (journal : List Entry) (list : List ListedFamily) → all_listed list ≡ families_of journal → map (λ it. (listed it).number) list ≡ begun journal
numbers_own journal list is = cc (map-map (λ (it : KeptRows). it.number) listed list, map-map (λ (it : KeptRows). it.number) (family_of journal) (begun journal), map-id (begun journal))

pub each_get : {X : Type 0} (P : X → Type 0) (xs : List X) (i : ℕ) (d : X) → AllByRecursion P xs → i < length xs → P (slice_index_or xs i d)
each_get P (x ∷ xs) (suc i) d each within = each_get P xs i d each.1 (omega arith)
each_get P xs i d each within = grind (arith, nat_tests)

-- a family's rows stand for its sets
pub stands_of : (journal : List Entry) (family : ℕ) (it : KeptRows) → IsAccepted 8 journal → it ≡ family_of journal family → StandsFor it.rows (sets_at 0 family journal)
stands_of journal family it accepted is = subst (λ (k : KeptRows). StandsFor k.rows (sets_at 0 family journal)) (sym is) (layers_stand journal accepted 0 family).stands

-- and its living copies live in them
pub lives_of : (journal : List Entry) (family n : ℕ) (copy : Copy) (it : KeptRows) → IsAccepted 8 journal → it ≡ family_of journal family → copy_in (living journal) n ≡ Some copy → families journal n ≡ family → lives it.rows n ≡ true
lives_of journal family n copy it accepted is found of = subst (λ (k : KeptRows). lives k.rows n ≡ true) (sym is) (lives_rows journal family n copy accepted found of)

-- so with a family that has begun
pub own_begun : (journal : List Entry) (family : ℕ) (it : KeptRows) → IsAccepted 8 journal → first (unknown_family family journal ∷ []) ≡ None → it ≡ family_of journal (families journal family) → it ≡ family_of journal family
own_begun journal family it accepted free is = is ∙ ap (family_of journal) (begun_at journal family accepted free).2

-- the stamps of a family's copies are those of the copies that live
pub stamps_are : (journal : List Entry) (family : ℕ) (rows : List StampRow) (stamps : List CopyStamp) → IsAccepted 8 journal → rows ≡ stamp_rows family journal → map text_of stamps ≡ stamps_in rows
    → AreStamps (map text_of stamps) (table.copies_of (sets_at 0 family journal)) → AreStampsOf family journal stamps
unfolding AreStampsOf
stamps_are journal family rows stamps accepted rows_is texts are = grind (arith, nat_tests, copies_sets)

-- the one copy of a family is newest
pub one_heads : (living : List ℕ) (rows : List StampRow) (table : List Known) → StandsFor rows table → living ≡ map (λ row. row.copy) (copy_rows rows) → length living ≡ 1
    → (1 ≡ length (board_newest table)) × (false ≡ board_split table)
unfolding board_newest board_split
one_heads living rows table stands are one =
    of_one (known_copies table) (same_length (copy_rows rows) (known_copies table) (same_copies rows table stands.same) ∙ sym (length-map (copy_rows rows) (λ (row : StampRow). row.copy)) ∙ sym (ap length are) ∙ one)
  where
    of_one : (copies : List Known) → length copies ≡ 1
        → (1 ≡ length (map copy_number (newest_of copy_number known_relation copies))) × (false ≡ is_split copy_number known_relation copies)
    of_one [] one = absurd (cc)
    of_one (t ∷ []) one = grind (arith, nat_tests, eq-eqb)
    of_one (t ∷ u ∷ copies) one = absurd (omega (arith, one))

-- the one copy of a new family is newest
pub new_heads : (n : ℕ) (table : List Known) → StandsFor (seed_row n ∷ []) table → (1 ≡ length (board_newest table)) × (false ≡ board_split table)
unfolding board_newest board_split
new_heads n table stands = of_one table stands.same
  where
    of_one : (table : List Known) → AreSame (seed_row n ∷ []) table → (1 ≡ length (board_newest table)) × (false ≡ board_split table)
    of_one [] same = absurd same
    of_one (t ∷ []) same = grind (arith, nat_tests, eq-eqb)
    of_one (t ∷ u ∷ table) same = absurd same.3
