-- Where the copies are kept, as entries come and are withdrawn.
use Rattle.pana_hall.proofs.Words.{content_by, nat_le, subst, suc, take, zero, ◌≡◌, ◌≢◌, ℕ, not, ◌==◌, List, [], ◌∷◌, ◌++◌, length, filter, Some, None, option_and_then, ◌+◌, ◌<◌, Bool, true, false, cond, fold, Option, option_map, find, map}
use Rattle.pana_hall.proofs.Words.{AllByRecursion, refl, sym, ap, ◌∙◌, inl, inr, arith, append-nil, or-false, filter_agree, Withdraw, Register, Duplicate, Relocate, Remove, Confirm, Entry, families}
use Rattle.pana_hall.proofs.Words.{entries_of, effective, left_out, is_of_copies, Copy, new_copy, made, comes, copy_in, living, after_report, after_entry, last, brought_back, displaced}
use Rattle.pana_hall.proofs.Words.{taken_from, IsAccepted, Accepts, table, layer, option_to_list, eqb-true, cases_eq, Spot, placed, Report, spot_of, spot_in, mover, spot_to}
use Rattle.pana_hall.proofs.Words.{put, spot_after, bytes_eq, nat_tests, Place, same_place, AreApart, AreRising, Holding, holding, holdings}
use Rattle.pana_hall.specs.{Living.copies_of, Queries.holdings_from}
use Rattle.pana_calls.specs.{Holdings.HaveOwnPaths}
use Rattle.pana_hall.proofs.Lists.{each_filter, filter_swap, last_push, each_weaker, each_two}
use Rattle.pana_hall.proofs.Moves.{displaced_named, found_number, IsWell, found_fits, copies_fit, copies_of-family, copies_of-push, copy_in-family, AreBelow, made_same, new_number, each_after, none_below, found_push, found_after, Fits}
use Rattle.pana_hall.proofs.Sound.{own, own_other, IsSound, accepted_is_sound, effective_well, effective-copies, living_fit, effective-confirm, free_place, in_accepted, OfCopies, Confirms, Withdraws, kind_of, effective-push}
use Rattle.pana_hall.proofs.Tables.{EndsIn, all_but_last, last_none, layer_now, table_own, open_withdraw, living_rises}
use Rattle.pana_hall.proofs.Knowns.{layer_founded}
use Rattle.std.proofs.Math.Seq.{take-nil}
use Rattle.pana_family.proofs.Images.{made_itself}
use Rattle.std.proofs.lemmas.Slice.Eq.{bytes_eq-Decides}

-- The copies that are left where the last pending entry of a family is left out.

left_out_one : (m : ℕ) (entries : List Entry) → left_out (m ∷ []) entries ≡ filter (λ e. not (m == e.number)) entries
left_out_one m entries = filter_agree _ _ (λ e. ap not (or-false (m == e.number))) entries

-- what a Withdraw leaves
pub living_withdrawn : (journal : List Entry) (entry : Entry) (m : ℕ) → entry.report ≡ Withdraw m → living (journal ++ entry ∷ []) ≡ copies_of (left_out (m ∷ []) (effective journal))
living_withdrawn journal entry m is = grind (arith, nat_tests, effective-push, append-nil, left_out_one)

-- a copy is found among those of its family's entries
found_own : (of : ℕ → ℕ) (last a : ℕ) (entries : List Entry) → AllByRecursion (IsWell of last) entries → copy_in (copies_of entries) a ≡ copy_in (copies_of (entries_of (of a) of entries)) a
found_own of last a entries well = grind (arith, nat_tests, copy_in-family, copies_fit, copies_of-family of last (of a) entries well)

module _ {most m : ℕ} {journal : List Entry} (sound : IsSound most journal) (ends : EndsIn most m journal) where
  rest_is : filter (λ e. not (m == e.number)) (own (families journal m) journal) ≡ ends.entries
  rest_is = ap (filter (λ e. not (m == e.number))) ends.own ∙ all_but_last (λ e. e.number) m ends.entries ends.last ends.below ends.number

  pub layer_before : layer most 1 (families journal m) journal ≡ ends.entries
  layer_before =
      let own_entries = own (families journal m) journal in
      ap (λ l. left_out l own_entries) (ap (last 1) ends.pending ∙ last_push 0 ends.numbers m ∙ ap (λ l. l ++ m ∷ []) (last_none ends.numbers)) ∙ left_out_one m own_entries ∙ rest_is

  -- each copy that is left, by its family
  left_own : (a : ℕ) → copy_in (copies_of (left_out (m ∷ []) (effective journal))) a ≡ copy_in (copies_of (filter (λ e. not (m == e.number)) (own (families journal a) journal))) a
  left_own a =
      found_own (families journal) (length journal) a (left_out (m ∷ []) (effective journal)) (each_filter _ _ (effective journal) (effective_well most journal sound))
      ∙ ap (λ l. copy_in (copies_of l) a) (filter_swap _ _ (effective journal) ∙ left_out_one m (own (families journal a) journal))

  pub left_here : (a : ℕ) → families journal a ≡ families journal m → copy_in (copies_of (left_out (m ∷ []) (effective journal))) a ≡ copy_in (copies_of ends.entries) a
  left_here a of = left_own a ∙ ap (λ f. copy_in (copies_of (filter (λ e. not (m == e.number)) (own f journal))) a) of ∙ ap (λ l. copy_in (copies_of l) a) rest_is

  pub left_other : (a : ℕ) → families journal a ≢ families journal m → copy_in (copies_of (left_out (m ∷ []) (effective journal))) a ≡ copy_in (living journal) a
  left_other a other =
      left_own a ∙ ap (λ l. copy_in (copies_of l) a) (own_other (families journal a) (families journal) m (effective journal) (λ h. other (sym h)))
      ∙ sym (found_own (families journal) (length journal) a (effective journal) (effective_well most journal sound))

  -- and each that lives now
  pub now_here : (a : ℕ) → families journal a ≡ families journal m → copy_in (living journal) a ≡ copy_in (after_report m ends.last.report (copies_of ends.entries)) a
  now_here a of = cc (found_own (families journal) (length journal) a (effective journal) (effective_well most journal sound), ends.own, copies_of-push ends.entries ends.last, ends.number)

  -- the copy that the entry moved or removed is of its family
  pub displaced_of : (c : ℕ) → displaced ends.last.report ≡ Some c → families journal c ≡ families journal m
  displaced_of c moves = (ends.well.belongs.joins c (displaced_named ends.last.report c moves)).family ∙ ap (families journal) ends.number

  -- and what is brought back is that copy as the entries before make it
  pub back_before : (c : ℕ) → displaced ends.last.report ≡ Some c → brought_back m journal ≡ copy_in (copies_of ends.entries) c
  back_before c moves = cc (ends.at, left_here c (displaced_of c moves))

  pub back_none : displaced ends.last.report ≡ None → brought_back m journal ≡ None
  back_none none = grind (arith, nat_tests)

  pub back_number : (back : Copy) → brought_back m journal ≡ Some back → displaced ends.last.report ≡ Some back.known.copy
  back_number back is = grind (arith, nat_tests, back_none, found_number, back_before)

  -- it is in the table that leaves out one
  pub back_in_table : (c : ℕ) → displaced ends.last.report ≡ Some c → brought_back m journal ≡ copy_in (table most 1 (families journal m) journal) c
  back_in_table c moves = back_before c moves ∙ ap (λ l. copy_in l c) (sym (table_own most 1 (families journal m) journal sound ∙ ap copies_of layer_before))

-- there is one
pub record Back (journal : List Entry) (m c : ℕ) (entries : List Entry) : Type 0 where
  pub copy : Copy
  pub is : brought_back m journal ≡ Some copy
  pub number : copy.known.copy ≡ c
  pub found : copy_in (copies_of entries) c ≡ Some copy
  pub family : copy.family ≡ families journal m

pub back_at : (journal : List Entry) (m c : ℕ) → IsAccepted 8 journal → (ends : EndsIn 8 m journal) → displaced ends.last.report ≡ Some c → Back journal m c ends.entries
back_at journal m c accepted ends moves =
    let sound = accepted_is_sound 8 journal accepted in
    let lives = layer_founded journal accepted 0 (families journal m) ends.entries ends.last (layer_now 8 (families journal m) journal ∙ ends.own) c (displaced_named ends.last.report c moves) in
    let of = displaced_of sound ends c moves in
    let left = left_out (m ∷ []) (effective journal) in
    let fit = found_fits (families journal) (length journal) c (copies_of left) lives.0 (copies_fit (families journal) (length journal) left (each_filter _ _ (effective journal) (effective_well 8 journal sound)))
    (left_here sound ends c of ∙ lives.1) in
    record { copy = lives.0; is = back_before sound ends c moves ∙ lives.1; number = fit.0; found = lives.1; family = fit.1.family ∙ ap (families journal) fit.0 ∙ of }

-- Where the copies are kept, as entries come and are withdrawn.

-- a copy that the report doesn't move or remove stays where it is kept
still : (n : ℕ) (report : Report) (copies : List Copy) (x : Copy) → (displaced report ≡ Some x.known.copy → ⊥) → option_map spot_of (made n report copies x) ≡ Some (spot_of x)
still n report copies x other = grind (arith, nat_tests)

spot_still : (n : ℕ) (report : Report) (copies : List Copy) (a : ℕ) → comes n report copies ≡ None → (displaced report ≡ Some a → ⊥) → spot_in (after_report n report copies) a ≡ spot_in copies a
spot_still n report copies a none other = grind (arith, nat_tests, found_after, still, found_number)

-- one that it moves or removes is kept where it goes
spot_gone : (n : ℕ) (report : Report) (copies : List Copy) (c : ℕ) (to : Option Spot) → comes n report copies ≡ None → displaced report ≡ Some c
    → ((x : Copy) → copy_in copies c ≡ Some x → option_map spot_of (made n report copies x) ≡ to) → (copy_in copies c ≡ None → None ≡ to)
    → (a : ℕ) → spot_in (after_report n report copies) a ≡ cond (a == c) to (spot_in copies a)
spot_gone n report copies c to none moves goes nothing a = grind (arith, nat_tests, found_after, spot_still)

cond_map : {X Y : Type 0} (f : X → Y) (b : Bool) (x y : X) → f (cond b x y) ≡ cond b (f x) (f y)
cond_map f b x y = grind (arith, nat_tests)

-- what a report of copies changes, the next number being above all others
pub spots_report : (n : ℕ) (report : Report) (copies : List Copy) → AreBelow n copies → (a : ℕ) → spot_in (after_report n report copies) a ≡ spot_after n report (spot_in copies) a
spots_report n (Register place sum) copies below a =
    ap (λ l. spot_in (l ++ new_copy n n [] place (content_by n (Register place sum) copies) ∷ []) a) (made_itself copies) ∙ ap (option_map spot_of) (found_push copies (new_copy n n [] place (content_by n (Register place sum) copies)) a below) ∙ cond_map (option_map spot_of) (a == n) _ _
spots_report n (Duplicate source place sum) copies below a =
    ap (λ l. spot_in (l ++ option_to_list (comes n (Duplicate source place sum) copies)) a) (made_itself copies)
    ∙ elim (copy_in copies source) as (λ o. spot_in (copies ++ option_to_list (option_map (λ c. new_copy n c.family c.known.set place (content_by n (Duplicate source place sum) copies)) o)) a ≡ cond (a == n) (placed place (option_map spot_of o)) (spot_in copies a)) [
      | None ↦ ap (λ l. spot_in l a) (append-nil copies)
          ∙ elim (a == n) as (λ b. (a == n) ≡ b → spot_in copies a ≡ cond b None (spot_in copies a)) [
            | true ↦ λ e. grind (arith, nat_tests, none_below)
            | false ↦ λ e. refl
          ] refl
      | Some c ↦ grind (arith, nat_tests, found_push, cond_map)
    ]
spots_report n (Relocate c place) copies below a =
    spot_gone n (Relocate c place) copies c (placed place (spot_in copies c)) refl refl
    (λ x f. grind (arith, nat_tests, found_number))
    (λ f. ap (λ o. placed place (option_map spot_of o)) (sym f)) a
spots_report n (Remove c heir) copies below a =
    spot_gone n (Remove c heir) copies c None refl refl (λ x f. grind (arith, nat_tests, found_number)) (λ f. refl) a
spots_report n report copies below a = spot_still n report copies a refl (λ h. absurd (cc))

-- what undoing it brings back: what was there at the number that it changed
undone_at : (n : ℕ) (report : Report) (copies : List Copy) (back : Option Copy) → AreBelow n copies → ((c : ℕ) → displaced report ≡ Some c → back ≡ copy_in copies c) → (displaced report ≡ None → back ≡ None)
    → (k : ℕ) → mover n report ≡ Some k → option_map spot_of back ≡ spot_in copies k
undone_at n report copies back h1 h2 h3 k h4 = grind (arith, nat_tests, none_below)

put_back : (o : Option ℕ) (new back : Option Spot) (spots after : ℕ → Option Spot) (a : ℕ) → ((k : ℕ) → o ≡ Some k → back ≡ spots k) → after a ≡ put o new spots a → spots a ≡ put o back after a
put_back o new back spots after a h1 h2 = grind (arith, nat_tests)

pub put_same : (o : Option ℕ) (back other : Option Spot) (spots others : ℕ → Option Spot) (a : ℕ) → back ≡ other → spots a ≡ others a → put o back spots a ≡ put o other others a
put_same o back other spots others a h1 h2 = grind (arith, nat_tests)

pub living_below : (most n : ℕ) (journal : List Entry) → IsSound most journal → n ≡ length journal + 1 → AreBelow n (living journal)
living_below most n journal sound next =
    each_weaker (Fits (families journal) (length journal)) _ (living journal) (λ c fit. let within = fit.within in omega arith) (living_fit most journal sound)

-- where copies are kept after a report of copies
pub spots_next : (most : ℕ) (journal : List Entry) (entry : Entry) → IsSound most journal → Accepts most journal entry → is_of_copies entry.report ≡ true
    → (a : ℕ) → spot_in (living (journal ++ entry ∷ [])) a ≡ spot_after entry.number entry.report (spot_in (living journal)) a
spots_next most journal entry sound accepts is a =
    let more : living (journal ++ entry ∷ []) ≡ after_entry (living journal) entry = grind (arith, nat_tests, effective-copies, copies_of-push) in
    ap (λ l. spot_in l a) more ∙ spots_report entry.number entry.report (living journal) (living_below most entry.number journal sound accepts.next) a

-- the copies of entries below a number are below it
below_fold : (m : ℕ) (copies : List Copy) (entries : List Entry) → AllByRecursion (λ e. e.number < m) entries → AreBelow m copies → AreBelow m (fold after_entry copies entries)
below_fold m copies [] numbers below = below
below_fold m copies (e ∷ entries) numbers below =
    below_fold m (after_entry copies e) entries numbers.1
    (grind (arith, nat_tests, each_after, made_same, new_number))

pub copies_below : (m : ℕ) (entries : List Entry) → AllByRecursion (λ e. e.number < m) entries → AreBelow m (copies_of entries)
unfolding copies_of
copies_below m entries numbers = below_fold m [] entries numbers tt

-- where copies are kept after a Withdraw
pub spots_withdrawn : (most m : ℕ) (journal : List Entry) (entry : Entry) → IsSound most journal → entry.report ≡ Withdraw m → (ends : EndsIn most m journal)
    → (a : ℕ) → spot_in (living (journal ++ entry ∷ [])) a ≡ put (mover m ends.last.report) (option_map spot_of (brought_back m journal)) (spot_in (living journal)) a
spots_withdrawn most m journal entry sound is ends a =
    let of = families journal in
    let report = ends.last.report in
    let before = copies_of ends.entries in
    let back = brought_back m journal in
    let below = copies_below m ends.entries ends.below in
    ap (λ l. spot_in l a) (living_withdrawn journal entry m is)
    ∙ elim (cases_eq (of a) (of m)) [
      | inl here ↦
          ap (option_map spot_of) (left_here sound ends a here)
          ∙ put_back (mover m report) (spot_to m report (spot_in before)) (option_map spot_of back) (spot_in before) (spot_in (after_report m report before)) a
          (undone_at m report before back below (back_before sound ends) (back_none sound ends)) (spots_report m report before below a)
          ∙ put_same (mover m report) (option_map spot_of back) (option_map spot_of back) (spot_in (after_report m report before)) (spot_in (living journal)) a refl (ap (option_map spot_of) (sym (now_here sound ends a here)))
      | inr other ↦
          ap (option_map spot_of) (left_other sound ends a other)
          ∙ sym (grind (arith, nat_tests))
    ]

-- No two living copies are kept at one place, also where entries are withdrawn.

pub same_place-itself : (place : Place) → same_place place place ≡ true
same_place-itself place = grind (arith, nat_tests, bytes_eq-Decides)

-- where no copy passes the test, none that passes it is found
pub none_passes : (p : Copy → Bool) (copies : List Copy) (a : ℕ) (copy : Copy) → find p copies ≡ None → copy_in copies a ≡ Some copy → p copy ≡ false
none_passes p [] a copy none found = absurd (cc)
none_passes p (c ∷ copies) a copy none found =
    elim (p c) as (λ b. p c ≡ b → cond b (Some c) (find p copies) ≡ None → p copy ≡ false) [
      | true ↦ λ e h. absurd (cc)
      | false ↦ λ e h. elim (c.known.copy == a) as (λ b. cond b (Some c) (copy_in copies a) ≡ Some copy → p copy ≡ false) [
        | true ↦ λ f. let same : c ≡ copy = cc in ap p (sym same) ∙ e
        | false ↦ λ f. none_passes p copies a copy h f
      ] found
    ] refl none

-- a place that isn't taken from a copy has no other one
pub not_taken : (back : Copy) (copies : List Copy) (a : ℕ) (copy : Copy) → taken_from back copies ≡ None → copy_in copies a ≡ Some copy → copy.place ≡ back.place → a ≡ back.known.copy
not_taken back copies a copy free found here = grind (arith, nat_tests, none_passes, same_place-itself, found_number)

-- no two copies are kept at one place
abbrev OwnPlaces : (ℕ → Option Spot) → Type 0
OwnPlaces spots = (a b : ℕ) (s t : Spot) → spots a ≡ Some s → spots b ≡ Some t → s.place ≡ t.place → a ≡ b

same_own : (spots others : ℕ → Option Spot) → ((a : ℕ) → others a ≡ spots a) → OwnPlaces spots → OwnPlaces others
same_own spots others same own a b s t at at' one = own a b s t (sym (same a) ∙ at) (sym (same b) ∙ at') one

-- one spot is put where no other copy is
put_own : (o : Option ℕ) (new : Option Spot) (spots : ℕ → Option Spot) → OwnPlaces spots
    → ((k : ℕ) → o ≡ Some k → (s : Spot) → new ≡ Some s → (b : ℕ) (t : Spot) → spots b ≡ Some t → t.place ≡ s.place → b ≡ k) → OwnPlaces (put o new spots)
put_own o new spots h1 h2 = grind (arith, nat_tests, own, eqb-true)

spot_copy : (copies : List Copy) (a : ℕ) (s : Spot) → spot_in copies a ≡ Some s → (copy : Copy) × (copy_in copies a ≡ Some copy) × (copy.place ≡ s.place)
spot_copy copies a s at = grind (arith, nat_tests)

mover_displaced : (n : ℕ) (report : Report) (c : ℕ) → displaced report ≡ Some c → mover n report ≡ Some c
mover_displaced n report c e = grind (arith, nat_tests)

-- a Confirm leaves the living copies
pub living_confirmed : (journal : List Entry) (entry : Entry) (m : ℕ) → entry.report ≡ Confirm m → living (journal ++ entry ∷ []) ≡ living journal
living_confirmed journal entry m is = ap copies_of (effective-confirm journal entry m is)

-- one entry more that isn't refused
own_grows : (most : ℕ) (journal : List Entry) (entry : Entry) → IsSound most journal → Accepts most journal entry → OwnPlaces (spot_in (living journal)) → OwnPlaces (spot_in (living (journal ++ entry ∷ [])))
own_grows most journal entry sound accepts own =
    let now = living journal in
    elim (kind_of entry.report) [
      | OfCopies is ↦ grind (arith, nat_tests, same_own, spots_next, put_own, own, spot_copy, none_passes, free_place, same_place-itself)
      | Confirms m is ↦ same_own _ _ (λ a. ap (λ l. spot_in l a) (living_confirmed journal entry m is)) own
      | Withdraws m is ↦
          let o = open_withdraw most m journal entry.by entry.report sound is accepts.free in
          let ends = o.ends in
          same_own _ _ (spots_withdrawn most m journal entry sound is ends)
          (put_own (mover m ends.last.report) (option_map spot_of (brought_back m journal)) (spot_in now) own
          (λ k at s to b t there one. elim (brought_back m journal) as (λ x. brought_back m journal ≡ x → option_map spot_of x ≡ Some s → option_and_then (λ c. taken_from c now) x ≡ None → b ≡ k) [
            | None ↦ λ e f g. absurd (cc)
            | Some back ↦ λ e f g.
                let same : spot_of back ≡ s = cc in
                let copy = spot_copy now b t there in
                let both : Some k ≡ Some back.known.copy = sym at ∙ mover_displaced m ends.last.report back.known.copy (back_number sound ends back e) in
                not_taken back now b copy.0 g copy.1 (copy.2 ∙ one ∙ ap (λ (x : Spot). x.place) (sym same)) ∙ (cc)
          ] refl to o.free))
    ]

none_own : OwnPlaces (spot_in (living []))
unfolding copies_of
none_own = λ a b s t at at' one. absurd (cc)

-- copies by rising number are found under their numbers
each_found : (low : ℕ) (copies : List Copy) → AreRising (λ c. c.known.copy) low copies → AllByRecursion (λ c. (low < c.known.copy) × (copy_in copies c.known.copy ≡ Some c)) copies
each_found low [] rises = tt
each_found low (c ∷ copies) rises = grind (arith, nat_tests, each_found c.known.copy copies rises.1, each_weaker)

apart_in : (low : ℕ) (all copies : List Copy) → OwnPlaces (spot_in all) → AreRising (λ c. c.known.copy) low copies → AllByRecursion (λ c. copy_in all c.known.copy ≡ Some c) copies → AreApart copies
apart_in low all [] own rises found = tt
apart_in low all (c ∷ copies) own rises found = (
  each_two (λ x. (c.known.copy < x.known.copy) × (copy_in copies x.known.copy ≡ Some x)) (λ x. copy_in all x.known.copy ≡ Some x) (λ x. c.place ≢ x.place) copies
      (λ x h f one.
      let above = h.0 in
      let same : c.known.copy ≡ x.known.copy = own c.known.copy x.known.copy (spot_of c) (spot_of x) (ap (option_map spot_of) found.0) (ap (option_map spot_of) f) one in
      absurd (omega arith)) (each_found c.known.copy copies rises.1) found.1,
  apart_in c.known.copy all copies own rises.1 found.1,
)

pub living_found : (most : ℕ) (journal : List Entry) → IsAccepted most journal → AllByRecursion (λ c. copy_in (living journal) c.known.copy ≡ Some c) (living journal)
living_found most journal accepted =
    each_weaker (λ c. (0 < c.known.copy) × (copy_in (living journal) c.known.copy ≡ Some c)) _ (living journal) (λ c h. h.1) (each_found 0 (living journal) (living_rises most journal (accepted_is_sound most journal accepted)))

-- in each accepted journal no two living copies have one place
pub accepted_is_apart : (most : ℕ) (journal : List Entry) → IsAccepted most journal → AreApart (living journal)
accepted_is_apart most journal accepted =
    apart_in 0 (living journal) (living journal) (in_accepted most (λ j. OwnPlaces (spot_in (living j))) none_own (own_grows most) journal accepted)
    (living_rises most journal (accepted_is_sound most journal accepted)) (living_found most journal accepted)

-- The living copies on a device have paths of their own, since no two have one place.

abbrev on_device : List ℕ → List Copy → List Copy
on_device device copies = filter (λ copy. bytes_eq copy.place.device device) copies

one_place : (p q : Place) → p.device ≡ q.device → p.path ≡ q.path → p ≡ q
one_place p q device path = grind (arith, nat_tests)

paths_apart : (place : Place) (device : List ℕ) (copies : List Copy) → place.device ≡ device
    → AllByRecursion (λ other. place ≢ other.place) copies → AllByRecursion (λ other. place.path ≢ other.path) (holdings copies device)
paths_apart place device [] on apart = tt
paths_apart place device (copy ∷ copies) on apart = grind (arith, nat_tests, paths_apart place device copies on apart.1, one_place, bytes_eq-Decides)

own_paths : (device : List ℕ) (copies : List Copy) → AreApart copies → HaveOwnPaths (holdings copies device)
own_paths device [] apart = tt
own_paths device (copy ∷ copies) apart =
    elim (bytes_eq copy.place.device device) as (λ b. bytes_eq copy.place.device device ≡ b
    → HaveOwnPaths (map holding (cond b (copy ∷ on_device device copies) (on_device device copies)))) [
      | true ↦ λ e. grind (arith, nat_tests, own_paths device copies apart.1, paths_apart, bytes_eq-Decides)
      | false ↦ λ e. own_paths device copies apart.1
    ] refl

pub found_have_own_paths : (journal : List Entry) (copies : List Copy) (device : List ℕ) (found : List Holding)
    → IsAccepted 8 journal → copies ≡ living journal → found ≡ holdings copies device → HaveOwnPaths found
found_have_own_paths journal copies device found accepted kept is = grind (arith, nat_tests, own_paths, accepted_is_apart)

-- so have those of one page
each_take : {X : Type 0} (P : X → Type 0) (n : ℕ) (xs : List X) → AllByRecursion P xs → AllByRecursion P (take n xs)
each_take P n [] each = subst (AllByRecursion P) (sym (take-nil n)) tt
each_take P zero (x ∷ xs) each = tt
each_take P (suc n) (x ∷ xs) each = (each.0, each_take P n xs each.1)

filtered_own : (p : Holding → Bool) (list : List Holding) → HaveOwnPaths list → HaveOwnPaths (filter p list)
filtered_own p [] apart = tt
filtered_own p (h ∷ list) apart =
    elim (p h) as (λ b. HaveOwnPaths (cond b (h ∷ filter p list) (filter p list))) [
      | true ↦ (each_filter (λ other. h.path ≢ other.path) p list apart.0, filtered_own p list apart.1)
      | false ↦ filtered_own p list apart.1
    ]

taken_own : (n : ℕ) (list : List Holding) → HaveOwnPaths list → HaveOwnPaths (take n list)
taken_own n [] apart = subst HaveOwnPaths (sym (take-nil n)) tt
taken_own zero (h ∷ list) apart = tt
taken_own (suc n) (h ∷ list) apart = (each_take (λ other. h.path ≢ other.path) n list apart.0, taken_own n list apart.1)

pub page_own_paths : (from : Option ℕ) (list : List Holding) → HaveOwnPaths list → HaveOwnPaths (holdings_from from list)
page_own_paths None list apart = apart
page_own_paths (Some n) list apart = taken_own 1000 _ (filtered_own (λ h. nat_le n h.copy) list apart)
