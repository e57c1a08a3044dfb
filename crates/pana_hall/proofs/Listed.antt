-- The families that have begun, as a hall keeps them.
use Rattle.pana_hall.proofs.Words.{IsStep, IsStepOf, Takes, AreContents, Option, ◌≡◌, ℕ, ◌<◌, ◌≤◌, Bool, false, cond, ◌==◌, List, [], ◌∷◌, ◌++◌, map, filter, Some, None, option_map, option_and_then, ◌≢◌, zero, suc, ◌+◌, length, slice_get}
use Rattle.pana_hall.proofs.Words.{slice_index_or, is_none, then_some, bytes_eq, refl, sym, ap, ◌∙◌, subst, inl, inr, arith, append-nil, eqb-true, eq-eqb, cases_lt, slice_get_within, map-append}
use Rattle.pana_hall.proofs.Words.{length-append, length-map, Entry, is_register, families, begun_or_joined, subject, Copy, copy_in, living, begun, holding, holdings, AreRising, family_of_next}
use Rattle.pana_hall.proofs.Words.{AllByRecursion, nat_tests, Place, Table, kept, Report, Register, report_refusal, KeptRows, new_kept, IsFree, all_listed, listed, ListedFamily, next_entry}
use Rattle.pana_hall.proofs.Words.{AreSpots, IsReady, IsReadyAt, families_of, family_of, position_for, entry_at, IsAccepted, slice_set, cases_order, get_or_from_slice_get, slice_get-map, map-set}
use Rattle.pana_hall.proofs.Words.{set-get_or, ArePlaced, position_of_subject, IsWithin, count_by, leb-false, length-filter}
use Rattle.std.proofs.lemmas.List.Sums.{count_by-le-length}
use Rattle.pana_hall.specs.{inner.Kept.IsKept, declared.next.Step.Step, declared.next.Step.TheVariants.Begin, declared.next.Step.TheVariants.Change, declared.next.Step.TheVariants.Settle, inner.Families.family_at, inner.Families.position_at}
use Rattle.circular_buffer.proofs.Places.{slice_get-set_same}
use Rattle.pana_hall.proofs.Lists.{rises_filter, each_filter, each_map, each_weaker, map_same, slice_get-each, entry_at_place, slice_get-append, slice_get-push, under, rises_map, found_by, at-append, none_under, rises_each, at-push}
use Rattle.pana_hall.proofs.Sound.{none_against, none_false, family_new, accepted_is_sound, family_old, living_fit, LivesIn, named_report}
use Rattle.pana_hall.proofs.Moves.{IsWell, none_below, subject_none, subject_named}
use Rattle.pana_hall.proofs.{Places.living_below, Places.spots_next, Tables.begun-next, Histories.family_begun, Histories.family_other, Ready.accepts_next, Ready.free_spots}
use Rattle.pana_hall.proofs.{Runs.next_accepted, Runs.rising}

-- Lists by rising keys are one where the same is found under each key; holdings and families as such lists.

first_under : {X : Type 0} (key : X → ℕ) (x : X) (xs : List X) → under key (x ∷ xs) (key x) ≡ Some x
first_under key x xs = ap (λ b. cond b (Some x) (under key xs (key x))) (eq-eqb (key x) (key x) refl)

-- two lists by rising keys in which the same has each key are one
pub same_by_key : {X : Type 0} (key : X → ℕ) (low : ℕ) (xs ys : List X) → AreRising key low xs → AreRising key low ys → ((n : ℕ) → under key xs n ≡ under key ys n) → xs ≡ ys
same_by_key key low [] [] rises rises' same = refl
same_by_key key low [] (y ∷ ys) rises rises' same = let here : None ≡ Some y = same (key y) ∙ first_under key y ys in absurd (cc)
same_by_key key low (x ∷ xs) [] rises rises' same = let here : Some x ≡ None = sym (first_under key x xs) ∙ same (key x) in absurd (cc)
same_by_key key low (x ∷ xs) (y ∷ ys) rises rises' same =
    let one : key x ≡ key y = elim (cases_order (key x) (key y)) [
      | inl e ↦ e
      | inr (inl less) ↦
          let none : under key (y ∷ ys) (key x) ≡ None = grind (arith, nat_tests, under, none_under) in
          let odd : Some x ≡ None = sym (first_under key x xs) ∙ same (key x) ∙ none in absurd (cc)
      | inr (inr more) ↦
          let none : under key (x ∷ xs) (key y) ≡ None = grind (arith, nat_tests, under, none_under) in
          let odd : Some y ≡ None = sym (first_under key y ys) ∙ sym (same (key y)) ∙ none in absurd (cc)
    ] in
    let both : Some x ≡ Some y = sym (first_under key x xs) ∙ same (key x) ∙ ap (under key (y ∷ ys)) one ∙ first_under key y ys in
    let first : x ≡ y = cc in
    let rising : AreRising key (key x) ys = subst (λ n. AreRising key n ys) (sym one) rises'.1 in
    let rest : xs ≡ ys = same_by_key key (key x) xs ys rises.1 rising (λ n. grind (arith, nat_tests, under, none_under, rising)) in
    ap (λ c. c ∷ xs) first ∙ ap (λ l. y ∷ l) rest

-- what has a key once a test has chosen
under_filter : {X : Type 0} (key : X → ℕ) (p : X → Bool) (low n : ℕ) (xs : List X) → AreRising key low xs → under key (filter p xs) n ≡ option_and_then (λ x. then_some (p x) x) (under key xs n)
under_filter key p low n [] rises = refl
under_filter key p low n (x ∷ xs) rises = grind (arith, nat_tests, under_filter key p (key x) n xs rises.1, under, none_under, rises_filter)

-- and once each was shown as another with its key
under_map : {X Y : Type 0} (f : X → Y) (key : X → ℕ) (key' : Y → ℕ) → ((x : X) → key' (f x) ≡ key x) → (n : ℕ) (xs : List X) → under key' (map f xs) n ≡ option_map f (under key xs n)
under_map f key key' same n [] = refl
under_map f key key' same n (x ∷ xs) = grind (arith, nat_tests, under_map f key key' same n xs)

-- the holdings of a device, by rising copy, and the one of a copy
pub holdings_rise : (device : List ℕ) (copies : List Copy) → AreRising (λ c. c.known.copy) 0 copies → AreRising (λ h. h.copy) 0 (holdings copies device)
holdings_rise device copies rises = rises_map holding (λ c. c.known.copy) (λ h. h.copy) (λ c. refl) 0 _ (grind (arith, nat_tests, rises_filter))

pub holdings_under : (device : List ℕ) (n : ℕ) (copies : List Copy) → AreRising (λ c. c.known.copy) 0 copies
    → under (λ h. h.copy) (holdings copies device) n ≡ option_map holding (option_and_then (λ copy. then_some (bytes_eq copy.place.device device) copy) (copy_in copies n))
holdings_under device n copies rises = grind (arith, nat_tests, under_map holding (λ c. c.known.copy) (λ h. h.copy) (λ c. refl) n (filter (λ c. bytes_eq c.place.device device) copies), under_filter)

-- the families that an entry has begun
pub begun_later : (journal : List Entry) (entry : Entry) → is_register entry.report ≡ false → begun (journal ++ entry ∷ []) ≡ begun journal
begun_later journal entry later = begun-next journal entry ∙ ap (λ b. begun journal ++ cond b (entry.number ∷ []) []) later ∙ append-nil (begun journal)

-- and they rise
pub begun_rises : (journal : List Entry) → AreRising (λ e. e.number) 0 journal → AreRising (λ n. n) 0 (begun journal)
begun_rises journal rises = rises_map (λ e. e.number) (λ e. e.number) (λ n. n) (λ e. refl) 0 _ (rises_filter (λ e. e.number) 0 (λ e. is_register e.report) journal rises)

-- The families that have begun, as a list.

get_unmap : {X Y : Type 0} (f : X → Y) (xs : List X) (p : ℕ) (y : Y) → slice_get (map f xs) p ≡ Some y → (x : X) × (slice_get xs p ≡ Some x) × (f x ≡ y)
get_unmap f (x ∷ xs) (suc p) y at = get_unmap f xs p y at
get_unmap f xs p y at = grind (arith, nat_tests)

-- what is made of a number in a list
pub get_map : {X : Type 0} (f : ℕ → X) (numbers : List ℕ) (p n : ℕ) → slice_get numbers p ≡ Some n → slice_get (map f numbers) p ≡ Some (f n)
get_map f numbers p n at = slice_get-map f numbers p ∙ ap (option_map f) at

pub map_set : {X : Type 0} (f g : ℕ → X) (low : ℕ) (numbers : List ℕ) (p n : ℕ) → AreRising (λ k. k) low numbers → slice_get numbers p ≡ Some n → ((k : ℕ) → k ≢ n → g k ≡ f k)
    → slice_set (map f numbers) p (g n) ≡ map g numbers
map_set f g low [] p n rises at same = absurd (cc)
map_set f g low (m ∷ numbers) zero n rises at same =
    let here : m ≡ n = cc in
    ap (λ k. g k ∷ map f numbers) (sym here) ∙ ap (λ l. g m ∷ l) (map_same f g (λ k. m < k) numbers (λ k above. sym (same k (λ e. omega arith))) (rises_each (λ k. k) m numbers rises.1))
map_set f g low (m ∷ numbers) (suc p) n rises at same =
    let above = slice_get-each (λ k. m < k) numbers p n (rises_each (λ k. k) m numbers rises.1) at in
    grind (arith, nat_tests, map_set f g m numbers p n rises.1 at same)

-- the numbers of families are those of entries
begun_within : (last : ℕ) (journal : List Entry) → AllByRecursion (λ e. e.number ≤ last) journal → AllByRecursion (λ n. n ≤ last) (begun journal)
begun_within last journal within = grind (arith, nat_tests, each_map, each_filter)

-- a step is of a family that has begun, or begins one
pub step_takes : (entry : Entry) (len capacity : ℕ) (list : List ListedFamily) (position : ℕ) (copies : List Copy) (step : Step) → ((place : Place) → step ≡ Begin place → ⊥)
    → IsStep entry len capacity list position copies step → Takes entry list position copies step
step_takes entry len capacity list position copies step never is = grind (arith, nat_tests)

pub takes_step : (entry : Entry) (len capacity : ℕ) (list : List ListedFamily) (position : ℕ) (copies : List Copy) (step : Step) → Takes entry list position copies step → IsStep entry len capacity list position copies step
takes_step entry len capacity list position copies (Begin place) takes = absurd takes.is
takes_step entry len capacity list position copies (Change change place before) takes = takes
takes_step entry len capacity list position copies Settle takes = takes

step_later : (entry : Entry) (it : ListedFamily) (copies : List Copy) (step : Step) → IsStepOf entry it copies step → is_register entry.report ≡ false
step_later entry it copies step is = grind (arith, nat_tests)

pub takes_later : {entry : Entry} {list : List ListedFamily} {position : ℕ} {copies : List Copy} {step : Step} → Takes entry list position copies step → is_register entry.report ≡ false
takes_later {entry} {list} {position} {copies} {step} takes = step_later entry takes.it copies step takes.is

pub takes_at : {entry : Entry} {list : List ListedFamily} {position : ℕ} {copies : List Copy} {step : Step} → Takes entry list position copies step → (it d : ListedFamily) → it ≡ slice_index_or list position d
    → IsStepOf entry it copies step
takes_at {entry} {list} {position} {copies} {step} takes it d is = grind (arith, nat_tests, get_or_from_slice_get)

module _ (list : List ListedFamily) {journal : List Entry} {by : List ℕ} {report : Report} {position : ℕ} {copies : Table} where
  -- the family at the position
  found_there : IsReadyAt journal by report (all_listed list) position copies → is_register report ≡ false
      → (it : ListedFamily) × (slice_get list position ≡ Some it) × (listed it ≡ family_of journal (family_of_next journal (next_entry journal by report)))
  found_there ready later =
      get_unmap listed list position _ (ap (λ l. slice_get l position) ready.listed ∙ get_map (family_of journal) (begun journal) position _ (ready.at later))

  -- is ready
  pub ready_at : IsReadyAt journal by report (all_listed list) position copies → is_register report ≡ false → (it d : ListedFamily) → it ≡ slice_index_or list position d → IsReady journal by report (listed it) copies
  ready_at ready later it d is = grind (arith, nat_tests, found_there, get_or_from_slice_get)

  -- the list, with that family changed
  pub listed_set : IsReadyAt journal by report (all_listed list) position copies → is_register report ≡ false → (it d after_it : ListedFamily) → it ≡ slice_index_or list position d
      → listed after_it ≡ family_of (journal ++ next_entry journal by report ∷ []) (listed it).number → all_listed (slice_set list position after_it) ≡ families_of (journal ++ next_entry journal by report ∷ [])
  listed_set ready later it d after_it is made =
      let entry = next_entry journal by report in
      let journal' = journal ++ entry ∷ [] in
      let own = family_of_next journal entry in
      let sound = accepted_is_sound 8 journal ready.accepted in
      let number : (listed it).number ≡ own = ap (λ (k : KeptRows). k.number) (ready_at ready later it d is).kept in
      map-set listed list position after_it
      ∙ ap (λ (l : List KeptRows). slice_set l position (listed after_it)) ready.listed
      ∙ ap (slice_set (families_of journal) position) (made ∙ ap (family_of journal') number)
      ∙ map_set (family_of journal) (family_of journal') 0 (begun journal) position own (begun_rises journal sound.rising) (ready.at later)
      (λ k other. family_other k journal entry sound (accepts_next journal by report ready.free) (λ h. other (sym h)))
      ∙ ap (map (family_of journal')) (sym (begun_later journal entry later))

  -- or kept in another form
  pub still_there : IsReadyAt journal by report (all_listed list) position copies → is_register report ≡ false → (it d after_it : ListedFamily) → it ≡ slice_index_or list position d → listed after_it ≡ listed it
      → all_listed (slice_set list position after_it) ≡ all_listed list
  still_there ready later it d after_it is same =
      let there = found_there ready later in
      map-set listed list position after_it
      ∙ ap (slice_set (all_listed list) position) (sym (get_or_from_slice_get (all_listed list) position (listed after_it) (listed after_it)
      (ap (λ l. slice_get l position) ready.listed ∙ get_map (family_of journal) (begun journal) position _ (ready.at later) ∙ ap (λ k. Some k) (sym (same ∙ (ready_at ready later it d is).kept)))))
      ∙ set-get_or (all_listed list) position (listed after_it)

  -- at the position is what was put there
  pub found_set : IsReadyAt journal by report (all_listed list) position copies → is_register report ≡ false → (after_it : ListedFamily) → slice_get (slice_set list position after_it) position ≡ Some after_it
  found_set ready later after_it = grind (arith, nat_tests, found_there, slice_get-set_same, slice_get_within)

  -- which takes what was prepared for it
  pub takes_set : IsReadyAt journal by report (all_listed list) position copies → is_register report ≡ false → (entry : Entry) (lives : List Copy) (after_it : ListedFamily) (step : Step) → IsStepOf entry after_it lives step
      → Takes entry (slice_set list position after_it) position lives step
  takes_set ready later entry lives after_it step is = grind (arith, nat_tests, found_there, slice_get-set_same, slice_get_within)

  pub step_set : IsReadyAt journal by report (all_listed list) position copies → is_register report ≡ false → (entry : Entry) (lives : List Copy) (len capacity : ℕ) (after_it : ListedFamily) (step : Step) → IsStepOf entry after_it lives step
      → IsStep entry len capacity (slice_set list position after_it) position lives step
  step_set ready later entry lives len capacity after_it step is = takes_step entry len capacity (slice_set list position after_it) position lives step (takes_set ready later entry lives after_it step is)

  pub position_within : IsReadyAt journal by report (all_listed list) position copies → is_register report ≡ false → position < length list
  position_within ready later = let there = found_there ready later in slice_get_within list position there.0 there.1

module _ {journal : List Entry} {by : List ℕ} {place : Place} {sum : Option (List ℕ)} {list : List KeptRows} {position : ℕ} {copies : Table} (ready : IsReadyAt journal by (Register place sum) list position copies) where
  pub fresh_register : kept copies (length journal + 1) ≡ None
  fresh_register =
      ready.spots (length journal + 1)
      ∙ ap (option_map _) (none_below (length journal + 1) (living journal) (living_below 8 (length journal + 1) journal (accepted_is_sound 8 journal ready.accepted) refl))

  pub free_register : IsFree place copies
  free_register = free_spots journal copies ready.spots place (none_against 8 journal (living journal) by (Register place sum) ready.free).1.0

  pub listed_push : (n : ℕ) → n ≡ length journal → list ++ new_kept (n + 1) ∷ [] ≡ families_of (journal ++ next_entry journal by (Register place sum) ∷ [])
  listed_push n is =
      let entry = next_entry journal by (Register place sum) in
      let journal' = journal ++ entry ∷ [] in
      let accepts = accepts_next journal by (Register place sum) ready.free in
      let sound = accepted_is_sound 8 journal ready.accepted in
      let own : family_of_next journal entry ≡ length journal + 1 = family_new journal entry in
      let old : map (family_of journal') (begun journal) ≡ families_of journal =
      map_same (family_of journal') (family_of journal) (λ n. n ≤ length journal) (begun journal) (λ k within. family_other k journal entry sound accepts (λ h. omega arith))
      (begun_within (length journal) journal (each_weaker (IsWell (families journal) (length journal)) _ journal (λ e well. well.within) sound.well)) in
      cc (ready.listed, family_begun journal by place sum sound accepts, map-append (family_of journal') (begun journal) ((length journal + 1) ∷ []), begun-next journal entry)

  pub spots_register : (n : ℕ) → n ≡ length journal → (after_it : Table)
      → ((number : ℕ) → kept after_it number ≡ cond (number == n + 1) (Some (record { family = n + 1; place = place })) (kept copies number))
      → AreSpots (journal ++ next_entry journal by (Register place sum) ∷ []) after_it
  spots_register n is after_it goes number =
      goes number
      ∙ ap (λ k. cond (number == k + 1) (Some (record { family = k + 1; place = place })) (kept copies number)) is
      ∙ ap (λ s. cond (number == length journal + 1) (Some (record { family = length journal + 1; place = place })) s) (ready.spots number)
      ∙ sym (spots_next 8 journal (next_entry journal by (Register place sum)) (accepted_is_sound 8 journal ready.accepted) (accepts_next journal by (Register place sum) ready.free) refl number)

-- a step that begins a family is of a Register
pub record Begins (journal : List Entry) (by : List ℕ) (report : Report) (place : Place) (len capacity : ℕ) (list : List KeptRows) (position : ℕ) (copies : Table) : Type 0 where
  pub sum : Option (List ℕ)
  pub is : report ≡ Register place sum
  pub more : len < capacity
  pub ready : IsReadyAt journal by (Register place sum) list position copies

pub begins : {journal : List Entry} {by : List ℕ} {report : Report} {position : ℕ} {copies : Table} (list : List ListedFamily) (len capacity : ℕ) (lives : List Copy) {step : Step} {place : Place}
    → IsReadyAt journal by report (all_listed list) position copies → step ≡ Begin place → IsStep (next_entry journal by report) len capacity list position lives step → Begins journal by report place len capacity (all_listed list) position copies
begins {journal} {by} {report} {position} {copies} list len capacity lives ready at is = grind (arith, nat_tests)

pub not_register : (report : Report) → ((place : Place) (sum : Option (List ℕ)) → report ≡ Register place sum → ⊥) → is_register report ≡ false
not_register report h1 = grind (arith, nat_tests)

-- What a hall keeps of its journal, as entries come.

-- a living copy's number is that of an entry
pub lives_within : (journal : List Entry) (family n : ℕ) → IsAccepted 8 journal → LivesIn journal family n → IsWithin journal n
lives_within journal family n accepted lives =
    let up = rising 8 journal accepted in
    let below = found_by (λ c. c.known.copy == n) (λ c. c.known.copy ≤ length journal) (living journal) lives.copy up.1 lives.found in
    let above = (found_by (λ c. c.known.copy == n) (λ c. 0 < c.known.copy) (living journal) lives.copy (rises_each (λ c. c.known.copy) 0 (living journal) up.0) lives.found).1 in
    let same = eqb-true lives.copy.known.copy n below.0 in
    (omega arith, omega arith)

pub found_entry : (journal : List Entry) (n : ℕ) (copy : Copy) → IsAccepted 8 journal → copy_in (living journal) n ≡ Some copy → IsWithin journal n
found_entry journal n copy accepted found = lives_within journal (families journal n) n accepted (record { copy = copy; found = found; of = refl })

pub entry_within : (journal : List Entry) (m : ℕ) (entry : Entry) → entry_at journal m ≡ Some entry → IsWithin journal m
entry_within journal m entry at = grind (arith, nat_tests, entry_at_place, slice_get_within)

-- what a report names as its subject is a copy or an entry of the journal
pub subject_within : (journal : List Entry) (by : List ℕ) (report : Report) (n : ℕ) → IsAccepted 8 journal → report_refusal 8 journal (living journal) by report ≡ None → subject report ≡ Some n → IsWithin journal n
subject_within journal by report n accepted free about =
    let sound = accepted_is_sound 8 journal accepted in
    elim (subject_named report n about) [
      | inl names ↦ lives_within journal _ n accepted (named_report 8 0 journal by report n (living_fit 8 journal sound) free names)
      | inr is ↦ grind (arith, nat_tests, entry_within)
    ]

-- the family of an entry is found
pub found_at : (journal : List Entry) (list : List KeptRows) (positions : List ℕ) (n : ℕ) → list ≡ families_of journal → ArePlaced journal positions → 0 < n → n ≤ length journal
    → family_at list positions n ≡ Some (family_of journal (families journal n))
found_at journal list positions n listed placed some within =
    let at = placed.at n some within in
    grind (arith, nat_tests, get_map)

module _ (journal : List Entry) (by : List ℕ) (report : Report) (list : List KeptRows) (positions : List ℕ) (copies : Table) (said : List ℕ) where
  -- a report has a position for its family
  pub has_position : IsKept journal list positions copies said → report_refusal 8 journal (living journal) by report ≡ None → (p : ℕ) × (position_for list positions report ≡ Some p)
  has_position all free =
      elim (subject report) as (λ s. subject report ≡ s → (p : ℕ) × (position_of_subject list positions s ≡ Some p)) [
        | None ↦ λ e. (length list, refl)
        | Some n ↦ λ e.
            let within = subject_within journal by report n all.accepted free e in
            let at = all.placed.at n within.0 within.1 in
            (at.0, at.1)
      ] refl

  -- which is that of the family among those that have begun then
  own_position : IsKept journal list positions copies said → report_refusal 8 journal (living journal) by report ≡ None → (p : ℕ) → position_for list positions report ≡ Some p
      → slice_get (begun (journal ++ next_entry journal by report ∷ [])) p ≡ Some (family_of_next journal (next_entry journal by report))
  own_position all free p at =
      let entry = next_entry journal by report in
      let more = cond (is_register report) ((length journal + 1) ∷ []) [] in
      let long : length list ≡ length (begun journal) = ap length all.listed ∙ length-map (begun journal) (family_of journal) in
      ap (λ l. slice_get l p) (begun-next journal entry)
      ∙ elim (subject report) as (λ s. subject report ≡ s → position_of_subject list positions s ≡ Some p → slice_get (begun journal ++ more) p ≡ Some (begun_or_joined (families journal) (length journal + 1) s)) [
        | None ↦ λ e f.
            let same : length (begun journal) ≡ p = sym long ∙ (cc) in
            ap (λ b. slice_get (begun journal ++ cond b ((length journal + 1) ∷ []) []) p) (subject_none report ∙ ap is_none e)
            ∙ ap (slice_get (begun journal ++ (length journal + 1) ∷ [])) (sym same) ∙ slice_get-push (begun journal) (length journal + 1)
        | Some m ↦ λ e f.
            let inside = subject_within journal by report m all.accepted free e in
            let old = all.placed.at m inside.0 inside.1 in
            let both : Some old.0 ≡ Some p = sym old.1 ∙ f in
            let same : old.0 ≡ p = cc in
            slice_get-append (begun journal) more p (families journal m) (ap (slice_get (begun journal)) (sym same) ∙ old.2)
      ] refl at ∙ ap (λ k. Some k) (sym (family_new journal entry))

  -- and is no more than the journal takes entries
  pub position_few : IsKept journal list positions copies said → report_refusal 8 journal (living journal) by report ≡ None → (p : ℕ) → position_for list positions report ≡ Some p → p ≤ 1000000
  position_few all free p at =
      let entry = next_entry journal by report in
      let next = journal ++ entry ∷ [] in
      let within = slice_get_within (begun next) p _ (own_position all free p at) in
      let few : length journal < 1000000 = leb-false 1000000 (length journal) (none_false _ _ (none_against 8 journal (living journal) by report free).0) in
      let counted : length (begun next) ≡ count_by (λ e. is_register e.report) next = length-map (filter (λ e. is_register e.report) next) (λ e. e.number) ∙ length-filter (λ e. is_register e.report) next in
      omega (arith, within, few, counted, count_by-le-length (λ e. is_register e.report) next, length-append journal (entry ∷ []))

  pub ready_for : IsKept journal list positions copies said → report_refusal 8 journal (living journal) by report ≡ None → (p : ℕ) → position_for list positions report ≡ Some p
      → IsReadyAt journal by report list p copies
  ready_for all free p at =
      let entry = next_entry journal by report in
      record {
        accepted = all.accepted;
        free = free;
        listed = all.listed;
        spots = all.spots;
        at = λ later. subst (λ l. slice_get l p ≡ Some (family_of_next journal entry)) (begun_later journal entry later) (own_position all free p at);
      }

  -- what is kept then
  pub kept_next : IsKept journal list positions copies said → report_refusal 8 journal (living journal) by report ≡ None → (p : ℕ) → position_for list positions report ≡ Some p
      → (list' : List KeptRows) (copies' : Table) (said' : List ℕ) → AreContents (journal ++ next_entry journal by report ∷ []) said' → list' ≡ families_of (journal ++ next_entry journal by report ∷ []) → AreSpots (journal ++ next_entry journal by report ∷ []) copies'
      → IsKept (journal ++ next_entry journal by report ∷ []) list' (positions ++ p ∷ []) copies' said'
  kept_next all free p at list' copies' said' contents listed spots =
      let entry = next_entry journal by report in
      let journal' = journal ++ entry ∷ [] in
      let longer = length-append journal (entry ∷ []) in
      record {
        accepted = next_accepted 8 journal entry all.accepted (accepts_next journal by report free);
        listed = listed;
        spots = spots;
        contents = contents;
        placed = record {
          count = length-append positions (p ∷ []) ∙ ap (λ n. n + 1) all.placed.count ∙ sym longer;
          at = λ n some within. elim (cases_lt n (length journal + 1)) [
            | inl before ↦
                let old = all.placed.at n some (omega arith) in (
                  old.0,
                  at-append positions (p ∷ []) n old.0 old.1,
                  ap (λ l. slice_get l old.0) (begun-next journal entry) ∙ slice_get-append (begun journal) _ old.0 (families journal n) old.2 ∙ ap (λ f. Some f) (sym (family_old journal entry n before)),
                )
            | inr beyond ↦
                let last : n ≡ length journal + 1 = omega arith in (
                  p,
                  ap (position_at (positions ++ p ∷ [])) (last ∙ ap (λ k. k + 1) (sym all.placed.count)) ∙ at-push positions p,
                  own_position all free p at ∙ ap (λ k. Some (families journal' k)) (sym last),
                )
          ];
        };
      }
