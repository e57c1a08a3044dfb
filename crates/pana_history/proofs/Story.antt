-- The rows of a file, entry by entry.
use Rattle.std.proofs.Common.{◌≡◌, ℕ, ◌<◌, ◌≤◌, ◌==◌, Bool, true, false, cond, List, [], ◌∷◌, ◌++◌, filter, map, reverse, length, nat_lt, Option, Some, None, option_map, refl, sym, ap, ap₂, subst, ◌∙◌, inl, inr, arith, append_assoc, append-nil}
use Rattle.std.specs.List.{AllByRecursion}
use Rattle.std.proofs.lemmas.List.{reverse-append, reverse-reverse}
use Rattle.pana_copies.specs.declared.place.Place.{Place}
use Rattle.pana_journal.specs.declared.entry.Entry.{Entry}
use Rattle.pana_journal.specs.declared.report.Report.{Report}
use Rattle.pana_journal.specs.declared.report.Report.TheVariants.{Confirm, Duplicate, Edit, Merge, Note, Reconcile, Register, Relocate, Remove, Withdraw}
use Rattle.pana_hall.specs.Accepted.{IsAccepted}
use Rattle.pana_hall.specs.Effective.{effective}
use Rattle.pana_hall.specs.Family.{entries_of, families}
use Rattle.pana_hall.specs.Living.{Copy, after_report, copies_of, copy_in, living}
use Rattle.pana_hall.specs.inner.Spots.{spot_after, spot_in, spot_of}
use Rattle.pana_hall.specs.laws.Layers.{AreRising}
use Rattle.pana_hall.proofs.Words.{nat_tests, cases_eq, eq-eqb, eqb-true, ne_eqb, filter-append}
use Rattle.pana_hall.proofs.Lists.{each_filter, each_passes, each_right, filter_swap, map_same}
use Rattle.pana_hall.proofs.Moves.{AreBelow, IsWell, Lives, Names, copies_fit, copies_of-family, copies_of-push, copy_in-family}
use Rattle.pana_hall.proofs.Places.{copies_below, spots_report}
use Rattle.pana_hall.proofs.Sound.{accepted_is_sound, effective_well}
use Rattle.pana_history.specs.Lanes.{copies_before, lane_in, lanes_in, made_by, makes_copy, own_entries, place_in, withdrawal_of}
use Rattle.pana_history.specs.Rows.{entry_row, head_rows, rows_of}
use Rattle.pana_history.specs.declared.lane.Lane.{Lane}
use Rattle.pana_history.specs.inner.Alone.{AreFit, IsFit}
use Rattle.pana_history.specs.inner.Lanes as lanes
use Rattle.pana_history.specs.inner.Story.{IsStory, counted, counted_before, last_lanes, story_row, story_rows}
use Rattle.pana_history.specs.inner.Withdrawals.{counts}
use Rattle.pana_history.proofs.Fit.{each_reverse, reverse-cons}
use Rattle.pana_history.proofs.Own.{counted_is}

-- Numbers that rise, taken apart at one of them.

below_rest : (n low : ℕ) (q : Entry → Bool) (entries : List Entry) → n ≤ low → AreRising (λ e. e.number) low entries → filter (λ e. nat_lt e.number n) (filter q entries) ≡ []
below_rest n low q [] within rises = refl
below_rest n low q (x ∷ entries) within rises =
    let more = rises.0 in
    let rest = below_rest n x.number q entries (omega arith) rises.1 in
    grind (arith, nat_tests)

rises_to : (low : ℕ) (before : List Entry) (e : Entry) (later : List Entry) → AreRising (λ e. e.number) low (before ++ e ∷ later) → low < e.number
rises_to low [] e later rises = rises.0
rises_to low (x ∷ before) e later rises = let first = rises.0 in let next = rises_to x.number before e later rises.1 in omega arith

cut : (q : Entry → Bool) (low : ℕ) (before : List Entry) (e : Entry) (later : List Entry) → AreRising (λ e. e.number) low (before ++ e ∷ later)
    → filter (λ x. nat_lt x.number e.number) (filter q (before ++ e ∷ later)) ≡ filter q before
cut q low [] e later rises =
    let rest = below_rest e.number e.number q later (omega arith) rises.1 in
    grind (arith, nat_tests)
cut q low (x ∷ before) e later rises =
    let first = rises_to x.number before e later rises.1 in
    let rest = cut q x.number before e later rises.1 in
    grind (arith, nat_tests)

-- Entries that count, taken apart at one of them.

skip : (xs ys : List Entry) → AreFit (xs ++ ys) → AreFit ys
skip [] ys fit = fit
skip (x ∷ xs) ys fit = skip xs ys fit.2

turned : (before : List Entry) (e : Entry) (later : List Entry) → reverse (before ++ e ∷ later) ≡ reverse later ++ e ∷ reverse before
turned before e later = reverse-append before (e ∷ later) ∙ ap (λ l. l ++ reverse before) (reverse-cons later e) ∙ append_assoc (reverse later) (e ∷ []) (reverse before)

fit_at : (before : List Entry) (e : Entry) (later : List Entry) → IsFit (before ++ e ∷ later)
    → AllByRecursion (λ x. x.number < e.number) before × ((c : ℕ) → Names e.report c → Lives (copies_of before) c)
fit_at before e later fit =
    let back = skip (reverse later) (e ∷ reverse before) (subst AreFit (turned before e later) fit) in (
      subst (AllByRecursion (λ x. x.number < e.number)) (reverse-reverse before) (each_reverse (λ x. x.number < e.number) (reverse before) back.0),
      (λ c names. subst (λ l. Lives (copies_of l) c) (reverse-reverse before) (back.1 c names)),
    )

-- Lanes behind a report.

place_spot : (copies : List Copy) (c : ℕ) → place_in copies c ≡ option_map (λ s. s.place) (spot_in copies c)
place_spot copies c = elim (copy_in copies c) as (λ o. option_map (λ x. x.place) o ≡ option_map (λ s. s.place) (option_map spot_of o)) [ None ↦ refl | Some x ↦ refl ]

lane_put : (copies after : List Copy) (n : ℕ) (to : Option Place) (c : ℕ) → place_in after c ≡ cond (c == n) to (place_in copies c) → lane_in after c ≡ lanes.put n to (lane_in copies c)
lane_put copies after n to c is = elim (cases_eq c n) [
  | inl same ↦ lane_is c n (place_in after c) to same (is ∙ ap (λ b. cond b to (place_in copies c)) (eq-eqb c n same)) ∙ sym (ap (λ b. cond b (record { copy = n; place = to }) (lane_in copies c)) (eq-eqb c n same))
  | inr other ↦ lane_is c c (place_in after c) (place_in copies c) refl (is ∙ ap (λ b. cond b to (place_in copies c)) (ne_eqb c n other)) ∙ sym (ap (λ b. cond b (record { copy = n; place = to }) (lane_in copies c)) (ne_eqb c n other))
]
  where
    lane : ℕ → Option Place → Lane
    lane number place = record { copy = number; place = place }

    lane_is : (a b : ℕ) (p q : Option Place) → a ≡ b → p ≡ q → lane a p ≡ lane b q
    lane_is a b p q same equal = ap₂ lane same equal

lanes_put : (copies after : List Copy) (n : ℕ) (to : Option Place) → ((c : ℕ) → place_in after c ≡ cond (c == n) to (place_in copies c)) → (numbers : List ℕ)
    → map (lane_in after) numbers ≡ map (lanes.put n to) (map (lane_in copies) numbers)
lanes_put copies after n to is [] = refl
lanes_put copies after n to is (c ∷ numbers) = ap₂ (λ x l. x ∷ l) (lane_put copies after n to c (is c)) (lanes_put copies after n to is numbers)

lanes_same : (copies after : List Copy) → ((c : ℕ) → place_in after c ≡ place_in copies c) → (numbers : List ℕ) → map (lane_in after) numbers ≡ map (lane_in copies) numbers
lanes_same copies after is [] = refl
lanes_same copies after is (c ∷ numbers) = ap₂ (λ x l. x ∷ l) (ap (λ p. record { copy = c; place = p }) (is c)) (lanes_same copies after is numbers)

module _ (n : ℕ) (copies : List Copy) (below : AreBelow n copies) where
  -- where a copy is then, by where each was
  place_after : (report : Report) (c : ℕ) → place_in (after_report n report copies) c ≡ option_map (λ s. s.place) (spot_after n report (spot_in copies) c)
  place_after report c = place_spot (after_report n report copies) c ∙ ap (option_map (λ s. s.place)) (spots_report n report copies below c)

  -- it is put at a place, or taken away
  put_at : (report : Report) (k : ℕ) (to : Option Place) → ((c : ℕ) → option_map (λ s. s.place) (spot_after n report (spot_in copies) c) ≡ cond (c == k) to (option_map (λ s. s.place) (spot_in copies c)))
      → (numbers : List ℕ) → map (lane_in (after_report n report copies)) numbers ≡ map (lanes.put k to) (map (lane_in copies) numbers)
  put_at report k to is numbers = lanes_put copies (after_report n report copies) k to (λ c. place_after report c ∙ is c ∙ ap (cond (c == k) to) (sym (place_spot copies c))) numbers

  stays : (report : Report) → ((c : ℕ) → spot_after n report (spot_in copies) c ≡ spot_in copies c) → (numbers : List ℕ) → map (lane_in (after_report n report copies)) numbers ≡ map (lane_in copies) numbers
  stays report is numbers = lanes_same copies (after_report n report copies) (λ c. place_after report c ∙ ap (option_map (λ s. s.place)) (is c) ∙ sym (place_spot copies c)) numbers

  pub lanes_step : (report : Report) → ((c : ℕ) → Names report c → Lives copies c) → (numbers : List ℕ) → map (lane_in (after_report n report copies)) numbers ≡ lanes.lanes_after n report (map (lane_in copies) numbers)
  lanes_step (Register place sum) lives numbers = put_at (Register place sum) n (Some place) (λ c. grind (arith, nat_tests)) numbers
  lanes_step (Duplicate source place sum) lives numbers = put_at (Duplicate source place sum) n (Some place) (λ c. let found = (lives source refl).1 in grind (arith, nat_tests)) numbers
  lanes_step (Relocate copy place) lives numbers = put_at (Relocate copy place) copy (Some place) (λ c. let found = (lives copy refl).1 in grind (arith, nat_tests)) numbers
  lanes_step (Remove copy heir) lives numbers = put_at (Remove copy heir) copy None (λ c. grind (arith, nat_tests)) numbers
  lanes_step (Edit copy sum) lives numbers = stays (Edit copy sum) (λ c. refl) numbers
  lanes_step (Reconcile a b sum) lives numbers = stays (Reconcile a b sum) (λ c. refl) numbers
  lanes_step (Merge a b sum) lives numbers = stays (Merge a b sum) (λ c. refl) numbers
  lanes_step (Note copy sum) lives numbers = stays (Note copy sum) (λ c. refl) numbers
  lanes_step (Confirm entry) lives numbers = stays (Confirm entry) (λ c. refl) numbers
  lanes_step (Withdraw entry) lives numbers = stays (Withdraw entry) (λ c. refl) numbers

-- The lanes so far, and the next row.

-- the lanes behind some of a file's entries
abbrev pub lanes_so_far : List Entry → List Entry → List Lane
lanes_so_far own before = lanes_in (copies_of (filter (counts own) before)) own

empty_each : (numbers : List ℕ) → map lanes.empty_lane numbers ≡ map (lane_in (copies_of [])) numbers
unfolding copies_of
empty_each [] = refl
empty_each (c ∷ numbers) = ap (λ l. lanes.empty_lane c ∷ l) (empty_each numbers)

pub no_lanes : (own : List Entry) → map lanes.empty_lane (made_by own) ≡ lanes_so_far own []
no_lanes own = empty_each (made_by own)

module _ (last : ℕ) (own before : List Entry) (e : Entry) (later : List Entry) (is : own ≡ before ++ e ∷ later) (story : IsStory last own) where
  -- the entry has a number of the journal
  pub number_is : (0 < e.number) × (e.number ≤ last)
  number_is =
      (rises_to 0 before e later (subst (AreRising (λ x. x.number) 0) is story.rising), (each_right (λ x. x.number ≤ last) before (e ∷ later) (subst (AllByRecursion (λ x. x.number ≤ last)) is story.within)).0)

  pub next_row : story_row own e ≡ entry_row (lanes_so_far own before) (withdrawal_of own e.number) e
  next_row =
      ap (λ l. entry_row (lanes_in (copies_of l) own) (withdrawal_of own e.number) e)
      (ap (λ l. filter (λ x. nat_lt x.number e.number) (filter (counts own) l)) is ∙ cut (counts own) 0 before e later (subst (AreRising (λ x. x.number) 0) is story.rising))

  counted_apart : (b : Bool) → counts own e ≡ b → counted own ≡ filter (counts own) before ++ cond b (e ∷ filter (counts own) later) (filter (counts own) later)
  counted_apart b it = ap (filter (counts own)) is ∙ filter-append (counts own) before (e ∷ later) ∙ ap (λ t. filter (counts own) before ++ cond t (e ∷ filter (counts own) later) (filter (counts own) later)) it

  pub next_lanes : (b : Bool) → counts own e ≡ b → lanes_so_far own (before ++ e ∷ []) ≡ cond b (lanes.lanes_after e.number e.report (lanes_so_far own before)) (lanes_so_far own before)
  next_lanes true it =
      let so_far = filter (counts own) before in
      let fit = fit_at so_far e (filter (counts own) later) (subst IsFit (counted_apart true it) story.fit) in
      ap (λ l. lanes_in (copies_of l) own) (filter-append (counts own) before (e ∷ []) ∙ ap (λ t. so_far ++ cond t (e ∷ []) []) it)
      ∙ ap (λ l. lanes_in l own) (copies_of-push so_far e)
      ∙ lanes_step e.number (copies_of so_far) (copies_below e.number so_far fit.0) e.report fit.1 (made_by own)
  next_lanes false it =
      ap (λ l. lanes_in (copies_of l) own) (filter-append (counts own) before (e ∷ []) ∙ ap (λ t. filter (counts own) before ++ cond t (e ∷ []) []) it ∙ append-nil (filter (counts own) before))

-- By the whole journal.

module _ (family : ℕ) (journal : List Entry) (accepted : IsAccepted 8 journal) where
  found_own : (entries : List Entry) → AllByRecursion (IsWell (families journal) (length journal)) entries → (c : ℕ) → families journal c ≡ family
      → copy_in (copies_of entries) c ≡ copy_in (copies_of (entries_of family (families journal) entries)) c
  found_own entries well c of =
      sym (copy_in-family (families journal) (length journal) family c (copies_of entries) (copies_fit (families journal) (length journal) entries well) of)
      ∙ ap (λ l. copy_in l c) (copies_of-family (families journal) (length journal) family entries well)

  well : AllByRecursion (IsWell (families journal) (length journal)) (effective journal)
  well = effective_well 8 journal (accepted_is_sound 8 journal accepted)

  -- the lanes are those of copies of the family
  of_family : AllByRecursion (λ c. families journal c ≡ family) (made_by (own_entries journal family))
  of_family = each (filter (λ e. makes_copy e.report) (own_entries journal family)) (each_filter (λ e. (families journal e.number == family) ≡ true) _ (own_entries journal family) (each_passes (λ e. families journal e.number == family) journal))
    where
      each : (entries : List Entry) → AllByRecursion (λ e. (families journal e.number == family) ≡ true) entries → AllByRecursion (λ c. families journal c ≡ family) (map (λ e. e.number) entries)
      each [] all = tt
      each (e ∷ entries) all = (eqb-true (families journal e.number) family all.0, each entries all.1)

  same_lanes : (copies others : List Copy) → ((c : ℕ) → families journal c ≡ family → copy_in copies c ≡ copy_in others c) → lanes_in copies (own_entries journal family) ≡ lanes_in others (own_entries journal family)
  same_lanes copies others same =
      map_same (lane_in copies) (lane_in others) (λ c. families journal c ≡ family) (made_by (own_entries journal family)) (λ c of. ap (λ o. record { copy = c; place = option_map (λ x. x.place) o }) (same c of)) of_family

  now_same : lanes_in (living journal) (own_entries journal family) ≡ last_lanes (own_entries journal family)
  now_same = same_lanes (living journal) (copies_of (counted (own_entries journal family))) (λ c of. found_own (effective journal) well c of ∙ ap (λ l. copy_in (copies_of l) c) (sym (counted_is family journal accepted)))

  before_same : (n : ℕ) → lanes_in (copies_before journal n) (own_entries journal family) ≡ lanes_in (counted_before (own_entries journal family) n) (own_entries journal family)
  before_same n = same_lanes (copies_before journal n) (counted_before (own_entries journal family) n) (λ c of.
      found_own (filter (λ e. nat_lt e.number n) (effective journal)) (each_filter _ _ (effective journal) well) c of
      ∙ ap (λ l. copy_in (copies_of l) c) (filter_swap (λ e. families journal e.number == family) (λ e. nat_lt e.number n) (effective journal) ∙ ap (filter (λ e. nat_lt e.number n)) (sym (counted_is family journal accepted))))

  rows_same : (entries : List Entry) → map (story_row (own_entries journal family)) entries
      ≡ map (λ e. entry_row (lanes_in (copies_before journal e.number) (own_entries journal family)) (withdrawal_of (own_entries journal family) e.number) e) entries
  rows_same [] = refl
  rows_same (e ∷ entries) = ap₂ (λ r l. entry_row r (withdrawal_of (own_entries journal family) e.number) e ∷ l) (sym (before_same e.number)) (rows_same entries)

  pub rows_are : head_rows (last_lanes (own_entries journal family)) ++ story_rows (own_entries journal family) ≡ rows_of journal family
  rows_are = ap₂ (λ l rows. head_rows l ++ rows) (sym now_same) (rows_same (own_entries journal family))
