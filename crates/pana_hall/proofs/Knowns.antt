-- The tables of sets that a journal gives its families.
use Rattle.pana_hall.proofs.Words.{Note, ◌≡◌, ℕ, true, false, cond, List, [], ◌∷◌, length, ◌<◌, ◌≤◌, ◌==◌, ◌++◌, Option, Some, None, IfSome, option_map, unwrap_or, zero, suc, ◌+◌, ◌-◌, ◌⊎◌, drop}
use Rattle.pana_hall.proofs.Words.{AllByRecursion, filter_map, option_to_list, refl, sym, ap, ◌∙◌, subst, inl, inr, arith, cases_eq, cases_lt, map-append, length-drop, same_from_push, fold-append}
use Rattle.pana_hall.proofs.Words.{filter-append, nat_tests, Report, Register, Duplicate, Edit, Reconcile, Merge, Relocate, Remove, Confirm, Entry, Known, In, IsAbove, set_in, CanReport, StampRow}
use Rattle.pana_hall.proofs.Words.{FamilyReport, One, NamesOf, family_report, is_of_copies, left_out, Copy, after_report, comes, copies_of, copy_in, known_to, made, all_known, pending, last, Accepts}
use Rattle.pana_hall.proofs.Words.{IsAccepted, family_of_next, layer, ap₂, is_in, knowing, any_from, in_append, in_filter, set_of, comes_known, know, know_two, made_known, pass}
use Rattle.pana_hall.proofs.Words.{passed_heir, reported_is, united_known, unless, reported_by}
use Rattle.pana_family.specs.Holders.{is_copy, passed}
use Rattle.pana_family.specs.Table.{copies_of as known_copies}
use Rattle.pana_family.specs.Report as by_family
use Rattle.pana_family.proofs.Images.{in_leave, in_made, one_of, unless_of}
use Rattle.pana_family.proofs.Tables.{Lives as KnownLives}
use Rattle.pana_hall.specs.laws.Sets.{knowns_of}
use Rattle.pana_hall.proofs.Lists.{each_filter, each_passes, each_weaker, filter_made}
use Rattle.pana_hall.proofs.Moves.{Names, Lives, found_number}
use Rattle.pana_hall.proofs.Sound.{each_effective, family_new, own, IsSound, living_fit, named_report, in_accepted, OfCopies, Confirms, Withdraws, kind_of}
use Rattle.pana_hall.proofs.Tables.{own_copy, pending_report, layer_report, layer_undone, layer_confirm, layer_withdraw, layer_other}

-- The tables of sets that entries make, and their copies.

pub knowns_of-push : (entries : List Entry) (entry : Entry) → knowns_of (entries ++ entry ∷ []) ≡ reported_by (knowns_of entries) entry
unfolding knowns_of
knowns_of-push entries entry = fold-append reported_by [] entries (entry ∷ [])

-- the copies of the table are these
abbrev pub Mirrors : List Known → List Copy → Type 0
Mirrors table copies = known_copies table ≡ all_known copies

-- a copy that is found is one of the table
pub record IsCopyIn (table : List Known) (c : ℕ) (x : Copy) : Type 0 where
  pub there : In x.known table
  pub named : x.known.copy ≡ c
  pub free : x.known.holder ≡ None

no_holder : (o : Option ℕ) → is_copy o ≡ true → o ≡ None
no_holder o h1 = grind (arith, nat_tests)

found_known : (copies : List Copy) (c : ℕ) (x : Copy) → copy_in copies c ≡ Some x → In x.known (all_known copies)
found_known [] c x found = absurd (cc)
found_known (y ∷ copies) c x found =
    elim (y.known.copy == c) as (λ b. cond b (Some y) (copy_in copies c) ≡ Some x → In x.known (all_known (y ∷ copies))) [
      | true ↦ λ e. let same : y ≡ x = cc in inl (ap (λ (z : Copy). z.known) (sym same))
      | false ↦ λ e. inr (found_known copies c x e)
    ] found

pub found_there : (table : List Known) (copies : List Copy) (c : ℕ) (x : Copy) → Mirrors table copies → copy_in copies c ≡ Some x → IsCopyIn table c x
found_there table copies c x same found = grind (arith, nat_tests, in_filter, found_known, found_number, no_holder)

-- so it lives there, and what it knows is read there
pub lives_known : (table : List Known) (c : ℕ) (x : Copy) → IsCopyIn table c x → is_in table c ≡ true
lives_known table c x at = grind (arith, nat_tests, any_from)

pub set_known : (table : List Known) (c : ℕ) (x : Copy) → One table → IsCopyIn table c x → set_in table c ≡ x.known.set
set_known table c x one at = ap (set_in table) (sym at.named) ∙ set_of table x.known one at.there

-- What a report makes of the rows of a table.

-- a row keeps its number and stays the copy or the parcel that it was, and entry n touches it if any does
pub record Keeps (n : ℕ) (t s : Known) : Type 0 where
  pub copy : s.copy ≡ t.copy
  pub kind : is_copy s.holder ≡ is_copy t.holder
  pub touch : (s.touch ≡ t.touch) ⊎ (s.touch ≡ n)

module _ (n : ℕ) (table : List Known) where
  stays : (t : Known) → Keeps n t t
  stays t = record { copy = refl; kind = refl; touch = inl refl }

  knows : (both : List ℕ) (t s : Known) → Keeps n t s → Keeps n t (knowing both n s)
  knows both t s keeps = record { copy = keeps.copy; kind = keeps.kind; touch = inr refl }

  passes : (c h : ℕ) (t : Known) → Keeps n t (pass c h t)
  passes c h t = record { copy = refl; kind = held t.holder; touch = inl refl }
    where
      held : (o : Option ℕ) → is_copy (passed c h o) ≡ is_copy o
      held None = refl
      held (Some k) = elim (k == c) as (λ b. is_copy (cond b (Some h) (Some k)) ≡ false) [ true ↦ refl | false ↦ refl ]

  known_keeps : (of : FamilyReport) (t s : Known) → made_known n of table t ≡ Some s → Keeps n t s
  known_keeps of t s h1 = grind (arith, nat_tests, stays, one_of, knows, know_two, know, unless_of, unless, pass, passes)

  -- the row that comes has the entry's number
  known_comes : (of : FamilyReport) (t : Known) → In t (comes_known n of table) → (t.copy ≡ n) × (t.touch ≡ n)
  known_comes of t h1 = grind (arith, nat_tests, in_leave, pass)

  -- so all numbers stay below a greater one
  pub above_reported : (m : ℕ) (of : FamilyReport) → One table → NamesOf of table → n < m → IsAbove m table → IsAbove m (by_family.reported n of table)
  above_reported m of one names less above t i =
      elim (in_append t (filter_map (made_known n of table) table) (comes_known n of table) (subst (In t) (reported_is n of table one names) i)) [
        | inl j ↦
            let from = in_made (made_known n of table) table t j in
            let old = above from.0 from.1 in
            let keeps = known_keeps of from.0 t from.2 in
            let copy = keeps.copy in
            (omega (arith, old.0), elim keeps.touch [ inl e ↦ omega (arith, old.1) | inr e ↦ omega arith ])
        | inr j ↦ let new = known_comes of t j in (omega (arith, new.0), omega (arith, new.1))
      ]

-- A report makes of the copies of a table what it makes of the copies.

module _ (n : ℕ) (table : List Known) (copies : List Copy) where
  -- the table is read as the copies are
  abbrev Reads : Report → Type 0
  Reads report = (c : ℕ) → Names report c → set_in table c ≡ known_to copies c

  alike : (report : Report) → Reads report
      → IfSome (family_report report) (λ of. (x : Copy) → x.known.holder ≡ None → made_known n of table x.known ≡ option_map (λ c. c.known) (made n report copies x))
  alike report h1 = grind (arith, nat_tests, united_known, unless, pass)

  comes_alike : (report : Report) → Reads report → ((c : ℕ) → Names report c → Lives copies c)
      → IfSome (family_report report) (λ of. known_copies (comes_known n of table) ≡ all_known (option_to_list (comes n report copies)))
  comes_alike report h1 h2 = grind (arith, nat_tests, pass, passed_heir)

  made_all : (g : Known → Option Known) (h : Copy → Option Copy) → ((x : Copy) → x.known.holder ≡ None → g x.known ≡ option_map (λ c. c.known) (h x)) → (xs : List Copy) → AllByRecursion (λ t. is_copy t.holder ≡ true) (all_known xs)
      → filter_map g (all_known xs) ≡ all_known (filter_map h xs)
  made_all g h same [] all = refl
  made_all g h same (x ∷ xs) all = grind (arith, nat_tests, no_holder, made_all g h same xs all.1)

  pub mirrors : (report : Report) (of : FamilyReport) → family_report report ≡ Some of → Mirrors table copies → One table → NamesOf of table → ((c : ℕ) → Names report c → Lives copies c)
      → Mirrors (by_family.reported n of table) (after_report n report copies)
  mirrors report of about same one names lives =
      let g = made_known n of table in
      let h = made n report copies in
      let reads : Reads report = λ c is. let there = lives c is in set_known table c there.0 one (found_there table copies c there.0 same there.1) ∙ ap (λ o. unwrap_or (option_map (λ z. z.known.set) o) []) (sym there.1) in
      ap known_copies (reported_is n of table one names)
      ∙ filter-append (λ t. is_copy t.holder) (filter_map g table) (comes_known n of table)
      ∙ ap₂ (λ s t. s ++ t)
      (filter_made (λ t. is_copy t.holder) g (λ t s is. (known_keeps n table of t s is).kind) table ∙ ap (filter_map g) same
      ∙ made_all g h (subst (λ o. IfSome o (λ f. (x : Copy) → x.known.holder ≡ None → made_known n f table x.known ≡ option_map (λ c. c.known) (h x))) about (alike report reads)) copies
      (subst (AllByRecursion (λ t. is_copy t.holder ≡ true)) same (each_passes (λ t. is_copy t.holder) table)))
      (subst (λ o. IfSome o (λ f. known_copies (comes_known n f table) ≡ all_known (option_to_list (comes n report copies)))) about (comes_alike report reads lives))
      ∙ sym (map-append (λ c. c.known) (filter_map h copies) (option_to_list (comes n report copies)))

-- the copies that a report names are different, and live in the table
pub names_known : (report : Report) (rows : List StampRow) (table : List Known) (copies : List Copy) → Mirrors table copies → ((c : ℕ) → Names report c → Lives copies c)
    → IfSome (family_report report) (λ of. CanReport of rows → NamesOf of table)
names_known report rows table copies same lives = by_report report (λ c is. let there = lives c is in by_copy c there.0 (found_there table copies c there.0 same there.1))
  where
    by_copy : (c : ℕ) (x : Copy) → IsCopyIn table c x → KnownLives table c
    by_copy c x at = record { by = x.known; there = at.there; named = at.named; free = at.free }

    by_report : (report : Report) → ((c : ℕ) → Names report c → KnownLives table c) → IfSome (family_report report) (λ of. CanReport of rows → NamesOf of table)
    by_report (Register place sum) there = tt
    by_report (Reconcile a b sum) there = λ can. (there a (inl refl), there b (inr refl), can.2)
    by_report (Merge a b sum) there = λ can. (there a (inl refl), there b (inr refl), can.2)
    by_report (Remove c None) there = λ can. there c refl
    by_report (Remove c (Some h)) there = λ can. (there c (inl refl), there h (inr refl), λ e. can.2 (ap Some e))
    by_report (Duplicate source place sum) there = λ can. there source refl
    by_report (Edit c sum) there = λ can. there c refl
    by_report (Relocate c place) there = λ can. there c refl
    by_report (Note c sum) there = λ can. there c refl
    by_report report there = tt

-- The tables of sets that a journal gives its families: their copies are the families' living copies.

last_all : (k : ℕ) (numbers : List ℕ) → length numbers ≤ k → last k numbers ≡ numbers
last_all k numbers within = let none : length numbers - k ≡ 0 = omega arith in ap (λ i. drop i numbers) none

-- what a journal's layers have in common: it holds of no entry, and an accepted report keeps it
pub record Grows (P : List Entry → Type 0) : Type 0 where
  pub none : P []
  pub step : (journal : List Entry) (entry : Entry) → IsSound 8 journal → Accepts 8 journal entry → is_of_copies entry.report ≡ true
      → P (layer 8 0 (family_of_next journal entry) journal) → P (layer 8 0 (family_of_next journal entry) journal ++ entry ∷ [])

hold_report : (P : List Entry → Type 0) → Grows P → (journal : List Entry) (entry : Entry) → IsSound 8 journal → Accepts 8 journal entry → is_of_copies entry.report ≡ true
    → ((k : ℕ) → P (layer 8 k (family_of_next journal entry) journal)) → (k : ℕ) → P (layer 8 k (family_of_next journal entry) (journal ++ entry ∷ []))
hold_report P grows journal entry sound accepts is all zero =
    subst P (sym (layer_report 8 journal entry sound accepts is)) (grows.step journal entry sound accepts is (all 0))
hold_report P grows journal entry sound accepts is all (suc k) =
    let family = family_of_next journal entry in
    let next : suc k ≡ k + 1 = omega arith in
    elim (cases_lt k 8) [
      | inl within ↦ subst P (sym (ap (λ i. layer 8 i family (journal ++ entry ∷ [])) next ∙ layer_undone 8 k journal entry sound accepts is within)) (all k)
      | inr beyond ↦
          let more = pending 8 family journal ++ entry.number ∷ [] in
          let cut : length (last 8 more) ≤ 8 = let e = length-drop (length more - 8) more in omega arith in
          let pending' = pending_report 8 journal entry sound accepts is in
          let few : length (pending 8 family (journal ++ entry ∷ [])) ≤ 8 = subst (λ l. length l ≤ 8) (sym pending') cut in
          let same : last (suc k) (pending 8 family (journal ++ entry ∷ [])) ≡ last (7 + 1) (pending 8 family (journal ++ entry ∷ [])) =
          last_all (suc k) _ (omega arith) ∙ sym (last_all 8 _ few) in
          subst P (grind (arith, nat_tests, own, layer_undone)) (all 7)
    ]

hold_confirm : (P : List Entry → Type 0) (m : ℕ) (journal : List Entry) (entry : Entry) → IsSound 8 journal → Accepts 8 journal entry → entry.report ≡ Confirm m
    → ((k : ℕ) → P (layer 8 k (family_of_next journal entry) journal)) → (k : ℕ) → P (layer 8 k (family_of_next journal entry) (journal ++ entry ∷ []))
hold_confirm P m journal entry sound accepts is all k =
    let family = family_of_next journal entry in
    let numbers = pending 8 family (journal ++ entry ∷ []) in
    elim (cases_lt (length numbers) k) [
      | inr within ↦ subst P (sym (layer_confirm 8 m k journal entry sound accepts is (omega arith))) (all k)
      | inl beyond ↦
          let same : last k numbers ≡ last (length numbers) numbers = grind (arith, nat_tests) in
          subst P (sym (ap (λ l. left_out l (own family (journal ++ entry ∷ []))) same ∙ layer_confirm 8 m (length numbers) journal entry sound accepts is (omega arith))) (all (length numbers))
    ]

hold_next : (P : List Entry → Type 0) → Grows P → (journal : List Entry) (entry : Entry) → IsSound 8 journal → Accepts 8 journal entry
    → ((k family : ℕ) → P (layer 8 k family journal)) → (k family : ℕ) → P (layer 8 k family (journal ++ entry ∷ []))
hold_next P grows journal entry sound accepts all k family =
    let own = family_of_next journal entry in
    elim (cases_eq own family) [
      | inr other ↦ subst P (sym (layer_other 8 k family journal entry sound accepts other)) (all k family)
      | inl here ↦ subst (λ f. P (layer 8 k f (journal ++ entry ∷ []))) here (elim (kind_of entry.report) [
        | OfCopies is ↦ hold_report P grows journal entry sound accepts is (λ i. all i own) k
        | Confirms m is ↦ hold_confirm P m journal entry sound accepts is (λ i. all i own) k
        | Withdraws m is ↦ subst P (sym (layer_withdraw 8 m k journal entry sound accepts is)) (all (k + 1) own)
      ])
    ]

-- so it holds of each layer of each accepted journal
pub layers_hold : (P : List Entry → Type 0) → Grows P → (journal : List Entry) → IsAccepted 8 journal → (k family : ℕ) → P (layer 8 k family journal)
layers_hold P grows journal accepted =
    in_accepted 8 (λ j. (k family : ℕ) → P (layer 8 k family j)) (λ k family. grows.none) (λ j entry sound accepts all. hold_next P grows j entry sound accepts all) journal accepted

-- the copies that an accepted report is about live among those that the family's entries make
pub read_lives : (journal : List Entry) (entry : Entry) → IsSound 8 journal → Accepts 8 journal entry → (c : ℕ) → Names entry.report c
    → Lives (copies_of (layer 8 0 (family_of_next journal entry) journal)) c
read_lives journal entry sound accepts c names =
    let own = family_of_next journal entry in
    let there = named_report 8 entry.number journal entry.by entry.report c (living_fit 8 journal sound) accepts.free names in
    (there.copy, own_copy journal own c sound (there.of ∙ sym (family_new journal entry)) ∙ there.found)

-- each of the entries is about copies that those before it make
abbrev AreFounded : List Entry → Type 0
AreFounded entries = (before : List Entry) (e : Entry) → entries ≡ before ++ e ∷ [] → (c : ℕ) → Names e.report c → Lives (copies_of before) c

founded_grow : Grows AreFounded
founded_grow = record {
  none = λ before e is. absurd (never before e is);
  step = λ journal entry sound accepts of_copies founded before e is c names. grind (arith, nat_tests, same_from_push, read_lives);
}
  where
    never : (before : List Entry) (e : Entry) → [] ≡ before ++ e ∷ [] → ⊥
    never [] e is = absurd (cc)
    never (x ∷ before) e is = absurd (cc)

pub layer_founded : (journal : List Entry) → IsAccepted 8 journal → (k family : ℕ) → AreFounded (layer 8 k family journal)
layer_founded journal accepted k family = layers_hold AreFounded founded_grow journal accepted k family

pub layer_within : (journal : List Entry) (k family : ℕ) → IsSound 8 journal → AllByRecursion (λ e. e.number ≤ length journal) (layer 8 k family journal)
layer_within journal k family sound = grind (arith, nat_tests, each_filter, each_effective, each_weaker)
