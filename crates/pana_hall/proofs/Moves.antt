-- What a report does to the copies.
use Rattle.pana_hall.proofs.Words.{◌≡◌, ℕ, ◌<◌, true, cond, ◌==◌, List, [], ◌∷◌, ◌++◌, Option, Some, None, is_none, IfSome, option_and_then, ◌⊎◌, ◌≢◌, ◌≤◌, filter, fold, AllByRecursion}
use Rattle.pana_hall.proofs.Words.{filter_map, option_to_list, refl, sym, ap, ◌∙◌, subst, inl, inr, arith, append-nil, eqb-true, Report, Register, Duplicate, Edit, Reconcile, Merge, Relocate, Remove, Note}
use Rattle.pana_hall.proofs.Words.{Confirm, Withdraw, FamilyReport, Place, is_of_copies, family_report, is_register, subject, entries_of, Copy, copy_in, made, comes, after_report}
use Rattle.pana_hall.proofs.Words.{after_entry, displaced, AreRising, filter-append, fold-append, nat_tests, Entry, is_of}
use Rattle.pana_hall.specs.Living.{copies_of}
use Rattle.pana_hall.proofs.Lists.{each_append, each_of, rises_lower, rises_push, each_weaker, found_by, filter_made}

-- a copy of the same family, under the same number
pub record Same (x y : Copy) : Type 0 where
  pub number : y.known.copy ≡ x.known.copy
  pub family : y.family ≡ x.family

-- one that stays is of its family, under its number
pub made_same : (n : ℕ) (report : Report) (copies : List Copy) (x : Copy) → IfSome (made n report copies x) (Same x)
made_same n report copies x = grind (arith, nat_tests)

-- one that comes has the entry's number
pub new_number : (n : ℕ) (report : Report) (copies : List Copy) → IfSome (comes n report copies) (λ x. x.known.copy ≡ n)
new_number n report copies = grind (arith, nat_tests)

-- what holds of each copy that stays and of the new one holds of all
each_stays : (P : Copy → Type 0) (g : Copy → Option Copy) → ((x : Copy) → P x → IfSome (g x) P) → (xs : List Copy) → AllByRecursion P xs → AllByRecursion P (filter_map g xs)
each_stays P g keeps [] each = tt
each_stays P g keeps (x ∷ xs) each = grind (arith, nat_tests, each_stays P g keeps xs each.1)

pub each_after : (P : Copy → Type 0) (n : ℕ) (report : Report) (copies : List Copy) → ((x : Copy) → P x → IfSome (made n report copies x) P) → IfSome (comes n report copies) P
    → AllByRecursion P copies → AllByRecursion P (after_report n report copies)
each_after P n report copies keeps new each = grind (arith, nat_tests, each_append, each_stays)

-- the numbers of the copies are below n
abbrev pub AreBelow : ℕ → List Copy → Type 0
AreBelow n copies = AllByRecursion (λ c. c.known.copy < n) copies

rises_stays : (low : ℕ) (g : Copy → Option Copy) → ((x : Copy) → IfSome (g x) (Same x)) → (xs : List Copy) → AreRising (λ c. c.known.copy) low xs → AreRising (λ c. c.known.copy) low (filter_map g xs)
rises_stays low g keeps [] rises = tt
rises_stays low g keeps (x ∷ xs) rises = grind (arith, nat_tests, rises_stays x.known.copy g keeps xs rises.1, rises_lower)

pub rises_after : (n : ℕ) (report : Report) (copies : List Copy) → 0 < n → AreBelow n copies → AreRising (λ c. c.known.copy) 0 copies → AreRising (λ c. c.known.copy) 0 (after_report n report copies)
rises_after n report copies some below rises =
    let stay = rises_stays 0 (made n report copies) (made_same n report copies) copies rises in
    let all = each_stays (λ c. c.known.copy < n) (made n report copies) (λ x h. grind (arith, nat_tests)) copies below in
    elim (comes n report copies) as (λ o. IfSome o (λ x. x.known.copy ≡ n) → AreRising (λ c. c.known.copy) 0 (filter_map (made n report copies) copies ++ option_to_list o)) [
      | None ↦ λ h. subst (AreRising (λ c. c.known.copy) 0) (sym (append-nil _)) stay
      | Some x ↦ λ h. rises_push (λ c. c.known.copy) 0 _ x stay (subst (λ k. AllByRecursion (λ c. c.known.copy < k) (filter_map (made n report copies) copies)) (sym h) all) (subst (λ k. 0 < k) (sym h) some)
    ] (new_number n report copies)

abbrev pub Lives : List Copy → ℕ → Type 0
Lives copies c = (x : Copy) × (copy_in copies c ≡ Some x)

-- a copy that is found has the number
pub found_number : (copies : List Copy) (a : ℕ) (copy : Copy) → copy_in copies a ≡ Some copy → copy.known.copy ≡ a
found_number copies a copy found = eqb-true copy.known.copy a (found_by (λ c. c.known.copy == a) (λ c. Unit {0}) copies copy (each_of (λ c. Unit {0}) (λ c. tt) copies) found).0

pub none_below : (n : ℕ) (copies : List Copy) → AreBelow n copies → copy_in copies n ≡ None
none_below n [] below = refl
none_below n (c ∷ copies) below = grind (arith, nat_tests, none_below n copies below.1)

-- a new copy is found where no earlier one is
pub found_push : (copies : List Copy) (new : Copy) (a : ℕ) → AreBelow new.known.copy copies → copy_in (copies ++ new ∷ []) a ≡ cond (a == new.known.copy) (Some new) (copy_in copies a)
found_push [] new a below = grind (arith, nat_tests)
found_push (c ∷ copies) new a below = grind (arith, nat_tests, found_push copies new a below.1)

-- where none comes, a copy is found as it stays
found_among : (g : Copy → Option Copy) → ((x : Copy) → IfSome (g x) (Same x)) → ((x y : Copy) → g x ≡ None → y.known.copy ≡ x.known.copy → g y ≡ None)
    → (copies : List Copy) (a : ℕ) → copy_in (filter_map g copies) a ≡ option_and_then g (copy_in copies a)
found_among g keeps gone [] a = refl
found_among g keeps gone (x ∷ copies) a = grind (arith, nat_tests, found_among g keeps gone copies a, found_number)

pub found_after : (n : ℕ) (report : Report) (copies : List Copy) (a : ℕ) → comes n report copies ≡ None → copy_in (after_report n report copies) a ≡ option_and_then (made n report copies) (copy_in copies a)
found_after n report copies a none = grind (arith, nat_tests, append-nil, found_among, made_same)

-- a report of copies begins a family, or changes one that has begun
pub made_of : (report : Report) → is_of_copies report ≡ true → ((place : Place) × (sum : Option (List ℕ)) × (report ≡ Register place sum)) ⊎ ((of : FamilyReport) × (family_report report ≡ Some of))
made_of (Register place sum) is = inl (place, sum, refl)
made_of (Confirm m) is = absurd (cc)
made_of (Withdraw m) is = absurd (cc)
made_of report is = inr (_, refl)

-- the report is about this copy
abbrev pub Names : Report → ℕ → Type 0
Names (Duplicate source place sum) c = source ≡ c
Names (Edit x sum) c = x ≡ c
Names (Reconcile a b sum) c = (a ≡ c) ⊎ (b ≡ c)
Names (Merge a b sum) c = (a ≡ c) ⊎ (b ≡ c)
Names (Relocate x place) c = x ≡ c
Names (Note x sum) c = x ≡ c
Names (Remove x None) c = x ≡ c
Names (Remove x (Some heir)) c = (x ≡ c) ⊎ (heir ≡ c)
Names _ c = ⊥

pub removed_named : (c : ℕ) (heir : Option ℕ) → Names (Remove c heir) c
removed_named c heir = grind (arith, nat_tests)

-- a copy that it moves or removes is one that it is about
pub displaced_named : (report : Report) (c : ℕ) → displaced report ≡ Some c → Names report c
displaced_named report c e = grind (arith, nat_tests)

-- the family of a report is that of a copy or an entry that it is about
pub subject_named : (report : Report) (c : ℕ) → subject report ≡ Some c → Names report c ⊎ ((report ≡ Confirm c) ⊎ (report ≡ Withdraw c))
subject_named report c e = grind (arith, nat_tests)

pub subject_none : (report : Report) → is_register report ≡ is_none (subject report)
subject_none report = grind (arith, nat_tests)

-- The living copies of a family come from the family's entries alone.

-- entry n names an earlier copy of its family
pub record Joins (of : ℕ → ℕ) (n copy : ℕ) : Type 0 where
  pub earlier : copy < n
  pub family : of copy ≡ of n

-- entry n's report begins its family, or is about copies of it
pub record Belongs (of : ℕ → ℕ) (n : ℕ) (report : Report) : Type 0 where
  pub own : is_register report ≡ true → of n ≡ n
  pub joins : (c : ℕ) → Names report c → Joins of n c

-- an entry of a journal with this many entries
pub record IsWell (of : ℕ → ℕ) (last : ℕ) (entry : Entry) : Type 0 where
  pub belongs : Belongs of entry.number entry.report
  pub within : entry.number ≤ last
  pub bounded : of entry.number ≤ last

-- a copy that such entries make
pub record Fits (of : ℕ → ℕ) (last : ℕ) (copy : Copy) : Type 0 where
  pub family : copy.family ≡ of copy.known.copy
  pub within : copy.known.copy ≤ last
  pub bounded : copy.family ≤ last

-- a copy that is found has the number, and fits
pub found_fits : (of : ℕ → ℕ) (last number : ℕ) (copies : List Copy) (copy : Copy) → AllByRecursion (Fits of last) copies → copy_in copies number ≡ Some copy
    → (copy.known.copy ≡ number) × Fits of last copy
found_fits of last number copies copy fits found = grind (arith, nat_tests, found_by)

-- what a report leaves fits
new_fits : (of : ℕ → ℕ) (last n : ℕ) (report : Report) (copies : List Copy) → Belongs of n report → n ≤ last → AllByRecursion (Fits of last) copies → IfSome (comes n report copies) (Fits of last)
new_fits of last n report copies h1 h2 h3 = grind (arith, nat_tests, found_fits)

pub report_fits : (of : ℕ → ℕ) (last n : ℕ) (report : Report) (copies : List Copy) → Belongs of n report → n ≤ last
    → AllByRecursion (Fits of last) copies → AllByRecursion (Fits of last) (after_report n report copies)
report_fits of last n report copies belongs within fits = grind (arith, nat_tests, each_after, made_same, new_fits)

-- where a copy's family is that of its number, the copies of the family have the copy too
pub copy_in-family : (of : ℕ → ℕ) (last family number : ℕ) (copies : List Copy) → AllByRecursion (Fits of last) copies → of number ≡ family
    → copy_in (filter (is_of family) copies) number ≡ copy_in copies number
copy_in-family of last family number [] fits here = refl
copy_in-family of last family number (copy ∷ copies) fits here = grind (arith, nat_tests, copy_in-family of last family number copies fits.1 here)

stay_alike : (g h : Copy → Option Copy) → ((x : Copy) → g x ≡ h x) → (xs : List Copy) → filter_map g xs ≡ filter_map h xs
stay_alike g h alike [] = refl
stay_alike g h alike (x ∷ xs) = grind (arith, nat_tests, stay_alike g h alike xs)

left_alone : (family : ℕ) (g : Copy → Option Copy) (xs : List Copy) → AllByRecursion (λ x. is_of family x ≡ true → g x ≡ Some x) xs → filter_map g (filter (is_of family) xs) ≡ filter (is_of family) xs
left_alone family g [] all = refl
left_alone family g (x ∷ xs) all = grind (arith, nat_tests, left_alone family g xs all.1)

-- the copy that comes is of the entry's family
new_there : (of : ℕ → ℕ) (last family n : ℕ) (report : Report) (copies : List Copy) → AllByRecursion (Fits of last) copies → Belongs of n report → n ≤ last
    → filter (is_of family) (option_to_list (comes n report copies)) ≡ cond (of n == family) (option_to_list (comes n report copies)) []
new_there of last family n report copies fits belongs within =
    elim (comes n report copies) as (λ o. IfSome o (Fits of last) → IfSome o (λ x. x.known.copy ≡ n) → filter (is_of family) (option_to_list o) ≡ cond (of n == family) (option_to_list o) []) [
      | None ↦ λ h k. grind (arith, nat_tests)
      | Some x ↦ λ h k. ap (λ f. cond (f == family) (x ∷ []) []) (h.family ∙ ap of k)
    ] (new_fits of last n report copies belongs within fits) (new_number n report copies)

-- a family sees its own entry
pub entry-here : (of : ℕ → ℕ) (last family n : ℕ) (report : Report) (copies : List Copy) → AllByRecursion (Fits of last) copies → Belongs of n report → n ≤ last → of n ≡ family
    → filter (is_of family) (after_report n report copies) ≡ after_report n report (filter (is_of family) copies)
entry-here of last family n report copies fits belongs within here = grind (arith, nat_tests, copy_in-family, filter-append, filter_made, made_same, stay_alike, new_there)

-- and no other one's
pub entry-other : (of : ℕ → ℕ) (last family n : ℕ) (report : Report) (copies : List Copy) → AllByRecursion (Fits of last) copies → Belongs of n report → n ≤ last → of n ≢ family
    → filter (is_of family) (after_report n report copies) ≡ filter (is_of family) copies
entry-other of last family n report copies fits belongs within other = grind (arith, nat_tests, filter-append, filter_made, made_same, left_alone, each_weaker, new_there, append-nil)

pub fold_fits : (of : ℕ → ℕ) (last : ℕ) (copies : List Copy) (entries : List Entry) → AllByRecursion (IsWell of last) entries → AllByRecursion (Fits of last) copies
    → AllByRecursion (Fits of last) (fold after_entry copies entries)
fold_fits of last copies [] well fits = fits
fold_fits of last copies (entry ∷ entries) well fits =
    fold_fits of last (after_entry copies entry) entries well.1 (grind (arith, nat_tests, report_fits))

fold-family : (of : ℕ → ℕ) (last family : ℕ) (copies : List Copy) (entries : List Entry) → AllByRecursion (IsWell of last) entries → AllByRecursion (Fits of last) copies
    → filter (is_of family) (fold after_entry copies entries) ≡ fold after_entry (filter (is_of family) copies) (entries_of family of entries)
fold-family of last family copies [] well fits = refl
fold-family of last family copies (entry ∷ entries) well fits =
    let more = after_entry copies entry in
    grind (arith, nat_tests, fold-family of last family more entries well.1 (grind (arith, nat_tests, report_fits)), report_fits, entry-here, entry-other)

-- the copies of entries fit
pub copies_fit : (of : ℕ → ℕ) (last : ℕ) (entries : List Entry) → AllByRecursion (IsWell of last) entries → AllByRecursion (Fits of last) (copies_of entries)
unfolding copies_of
copies_fit of last entries well = fold_fits of last [] entries well tt

-- the copies of a family are those of its entries
pub copies_of-family : (of : ℕ → ℕ) (last family : ℕ) (entries : List Entry) → AllByRecursion (IsWell of last) entries
    → filter (is_of family) (copies_of entries) ≡ copies_of (entries_of family of entries)
unfolding copies_of
copies_of-family of last family entries well = fold-family of last family [] entries well tt

-- one entry more
pub copies_of-push : (entries : List Entry) (entry : Entry) → copies_of (entries ++ entry ∷ []) ≡ after_entry (copies_of entries) entry
unfolding copies_of
copies_of-push entries entry = fold-append after_entry [] entries (entry ∷ [])
