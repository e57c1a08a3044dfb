-- What holds of each journal that refuses none of its entries.
use Rattle.pana_hall.proofs.Words.{Note, ◌≡◌, ℕ, Bool, true, false, not, List, ◌∷◌, Option, Some, None, find, ◌≢◌, ◌<◌, cond, ◌&&◌, ◌||◌, ◌==◌, [], ◌++◌, filter, fold, ◌+◌, ◌≤◌, length, map, slice_get, ◌⊎◌}
use Rattle.pana_hall.proofs.Words.{then_some, refl, ap, ◌∙◌, arith, append-nil, sym, subst, inl, inr, append_assoc, eq-eqb, ne_eqb, cases_eq, Place, same_place, Entry, entry_at, Cause, families}
use Rattle.pana_hall.proofs.Words.{begun_or_joined, subject, entries_of, is_of_copies, effective, Copy, copy_in, living, against, unknown, taken, other_family, first, report_refusal, full, same}
use Rattle.pana_hall.proofs.Words.{pending_with, settled_or_followed, taken_since, AllByRecursion, filter-append, filter_agree, fold-append, Report, Confirm, Withdraw, Duplicate, Edit, Reconcile}
use Rattle.pana_hall.proofs.Words.{Merge, Relocate, Remove, pending, pend, last, behind, is_last, length-append, map-append, nat_tests, Accepts, AcceptsAll, IsAccepted, AreRising, family_of_next}
use Rattle.pana_hall.proofs.Words.{withdraws, is_withdrawn, against_two}
use Rattle.pana_hall.proofs.Lists.{filter_true, each_filter, each_passes, each_weaker, filter_same, filter_all, filter_swap, any_push, each_append, last_is_end, behind_is_end, map_filter, rises_push, slice_get-push_cases, slice_get-each, at-append, at-push, entry_at_place}
use Rattle.pana_hall.proofs.Moves.{Names, subject_none, subject_named, Belongs, IsWell, Fits, found_fits, copies_fit}

-- What follows for the journal where a report isn't refused.

-- none of the causes holds
abbrev pub AreNone : List (Option Cause) → Type 0
AreNone causes = AllByRecursion (λ cause. cause ≡ None) causes

pub all_none : (causes : List (Option Cause)) → first causes ≡ None → AreNone causes
all_none (None ∷ causes) e = (refl, all_none causes e)
all_none causes e = grind (arith, nat_tests)

pub none_against : (most : ℕ) (journal : List Entry) (copies : List Copy) (by : List ℕ) (report : Report) → report_refusal most journal copies by report ≡ None → AreNone (full journal ∷ against most journal copies by report)
none_against most journal copies by report free = all_none (full journal ∷ against most journal copies by report) free

pub none_false : (b : Bool) (cause : Cause) → then_some b cause ≡ None → b ≡ false
none_false b cause h1 = grind (arith, nat_tests)

pub known : (number : ℕ) (copies : List Copy) → unknown number copies ≡ None → (copy : Copy) × (copy_in copies number ≡ Some copy)
known number copies e = grind (arith, nat_tests)

pub free_place : (place : Place) (copies : List Copy) → taken place copies ≡ None → find (λ copy. same_place copy.place place) copies ≡ None
free_place place copies e = grind (arith, nat_tests)

-- What one entry more makes of a journal's families, effective entries and pending lists.

-- the entry, where it is a report of copies
abbrev pub counted : Entry → List Entry
counted entry = cond (is_of_copies entry.report) (entry ∷ []) []

-- the entries that this one leaves
abbrev pub kept_by : Entry → List Entry → List Entry
kept_by entry entries = filter (λ e. not (withdraws e.number entry.report)) entries

pub effective-push : (journal : List Entry) (entry : Entry) → effective (journal ++ entry ∷ []) ≡ kept_by entry (effective journal) ++ counted entry
effective-push [] entry = elim (is_of_copies entry.report) as (λ b. cond (b && true) (entry ∷ []) [] ≡ cond b (entry ∷ []) []) [ true ↦ refl | false ↦ refl ]
effective-push (x ∷ journal) entry =
    let rest = effective-push journal entry in
    let more = effective (journal ++ entry ∷ []) in
    ap (λ b. cond (is_of_copies x.report && not b) (x ∷ more) more) (any_push (λ e. withdraws x.number e.report) journal entry)
    ∙ elim (is_of_copies x.report) as (λ b. cond (b && not (is_withdrawn x.number journal || withdraws x.number entry.report)) (x ∷ more) more
    ≡ kept_by entry (cond (b && not (is_withdrawn x.number journal)) (x ∷ effective journal) (effective journal)) ++ counted entry) [
      | false ↦ rest
      | true ↦ grind (arith, nat_tests)
    ]

-- what holds of each entry holds of the effective ones
pub each_effective : (P : Entry → Type 0) (journal : List Entry) → AllByRecursion P journal → AllByRecursion P (effective journal)
each_effective P [] each = tt
each_effective P (x ∷ journal) each = grind (arith, nat_tests, each_effective P journal each.1)

-- a report of copies withdraws nothing
withdraws_nothing : (report : Report) (n : ℕ) → is_of_copies report ≡ true → withdraws n report ≡ false
withdraws_nothing report n h1 = grind (arith, nat_tests)

pub effective-copies : (journal : List Entry) (entry : Entry) → is_of_copies entry.report ≡ true → effective (journal ++ entry ∷ []) ≡ effective journal ++ entry ∷ []
effective-copies journal entry of_copies =
    effective-push journal entry
    ∙ ap (λ l. l ++ counted entry) (filter_agree _ (λ e. true) (λ e. ap not (withdraws_nothing entry.report e.number of_copies)) (effective journal) ∙ filter_true (effective journal))
    ∙ ap (λ b. effective journal ++ cond b (entry ∷ []) []) of_copies

pub effective-confirm : (journal : List Entry) (entry : Entry) (m : ℕ) → entry.report ≡ Confirm m → effective (journal ++ entry ∷ []) ≡ effective journal
effective-confirm journal entry m is =
    effective-push journal entry
    ∙ ap (λ r. filter (λ e. not (withdraws e.number r)) (effective journal) ++ cond (is_of_copies r) (entry ∷ []) []) is ∙ append-nil _ ∙ filter_true (effective journal)

-- the new entry's family, and the families of those before it
pub family_new : (journal : List Entry) (entry : Entry) → families (journal ++ entry ∷ []) entry.number ≡ begun_or_joined (families journal) entry.number (subject entry.report)
family_new journal entry = grind (arith, nat_tests, fold-append)

pub family_old : (journal : List Entry) (entry : Entry) (n : ℕ) → n < entry.number → families (journal ++ entry ∷ []) n ≡ families journal n
family_old journal entry n earlier = grind (arith, nat_tests, fold-append)

-- entries with numbers of which two tables of families say the same
pub entries_of-same : (family : ℕ) (of of' : ℕ → ℕ) (entries : List Entry) → AllByRecursion (λ e. of' e.number ≡ of e.number) entries → entries_of family of' entries ≡ entries_of family of entries
entries_of-same family of of' entries same = grind (arith, nat_tests, filter_same, each_weaker)

-- the effective entries of a family
abbrev pub own : ℕ → List Entry → List Entry
own family journal = entries_of family (families journal) (effective journal)

-- the entries so far are of the families that they were of
abbrev pub KeepsFamilies : List Entry → Entry → Type 0
KeepsFamilies journal entry = AllByRecursion (λ e. families (journal ++ entry ∷ []) e.number ≡ families journal e.number) journal

entries_of-push : (family : ℕ) (journal : List Entry) (entry : Entry) (entries : List Entry)
    → AllByRecursion (λ e. families (journal ++ entry ∷ []) e.number ≡ families journal e.number) entries
    → entries_of family (families (journal ++ entry ∷ [])) (entries ++ entry ∷ [])
    ≡ entries_of family (families journal) entries ++ cond (families (journal ++ entry ∷ []) entry.number == family) (entry ∷ []) []
entries_of-push family journal entry entries same = grind (arith, nat_tests, filter-append, entries_of-same)

pub own_copies : (family : ℕ) (journal : List Entry) (entry : Entry) → KeepsFamilies journal entry → is_of_copies entry.report ≡ true
    → own family (journal ++ entry ∷ []) ≡ own family journal ++ cond (families (journal ++ entry ∷ []) entry.number == family) (entry ∷ []) []
own_copies family journal entry same of_copies = cc (effective-copies journal entry of_copies, entries_of-push family journal entry (effective journal) (each_effective _ journal same))

pub own_confirm : (family : ℕ) (journal : List Entry) (entry : Entry) (m : ℕ) → KeepsFamilies journal entry → entry.report ≡ Confirm m
    → own family (journal ++ entry ∷ []) ≡ own family journal
own_confirm family journal entry m same is =
    ap (entries_of family (families (journal ++ entry ∷ []))) (effective-confirm journal entry m is)
    ∙ entries_of-same family (families journal) (families (journal ++ entry ∷ [])) (effective journal) (each_effective _ journal same)

pub own_withdraw : (family : ℕ) (journal : List Entry) (entry : Entry) (m : ℕ) → KeepsFamilies journal entry → entry.report ≡ Withdraw m
    → own family (journal ++ entry ∷ []) ≡ filter (λ e. not (m == e.number)) (own family journal)
own_withdraw family journal entry m same is = grind (arith, nat_tests, effective-push, append-nil, entries_of-same, each_filter, each_effective, filter_swap)

-- none of the family's entries has a number of another family
pub own_other : (family : ℕ) (of : ℕ → ℕ) (m : ℕ) (entries : List Entry) → of m ≢ family → filter (λ e. not (m == e.number)) (entries_of family of entries) ≡ entries_of family of entries
own_other family of m entries other = grind (arith, nat_tests, filter_all, each_weaker, each_passes)

pub pending_is : (most family : ℕ) (journal : List Entry) (entry : Entry) (report : Report) → KeepsFamilies journal entry → entry.report ≡ report
    → pending most family (journal ++ entry ∷ []) ≡ cond (families (journal ++ entry ∷ []) entry.number == family) (pend most entry.number report (pending most family journal)) (pending most family journal)
pending_is most family journal entry report same is =
    ap (λ l. fold (λ numbers e. pend most e.number e.report numbers) [] l) (entries_of-push family journal entry journal same)
    ∙ fold-append (λ numbers e. pend most e.number e.report numbers) [] (entries_of family (families journal) journal) _
    ∙ elim (families (journal ++ entry ∷ []) entry.number == family) as (λ b. fold (λ numbers e. pend most e.number e.report numbers) (pending most family journal) (cond b (entry ∷ []) [])
    ≡ cond b (pend most entry.number report (pending most family journal)) (pending most family journal)) [ true ↦ ap (λ r. pend most entry.number r (pending most family journal)) is | false ↦ refl ]

-- What holds of each journal that refuses none of its entries.

-- the pending numbers of a family are the last ones of its effective entries
abbrev pub EndsInPending : ℕ → ℕ → List Entry → Type 0
EndsInPending most family journal = (prefix : List ℕ) × (map (λ e. e.number) (own family journal) ≡ prefix ++ pending most family journal)

pub record IsSound (most : ℕ) (journal : List Entry) : Type 0 where
  pub well : AllByRecursion (IsWell (families journal) (length journal)) journal
  pub found : AllByRecursion (λ e. entry_at journal e.number ≡ Some e) journal
  pub numbered : (i : ℕ) (e : Entry) → slice_get journal i ≡ Some e → e.number ≡ i + 1
  pub rising : AreRising (λ e. e.number) 0 journal
  pub ends : (family : ℕ) → EndsInPending most family journal

pub effective_well : (most : ℕ) (journal : List Entry) → IsSound most journal → AllByRecursion (IsWell (families journal) (length journal)) (effective journal)
effective_well most journal sound = each_effective _ journal sound.well

pub living_fit : (most : ℕ) (journal : List Entry) → IsSound most journal → AllByRecursion (Fits (families journal) (length journal)) (living journal)
living_fit most journal sound = grind (arith, nat_tests, copies_fit, each_effective)

-- the copy lives, and is of the family
pub record LivesIn (journal : List Entry) (family c : ℕ) : Type 0 where
  pub copy : Copy
  pub found : copy_in (living journal) c ≡ Some copy
  pub of : families journal c ≡ family

abbrev pub AllFit : List Entry → Type 0
AllFit journal = AllByRecursion (Fits (families journal) (length journal)) (living journal)

pub found_family : (journal : List Entry) (c : ℕ) (copy : Copy) → AllFit journal → copy_in (living journal) c ≡ Some copy → copy.family ≡ families journal c
found_family journal c copy fits found = grind (arith, nat_tests, found_fits)

one : (journal : List Entry) (c d : ℕ) → unknown c (living journal) ≡ None → c ≡ d → LivesIn journal (families journal c) d
one journal c d open_ e = grind (arith, nat_tests, known)

-- so do two copies of one family
pub beside : (journal : List Entry) (a b : ℕ) → AllFit journal → unknown a (living journal) ≡ None → unknown b (living journal) ≡ None → other_family a b (living journal) ≡ None → LivesIn journal (families journal a) b
beside journal a b fits here there alike = grind (arith, nat_tests, known, found_family)

two : (journal : List Entry) (a b c : ℕ) → AllFit journal → AreNone (against_two a b (living journal)) → (a ≡ c) ⊎ (b ≡ c) → LivesIn journal (families journal a) c
two journal a b c fits none names = grind (arith, nat_tests, one, beside)

-- the copies that a report is about live, in its family
pub named_report : (most n : ℕ) (journal : List Entry) (by : List ℕ) (report : Report) (c : ℕ) → AllFit journal → report_refusal most journal (living journal) by report ≡ None → Names report c
    → LivesIn journal (begun_or_joined (families journal) n (subject report)) c
named_report most n journal by report c fits free names = live report (none_against most journal (living journal) by report free).1 names
  where
    live : (report : Report) → AreNone (against most journal (living journal) by report) → Names report c → LivesIn journal (begun_or_joined (families journal) n (subject report)) c
    live (Duplicate source place sum) none names = one journal source c none.0 names
    live (Edit x sum) none names = one journal x c none.0 names
    live (Reconcile a b sum) none names = two journal a b c fits none names
    live (Merge a b sum) none names = two journal a b c fits none names
    live (Relocate x place) none names = one journal x c none.0 names
    live (Note x sum) none names = one journal x c none.0 names
    live (Remove x None) none names = one journal x c none.0 names
    live (Remove x (Some heir)) none names = two journal x heir c fits none names
    live report none names = absurd names

-- the report of the next entry is about copies of its family
belongs_new : (most : ℕ) (journal : List Entry) (of' : ℕ → ℕ) (n : ℕ) (by : List ℕ) (report : Report) → AllFit journal
    → n ≡ length journal + 1 → ((k : ℕ) → k < n → of' k ≡ families journal k) → of' n ≡ begun_or_joined (families journal) n (subject report)
    → report_refusal most journal (living journal) by report ≡ None → Belongs of' n report
belongs_new most journal of' n by report fits next old new free = grind (arith, nat_tests, subject_none, named_report, found_fits)

-- the entries before the next one stay in their families
pub keeps_families : (most : ℕ) (journal : List Entry) (entry : Entry) → IsSound most journal → entry.number ≡ length journal + 1 → KeepsFamilies journal entry
keeps_families most journal entry sound next = grind (arith, nat_tests, each_weaker, family_old)

-- what that of a Withdraw says besides: the entry is the last that is pending
pub withdraw_free : (most m : ℕ) (journal : List Entry) (by : List ℕ) (report : Report) → report ≡ Withdraw m → report_refusal most journal (living journal) by report ≡ None
    → (is_last m (pending_with most m journal) ≡ true) × (settled_or_followed most m journal ≡ None) × (taken_since m journal ≡ None)
withdraw_free most m journal by report is free = grind (arith, nat_tests)

-- the family of a Confirm or a Withdraw is that of the entry that it names
pub family_named : (most : ℕ) (journal : List Entry) (entry : Entry) (m : ℕ) → (entry.report ≡ Confirm m) ⊎ (entry.report ≡ Withdraw m)
    → families (journal ++ entry ∷ []) entry.number ≡ families journal m
family_named most journal entry m h1 = grind (arith, nat_tests, family_new)

-- reports by kind: of copies, a Confirm or a Withdraw
pub data Kind (report : Report) : Type 0 where
  OfCopies : (is : is_of_copies report ≡ true) → Kind report
  Confirms : (m : ℕ) → (is : report ≡ Confirm m) → Kind report
  Withdraws : (m : ℕ) → (is : report ≡ Withdraw m) → Kind report

pub kind_of : (report : Report) → Kind report
kind_of (Confirm m) = Confirms m refl
kind_of (Withdraw m) = Withdraws m refl
kind_of report = OfCopies refl

-- what a report of copies makes of its family's pending numbers
pub pend_copies : (most n : ℕ) (report : Report) (numbers : List ℕ) → is_of_copies report ≡ true → pend most n report numbers ≡ last most (numbers ++ n ∷ [])
pend_copies most n report numbers e = grind (arith, nat_tests)

-- the family of the next entry is its own number, or an earlier one
bounded_new : (most : ℕ) (journal : List Entry) (n : ℕ) (by : List ℕ) (report : Report) → IsSound most journal → n ≡ length journal + 1
    → report_refusal most journal (living journal) by report ≡ None → begun_or_joined (families journal) n (subject report) ≤ n
bounded_new most journal n by report sound next free =
    let fits = living_fit most journal sound in
    grind (arith, nat_tests, subject_named, named_report, found_fits, found_family, entry_at_place, slice_get-each)

-- a report of copies is the last of its family's entries
pub own_report : (most : ℕ) (journal : List Entry) (entry : Entry) → IsSound most journal → Accepts most journal entry → is_of_copies entry.report ≡ true
    → own (family_of_next journal entry) (journal ++ entry ∷ []) ≡ own (family_of_next journal entry) journal ++ entry ∷ []
own_report most journal entry sound accepts of_copies =
    let family = family_of_next journal entry in
    own_copies family journal entry (keeps_families most journal entry sound accepts.next) of_copies ∙ ap (λ b. own family journal ++ cond b (entry ∷ []) []) (eq-eqb family family refl)

-- the family's pending list after its next entry
pub pends_by : (most : ℕ) (journal : List Entry) (entry : Entry) (report : Report) → KeepsFamilies journal entry → entry.report ≡ report
    → pending most (family_of_next journal entry) (journal ++ entry ∷ []) ≡ pend most entry.number report (pending most (family_of_next journal entry) journal)
pends_by most journal entry report keeps is =
    let family = family_of_next journal entry in
    pending_is most family journal entry report keeps is ∙ ap (λ b. cond b (pend most entry.number report (pending most family journal)) (pending most family journal)) (eq-eqb family family refl)

pub pends : (most : ℕ) (journal : List Entry) (entry : Entry) (report : Report) → IsSound most journal → Accepts most journal entry → entry.report ≡ report
    → pending most (family_of_next journal entry) (journal ++ entry ∷ []) ≡ pend most entry.number report (pending most (family_of_next journal entry) journal)
pends most journal entry report sound accepts is = pends_by most journal entry report (keeps_families most journal entry sound accepts.next) is

-- it leaves the entries of the other families, and what is pending there
pub left_by : (most family : ℕ) (journal : List Entry) (entry : Entry) → KeepsFamilies journal entry → families (journal ++ entry ∷ []) entry.number ≢ family
    → (own family (journal ++ entry ∷ []) ≡ own family journal) × (pending most family (journal ++ entry ∷ []) ≡ pending most family journal)
left_by most family journal entry keeps other =
    let apart : (families (journal ++ entry ∷ []) entry.number == family) ≡ false = ne_eqb (families (journal ++ entry ∷ []) entry.number) family other in (
      elim (kind_of entry.report) [
        | OfCopies is ↦ own_copies family journal entry keeps is ∙ ap (λ b. own family journal ++ cond b (entry ∷ []) []) apart ∙ append-nil (own family journal)
        | Confirms m is ↦ own_confirm family journal entry m keeps is
        | Withdraws m is ↦ own_withdraw family journal entry m keeps is ∙ own_other family (families journal) m (effective journal) (λ h. other (family_named most journal entry m (inr is) ∙ h))
      ],
      pending_is most family journal entry entry.report keeps refl ∙ ap (λ b. cond b (pend most entry.number entry.report (pending most family journal)) (pending most family journal)) apart,
    )

end_of : (whole middle end : List ℕ) → ((prefix : List ℕ) × (whole ≡ prefix ++ middle)) → ((prefix : List ℕ) × (middle ≡ prefix ++ end)) → (prefix : List ℕ) × (whole ≡ prefix ++ end)
end_of whole middle end first second = (first.0 ++ second.0, first.1 ∙ ap (λ l. first.0 ++ l) second.1 ∙ sym (append_assoc first.0 second.0 end))

-- and each family's pending numbers stay the last ones of its effective entries
ends_next : (most : ℕ) (journal : List Entry) (entry : Entry) → IsSound most journal → Accepts most journal entry → (family : ℕ) → EndsInPending most family (journal ++ entry ∷ [])
ends_next most journal entry sound accepts family =
    let keeps = keeps_families most journal entry sound accepts.next in
    let own_family = family_of_next journal entry in
    let ends = sound.ends own_family in
    let numbers = pending most own_family journal in
    elim (cases_eq own_family family) [
      | inr other ↦ let left = left_by most family journal entry keeps other in rw (left.0, left.1) (sound.ends family)
      | inl here ↦ subst (λ f. EndsInPending most f (journal ++ entry ∷ [])) here (elim (kind_of entry.report) [
        | OfCopies is ↦
            rw (own_report most journal entry sound accepts is, pends most journal entry entry.report sound accepts refl, pend_copies most entry.number entry.report numbers is)
            (end_of _ (numbers ++ entry.number ∷ []) (last most (numbers ++ entry.number ∷ []))
            (ends.0, map-append (λ e. e.number) (own own_family journal) (entry ∷ []) ∙ ap (λ l. l ++ entry.number ∷ []) ends.1 ∙ append_assoc ends.0 numbers (entry.number ∷ []))
            (last_is_end most (numbers ++ entry.number ∷ [])))
        | Confirms m is ↦ rw (own_confirm own_family journal entry m keeps is, pends most journal entry (Confirm m) sound accepts is) (end_of _ numbers (behind m numbers) ends (behind_is_end m numbers))
        | Withdraws m is ↦ rw (own_withdraw own_family journal entry m keeps is, pends most journal entry (Withdraw m) sound accepts is) (
          filter (λ n. not (m == n)) ends.0,
          map_filter (λ e. e.number) (λ n. not (m == n)) (own own_family journal) ∙ ap (filter (λ n. not (m == n))) ends.1 ∙ filter-append _ ends.0 numbers,
        )
      ])
    ]

-- one entry more that isn't refused
pub sound_grows : (most : ℕ) (journal : List Entry) (entry : Entry) → IsSound most journal → Accepts most journal entry → IsSound most (journal ++ entry ∷ [])
sound_grows most journal entry sound accepts =
    let keeps = keeps_families most journal entry sound accepts.next in
    let next = accepts.next in
    let longer : length (journal ++ entry ∷ []) ≡ length journal + 1 = length-append journal (entry ∷ []) in
    let of' = families (journal ++ entry ∷ []) in
    let old : (k : ℕ) → k < entry.number → of' k ≡ families journal k = family_old journal entry in
    record {
      well = each_append _ journal (entry ∷ [])
          (grind (arith, nat_tests, each_weaker)) (
            record {
              belongs = belongs_new most journal of' entry.number entry.by entry.report (living_fit most journal sound) next old (family_new journal entry) accepts.free;
              within = omega arith;
              bounded =
                  let new = family_new journal entry in
                  let bounded = bounded_new most journal entry.number entry.by entry.report sound next accepts.free in omega arith;
            },
            tt,
          );
      found = each_append _ journal (entry ∷ [])
          (each_weaker (λ e. entry_at journal e.number ≡ Some e) _ journal (λ e h. at-append journal (entry ∷ []) e.number e h) sound.found)
          (ap (entry_at (journal ++ entry ∷ [])) next ∙ at-push journal entry, tt);
      numbered = grind (arith, nat_tests, slice_get-push_cases);
      rising = rises_push (λ e. e.number) 0 journal entry sound.rising
          (grind (arith, nat_tests, each_weaker)) (omega arith);
      ends = ends_next most journal entry sound accepts;
    }

pub empty_is_sound : (most : ℕ) → IsSound most []
empty_is_sound most = grind (arith, nat_tests)

-- what one entry more keeps holds of each accepted journal
accepted_from : (most : ℕ) (P : List Entry → Type 0) → ((journal : List Entry) (entry : Entry) → Accepts most journal entry → P journal → P (journal ++ entry ∷ [])) → (journal entries : List Entry)
    → AcceptsAll most journal entries → P journal → P (journal ++ entries)
accepted_from most P step journal [] all holds = subst P (sym (append-nil journal)) holds
accepted_from most P step journal (entry ∷ entries) all holds = subst P (append_assoc journal (entry ∷ []) entries) (accepted_from most P step (journal ++ entry ∷ []) entries all.1 (step journal entry all.0 holds))

pub accepted_is_sound : (most : ℕ) (journal : List Entry) → IsAccepted most journal → IsSound most journal
accepted_is_sound most journal accepted = accepted_from most (IsSound most) (λ j e accepts sound. sound_grows most j e sound accepts) [] journal accepted (empty_is_sound most)

pub in_accepted : (most : ℕ) (P : List Entry → Type 0) → P [] → ((journal : List Entry) (entry : Entry) → IsSound most journal → Accepts most journal entry → P journal → P (journal ++ entry ∷ []))
    → (journal : List Entry) → IsAccepted most journal → P journal
in_accepted most P none step journal accepted =
    (accepted_from most (λ j. IsSound most j × P j) (λ j e accepts both. (sound_grows most j e both.0 accepts, step j e both.0 accepts both.1)) [] journal accepted (empty_is_sound most, none)).1
