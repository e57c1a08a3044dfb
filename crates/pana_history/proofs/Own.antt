-- The entries of a file: those of them that count are the family's entries that count.
use Rattle.std.proofs.Common.{◌≡◌, ℕ, ◌<◌, ◌≤◌, ◌==◌, ◌||◌, ◌&&◌, not, Bool, true, false, cond, List, [], ◌∷◌, ◌++◌, filter, length, is_none, refl, sym, ap, ap₂, subst, ◌∙◌, inl, inr, arith, append-nil}
use Rattle.std.specs.List.{list_any}
use Rattle.pana_journal.specs.declared.entry.Entry.{Entry}
use Rattle.pana_hall.specs.Accepted.{Accepts, IsAccepted}
use Rattle.pana_hall.specs.Effective.{effective, is_of_copies, is_withdrawn, withdraws}
use Rattle.pana_hall.specs.Family.{entries_of, families}
use Rattle.pana_hall.proofs.Words.{nat_tests, cases_eq, eq-eqb, ne_eqb, filter-append, filter_agree, length-append}
use Rattle.pana_hall.proofs.Lists.{any_push, each_filter, each_weaker, filter_filter, filter_swap, rises_filter}
use Rattle.pana_hall.proofs.Moves.{IsWell}
use Rattle.pana_hall.proofs.Sound.{IsSound, KeepsFamilies, OfCopies, Confirms, Withdraws, accepted_is_sound, each_effective, effective-push, entries_of-same, in_accepted, keeps_families, kept_by, kind_of, left_by, own}
use Rattle.pana_hall.proofs.Sound as sound_by
use Rattle.pana_hall.proofs.Tables.{open_withdraw}
use Rattle.pana_history.specs.Lacking.{family_entries}
use Rattle.pana_history.specs.Lanes.{own_entries, withdrawal_of}
use Rattle.pana_history.specs.inner.Alone.{IsFit}
use Rattle.pana_history.specs.inner.Story.{IsStory, counted}
use Rattle.pana_history.specs.inner.Withdrawals.{counts}
use Rattle.pana_history.proofs.Fit.{fits}

-- one that is withdrawn has an entry that withdraws it
withdrawn_is : (n : ℕ) (entries : List Entry) → is_none (withdrawal_of entries n) ≡ not (is_withdrawn n entries)
withdrawn_is n [] = refl
withdrawn_is n (e ∷ entries) = grind (arith, nat_tests, withdrawn_is n entries)

withdrawn_push : (n : ℕ) (entries : List Entry) (e : Entry) → is_none (withdrawal_of (entries ++ e ∷ []) n) ≡ (is_none (withdrawal_of entries n) && not (withdraws n e.report))
withdrawn_push n [] e = grind (arith, nat_tests)
withdrawn_push n (x ∷ entries) e = grind (arith, nat_tests, withdrawn_push n entries e)

-- no entry withdraws one that isn't there yet
abbrev NoneLater : List Entry → Type 0
NoneLater journal = (n : ℕ) → length journal < n → is_withdrawn n journal ≡ false

not_by : (journal : List Entry) (e : Entry) → IsSound 8 journal → Accepts 8 journal e → (n : ℕ) → length journal < n → withdraws n e.report ≡ false
not_by journal e sound accepts n more = elim (kind_of e.report) [
  | OfCopies is ↦ grind (arith, nat_tests)
  | Confirms m is ↦ ap (withdraws n) is
  | Withdraws m is ↦
      let open_ = open_withdraw 8 m journal e.by e.report sound is accepts.free in
      let within = open_.ends.well.within in
      let number = open_.ends.number in
      ap (withdraws n) is ∙ ne_eqb m n (λ same. omega arith)
]

any_filter : (p q : Entry → Bool) (entries : List Entry) → list_any p entries ≡ false → list_any p (filter q entries) ≡ false
any_filter p q [] none = refl
any_filter p q (e ∷ entries) none = grind (arith, nat_tests, any_filter p q entries)

-- one entry more
counted_push : (entries : List Entry) (e : Entry) → is_withdrawn e.number entries ≡ false → counted (entries ++ e ∷ []) ≡ kept_by e (counted entries) ++ sound_by.counted e
counted_push entries e first =
    filter-append (counts (entries ++ e ∷ [])) entries (e ∷ [])
    ∙ ap₂ (λ a b. a ++ cond b (e ∷ []) [])
    (filter_agree (counts (entries ++ e ∷ [])) (λ x. counts entries x && not (withdraws x.number e.report)) others entries ∙ sym (filter_filter (λ x. not (withdraws x.number e.report)) (counts entries) entries))
    last
  where
    and_assoc : (p q r : Bool) → (p && (q && r)) ≡ ((p && q) && r)
    and_assoc true q r = refl
    and_assoc false q r = refl

    others : (x : Entry) → counts (entries ++ e ∷ []) x ≡ (counts entries x && not (withdraws x.number e.report))
    others x = ap (λ b. is_of_copies x.report && b) (withdrawn_push x.number entries e) ∙ and_assoc (is_of_copies x.report) (is_none (withdrawal_of entries x.number)) (not (withdraws x.number e.report))

    last : counts (entries ++ e ∷ []) e ≡ is_of_copies e.report
    last = ap (λ b. is_of_copies e.report && b) (withdrawn_push e.number entries e ∙ ap (λ b. b && not (withdraws e.number e.report)) (withdrawn_is e.number entries ∙ ap not first)) ∙ grind (arith, nat_tests)

pub own_push : (family : ℕ) (journal : List Entry) (e : Entry) → KeepsFamilies journal e → own_entries (journal ++ e ∷ []) family ≡ own_entries journal family ++ cond (families (journal ++ e ∷ []) e.number == family) (e ∷ []) []
own_push family journal e keeps =
    filter-append (λ x. families (journal ++ e ∷ []) x.number == family) journal (e ∷ [])
    ∙ ap (λ l. l ++ cond (families (journal ++ e ∷ []) e.number == family) (e ∷ []) []) (entries_of-same family (families journal) (families (journal ++ e ∷ [])) journal keeps)

own_here : (family : ℕ) (journal : List Entry) (e : Entry) → KeepsFamilies journal e → families (journal ++ e ∷ []) e.number ≡ family → own family (journal ++ e ∷ []) ≡ kept_by e (own family journal) ++ sound_by.counted e
own_here family journal e keeps here =
    ap (entries_of family (families (journal ++ e ∷ []))) (effective-push journal e)
    ∙ filter-append (λ x. families (journal ++ e ∷ []) x.number == family) (kept_by e (effective journal)) (sound_by.counted e)
    ∙ ap₂ (λ a b. a ++ b)
    (filter_swap (λ x. families (journal ++ e ∷ []) x.number == family) (λ x. not (withdraws x.number e.report)) (effective journal)
    ∙ ap (kept_by e) (entries_of-same family (families journal) (families (journal ++ e ∷ [])) (effective journal) (each_effective _ journal keeps)))
    (elim (is_of_copies e.report) as (λ b. entries_of family (families (journal ++ e ∷ [])) (cond b (e ∷ []) []) ≡ cond b (e ∷ []) []) [
      | true ↦ ap (λ b. cond b (e ∷ []) []) (eq-eqb (families (journal ++ e ∷ []) e.number) family here)
      | false ↦ refl
    ])

abbrev AreCounted : ℕ → List Entry → Type 0
AreCounted family journal = NoneLater journal × (counted (own_entries journal family) ≡ own family journal)

-- those that count are the family's entries that count
pub counted_is : (family : ℕ) (journal : List Entry) → IsAccepted 8 journal → counted (own_entries journal family) ≡ family_entries journal family
counted_is family journal accepted = (in_accepted 8 (AreCounted family) (λ n more. refl, refl) step journal accepted).1
  where
    step : (journal : List Entry) (e : Entry) → IsSound 8 journal → Accepts 8 journal e → AreCounted family journal → AreCounted family (journal ++ e ∷ [])
    step journal e sound accepts far =
        let keeps = keeps_families 8 journal e sound accepts.next in
        let longer = length-append journal (e ∷ []) in
        let next = accepts.next in
        let further : length journal < e.number = omega arith in
        let first : is_withdrawn e.number (own_entries journal family) ≡ false = any_filter (λ x. withdraws e.number x.report) (λ x. families journal x.number == family) journal (far.0 e.number further) in (
          (λ n more.
              let behind : length journal < n = omega arith in
              any_push (λ x. withdraws n x.report) journal e ∙ ap₂ (λ p q. p || q) (far.0 n behind) (not_by journal e sound accepts n behind)),
          elim (cases_eq (families (journal ++ e ∷ []) e.number) family) [
            | inl here ↦
                ap counted (own_push family journal e keeps ∙ ap (λ b. own_entries journal family ++ cond b (e ∷ []) []) (eq-eqb (families (journal ++ e ∷ []) e.number) family here))
                ∙ counted_push (own_entries journal family) e first ∙ ap (λ l. kept_by e l ++ sound_by.counted e) far.1 ∙ sym (own_here family journal e keeps here)
            | inr other ↦
                ap counted (own_push family journal e keeps ∙ ap (λ b. own_entries journal family ++ cond b (e ∷ []) []) (ne_eqb (families (journal ++ e ∷ []) e.number) family other) ∙ append-nil (own_entries journal family))
                ∙ far.1 ∙ sym (left_by 8 family journal e keeps other).0
          ],
        )

-- what the rows of a file are made from
pub story : (family : ℕ) (journal : List Entry) → IsAccepted 8 journal → IsStory (length journal) (own_entries journal family)
story family journal accepted =
    let sound = accepted_is_sound 8 journal accepted in
    record {
      rising = rises_filter (λ e. e.number) 0 _ journal sound.rising;
      within = each_filter (λ e. e.number ≤ length journal) _ journal (each_weaker (IsWell (families journal) (length journal)) (λ e. e.number ≤ length journal) journal (λ e well. well.within) sound.well);
      fit = subst IsFit (sym (counted_is family journal accepted)) (fits journal family accepted);
    }
