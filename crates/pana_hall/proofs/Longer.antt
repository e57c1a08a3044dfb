-- A longer pending list refuses no more than a list of one.
use Rattle.pana_hall.proofs.Words.{nat_tests, arith, ◌≡◌, ℕ, ◌+◌, Bool, true, not, ◌==◌, List, [], ◌∷◌, ◌++◌, filter, Some, None, ◌⊎◌, then_some, refl, ap, ◌∙◌, inl, inr, subst, or-true, eqb-true}
use Rattle.pana_hall.proofs.Words.{eq-eqb, not-false, cases_eq, Report, Remove, Confirm, Withdraw, Entry, Cause, living, pending, last, behind, is_last, report_refusal, Accepts, AcceptsAll}
use Rattle.pana_hall.proofs.Words.{IsAccepted, family_of_next}
use Rattle.pana_hall.proofs.{Lists.any_push, Lists.last_push, Lists.is_last-push, Tables.last_none}
use Rattle.pana_hall.proofs.Sound.{none_against, none_false, IsSound, keeps_families, family_named, sound_grows, empty_is_sound, OfCopies, Confirms, Withdraws, kind_of, pend_copies, withdraw_free, left_by, pends_by}

-- A longer pending list refuses no more than a list of one.

-- the short list is empty, or it is the last of the long list
abbrev pub EndsIt : List ℕ → List ℕ → Type 0
EndsIt short long = (short ≡ []) ⊎ ((prefix : List ℕ) × (n : ℕ) × (short ≡ n ∷ []) × (long ≡ prefix ++ n ∷ []))

abbrev pub EndsEach : ℕ → List Entry → Type 0
EndsEach most journal = (family : ℕ) → EndsIt (pending 1 family journal) (pending most family journal)

not_refused : (b : Bool) (cause : Cause) → b ≡ true → then_some (not b) cause ≡ None
not_refused b cause is = ap (λ t. then_some (not t) cause) is

-- what a list of one refuses nothing of, a longer one doesn't either
refuses_no_more : (k : ℕ) (journal : List Entry) (by : List ℕ) (report : Report) → EndsEach (k + 1) journal
    → report_refusal 1 journal (living journal) by report ≡ None → report_refusal (k + 1) journal (living journal) by report ≡ None
refuses_no_more k journal by (Confirm m) ends free = grind (arith, nat_tests, none_against, not_refused, any_push, or-true, not-false, none_false)
refuses_no_more k journal by (Withdraw m) ends free = grind (arith, nat_tests, withdraw_free, not_refused, eqb-true, is_last-push, eq-eqb)
refuses_no_more k journal by (Remove c None) ends free = free
refuses_no_more k journal by (Remove c (Some heir)) ends free = free
refuses_no_more k journal by report ends free = free

-- a Confirm or a Withdraw that a list of one doesn't refuse leaves it empty
behind_one : (m : ℕ) (short long : List ℕ) → EndsIt short long → behind m short ≡ []
behind_one m short long h1 = grind (arith, nat_tests)

withdrawn_one : (m : ℕ) (short long : List ℕ) → EndsIt short long → is_last m short ≡ true → filter (λ n. not (m == n)) short ≡ []
withdrawn_one m short long h1 h2 = grind (arith, nat_tests, eq-eqb, eqb-true)

ends_grow : (k : ℕ) (journal : List Entry) (entry : Entry) → IsSound 1 journal → Accepts 1 journal entry → EndsEach (k + 1) journal → EndsEach (k + 1) (journal ++ entry ∷ [])
ends_grow k journal entry sound accepts ends family =
    let keeps = keeps_families 1 journal entry sound accepts.next in
    let own = family_of_next journal entry in
    let short = pending 1 own journal in
    let long = pending (k + 1) own journal in
    elim (cases_eq own family) [
      | inr other ↦ rw ((left_by 1 family journal entry keeps other).1, (left_by (k + 1) family journal entry keeps other).1) (ends family)
      | inl here ↦ subst (λ f. EndsIt (pending 1 f (journal ++ entry ∷ [])) (pending (k + 1) f (journal ++ entry ∷ []))) here (elim (kind_of entry.report) [
        | OfCopies is ↦ rw (pends_by 1 journal entry entry.report keeps refl, pends_by (k + 1) journal entry entry.report keeps refl) (inr (
          last k long,
          entry.number,
          pend_copies 1 entry.number entry.report short is ∙ last_push 0 short entry.number ∙ ap (λ l. l ++ entry.number ∷ []) (last_none short),
          pend_copies (k + 1) entry.number entry.report long is ∙ last_push k long entry.number,
        ))
        | Confirms m is ↦ rw (pends_by 1 journal entry (Confirm m) keeps is, pends_by (k + 1) journal entry (Confirm m) keeps is) (inl (behind_one m short long (ends own)))
        | Withdraws m is ↦
            let last_one : is_last m short ≡ true = ap (λ f. is_last m (pending 1 f journal)) (family_named 1 journal entry m (inr is)) ∙ (withdraw_free 1 m journal entry.by entry.report is accepts.free).0 in
            rw (pends_by 1 journal entry (Withdraw m) keeps is, pends_by (k + 1) journal entry (Withdraw m) keeps is) (inl (withdrawn_one m short long (ends own) last_one))
      ])
    ]

accepted_more_from : (k : ℕ) (journal entries : List Entry) → IsSound 1 journal → EndsEach (k + 1) journal → AcceptsAll 1 journal entries → AcceptsAll (k + 1) journal entries
accepted_more_from k journal [] sound ends all = tt
accepted_more_from k journal (entry ∷ entries) sound ends all = (
  record { next = all.0.next; free = refuses_no_more k journal entry.by entry.report ends all.0.free },
  accepted_more_from k (journal ++ entry ∷ []) entries (sound_grows 1 journal entry sound all.0) (ends_grow k journal entry sound all.0 ends) all.1,
)

-- what no list of one refuses, no longer one does
pub accepted_more : (k : ℕ) (journal : List Entry) → IsAccepted 1 journal → IsAccepted (k + 1) journal
accepted_more k journal accepted = accepted_more_from k [] journal (empty_is_sound 1) (λ family. inl refl) accepted
