-- The families of a journal's entries, and the entries of one, as entries come.
use Rattle.std.proofs.Common.{◌≡◌, ℕ, zero, suc, ◌+◌, ◌==◌, true, cond, List, [], ◌∷◌, ◌++◌, length, slice_get, Option, Some, None, refl, sym, ap, subst, ◌∙◌, inl, inr, arith, append-nil, append_assoc}
use Rattle.pana_journal.specs.declared.entry.Entry.{Entry}
use Rattle.pana_journal.specs.declared.report.Report.{Report}
use Rattle.pana_hall.specs.Accepted.{Accepts, AcceptsAll, IsAccepted}
use Rattle.pana_hall.specs.Effective.{is_of_copies}
use Rattle.pana_hall.specs.Family.{begun_or_joined, families, with_entry}
use Rattle.pana_journal.specs.Reports.{subject}
use Rattle.pana_hall.proofs.Words.{nat_tests, cases_eq, eq-eqb, ne_eqb, fold-append, length-append}
use Rattle.pana_hall.proofs.Sound.{IsSound, OfCopies, Confirms, Withdraws, family_new, keeps_families, kind_of, left_by, own_confirm, own_copies, own_withdraw}
use Rattle.pana_history.specs.Lacking.{family_entries}
use Rattle.pana_history.specs.inner.Families.{family_in, with_next, with_report}

-- a journal that refuses none of its entries, taken apart at one of them
split_from : (journal before : List Entry) (e : Entry) (rest : List Entry) → AcceptsAll 8 journal (before ++ e ∷ rest) → AcceptsAll 8 journal before × Accepts 8 (journal ++ before) e
split_from journal [] e rest all = (tt, subst (λ j. Accepts 8 j e) (sym (append-nil journal)) all.0)
split_from journal (x ∷ before) e rest all =
    let more = split_from (journal ++ x ∷ []) before e rest all.1 in
    ((all.0, more.0), subst (λ j. Accepts 8 j e) (append_assoc journal (x ∷ []) before) more.1)

pub split_accepted : (before : List Entry) (e : Entry) (rest : List Entry) → IsAccepted 8 (before ++ e ∷ rest) → IsAccepted 8 before × Accepts 8 before e
split_accepted before e rest all = split_from [] before e rest all

-- the families so far, in a list
pub record AreFamilies (families_so_far : List ℕ) (journal : List Entry) : Type 0 where
  pub count : length families_so_far ≡ length journal
  pub are : (n : ℕ) → family_in families_so_far n ≡ families journal n

pub no_families : AreFamilies [] []
no_families = record { count = refl; are = λ n. grind (arith, nat_tests) }

get_push : (list : List ℕ) (x i : ℕ) → slice_get (list ++ x ∷ []) i ≡ cond (i == length list) (Some x) (slice_get list i)
get_push [] x zero = grind (arith, nat_tests)
get_push [] x (suc i) = grind (arith, nat_tests)
get_push (y ∷ list) x zero = grind (arith, nat_tests)
get_push (y ∷ list) x (suc i) = grind (arith, nat_tests, get_push list x i)

in_push : (list : List ℕ) (family n : ℕ) → family_in (list ++ family ∷ []) n ≡ cond (n == length list + 1) family (family_in list n)
in_push list family zero = grind (arith, nat_tests)
in_push list family (suc n) = grind (arith, nat_tests, get_push)

joined_same : (f g : ℕ → ℕ) → ((n : ℕ) → f n ≡ g n) → (n : ℕ) (of : Option ℕ) → begun_or_joined f n of ≡ begun_or_joined g n of
joined_same f g same n None = refl
joined_same f g same n (Some m) = same m

pub families_next : (list : List ℕ) (journal : List Entry) (e : Entry) (family : ℕ) (more : List ℕ) → AreFamilies list journal → e.number ≡ length journal + 1
    → family ≡ begun_or_joined (family_in list) e.number (subject e.report) → more ≡ list ++ family ∷ [] → AreFamilies more (journal ++ e ∷ []) × (family ≡ families (journal ++ e ∷ []) e.number)
families_next list journal e family more far next is grown =
    let of = is ∙ joined_same (family_in list) (families journal) far.are e.number (subject e.report) in (
      subst (λ l. AreFamilies l (journal ++ e ∷ [])) (sym grown) (record {
        count = length-append list (family ∷ []) ∙ ap (λ k. k + 1) far.count ∙ sym (length-append journal (e ∷ []));
        are = λ n.
            in_push list family n
            ∙ ap (λ k. cond (n == k) family (family_in list n)) (ap (λ k. k + 1) far.count ∙ sym next)
            ∙ ap (λ f. cond (n == e.number) f (family_in list n)) of ∙ ap (λ f. cond (n == e.number) (begun_or_joined (families journal) e.number (subject e.report)) f) (far.are n)
            ∙ sym (ap (λ (f : ℕ → ℕ). f n) (fold-append with_entry (λ m. m) journal (e ∷ [])));
      }),
      of ∙ sym (family_new journal e),
    )

-- the family's entries that count, once it has one more
with_copies : (e : Entry) (report : Report) (entries : List Entry) → is_of_copies report ≡ true → with_report e report entries ≡ entries ++ e ∷ []
with_copies e report entries is = grind (arith, nat_tests)

pub entries_next : (family : ℕ) (journal : List Entry) (e : Entry) → IsSound 8 journal → Accepts 8 journal e
    → family_entries (journal ++ e ∷ []) family ≡ cond (families (journal ++ e ∷ []) e.number == family) (with_next e (family_entries journal family)) (family_entries journal family)
entries_next family journal e sound accepts =
    let keeps = keeps_families 8 journal e sound accepts.next in
    let now = families (journal ++ e ∷ []) e.number in
    elim (cases_eq now family) [
      | inr other ↦ (left_by 8 family journal e keeps other).0 ∙ sym (ap (λ b. cond b (with_next e (family_entries journal family)) (family_entries journal family)) (ne_eqb now family other))
      | inl here ↦
          let is : (now == family) ≡ true = eq-eqb now family here in
          elim (kind_of e.report) [
            | OfCopies of ↦ own_copies family journal e keeps of ∙ ap (λ b. family_entries journal family ++ cond b (e ∷ []) []) is ∙ sym (with_copies e e.report (family_entries journal family) of)
            | Confirms m of ↦ own_confirm family journal e m keeps of ∙ sym (ap (λ r. with_report e r (family_entries journal family)) of)
            | Withdraws m of ↦ own_withdraw family journal e m keeps of ∙ sym (ap (λ r. with_report e r (family_entries journal family)) of)
          ] ∙ sym (ap (λ b. cond b (with_next e (family_entries journal family)) (family_entries journal family)) is)
    ]
