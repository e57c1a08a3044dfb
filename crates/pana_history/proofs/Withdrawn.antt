-- The table of who withdraws whom, behind all entries.
use Rattle.std.proofs.Common.{◌≡◌, ℕ, ◌-◌, ◌<◌, ◌≤◌, ◌==◌, true, false, cond, List, [], ◌∷◌, length, get_or, set, replicate, Option, Some, None, option_map, find, slice_get, unwrap_or, refl, sym, ap, ap₂, subst, ◌∙◌, inl, inr, arith}
use Rattle.std.specs.Option.{option_or}
use Rattle.std.proofs.lemmas.List.{get_or-replicate, get_or-set_other, get_or-set_same, length-replicate, length-set}
use Rattle.std.proofs.lemmas.Option.{unwrap_or-slice_get}
use Rattle.pana_journal.specs.declared.entry.Entry.{Entry}
use Rattle.pana_journal.specs.declared.report.Report.{Report}
use Rattle.pana_journal.specs.declared.report.Report.TheVariants.{Confirm, Duplicate, Edit, Merge, Note, Reconcile, Register, Relocate, Remove, Withdraw}
use Rattle.pana_hall.proofs.Words.{nat_tests, cases_eq, eq-eqb, ne_eqb}
use Rattle.pana_hall.specs.Effective.{withdraws}
use Rattle.pana_history.specs.Lanes.{withdrawal_of}
use Rattle.pana_history.specs.inner.Withdrawals.{behind_all, noted, withdrawal_in, withdrawn_by}

or_none : (o : Option ℕ) → option_or o None ≡ o
or_none None = refl
or_none (Some n) = refl

-- of an entry
at : (table : List (Option ℕ)) (n : ℕ) → 0 < n → withdrawal_in table n ≡ get_or table (n - 1) None
at table n some = ap (λ b. cond b None (unwrap_or (slice_get table (n - 1)) None)) (ne_eqb n 0 (λ same. omega arith)) ∙ unwrap_or-slice_get table (n - 1) None

set_at : (table : List (Option ℕ)) (m by : ℕ) → 0 < m → withdrawn_by m by table ≡ set table (m - 1) (option_or (get_or table (m - 1) None) (Some by))
set_at table m by some = ap (λ b. cond b table (set table (m - 1) (option_or (get_or table (m - 1) None) (Some by)))) (ne_eqb m 0 (λ same. omega arith))

length_kept : (by : ℕ) (report : Report) (table : List (Option ℕ)) → length (noted by report table) ≡ length table
length_kept by (Withdraw m) table = grind (arith, nat_tests, length-set)
length_kept by report table = refl

by_withdraw : (table : List (Option ℕ)) (m by n : ℕ) → 0 < n → n ≤ length table → withdrawal_in (withdrawn_by m by table) n ≡ option_or (withdrawal_in table n) (cond (m == n) (Some by) None)
by_withdraw table m by n some within = elim (cases_eq m n) [
  | inl same ↦
      let here : 0 < m = omega arith in
      let inside : n - 1 < length table = omega arith in
      ap (λ l. withdrawal_in l n) (set_at table m by here ∙ ap (λ k. set table (k - 1) (option_or (get_or table (k - 1) None) (Some by))) same)
      ∙ at (set table (n - 1) (option_or (get_or table (n - 1) None) (Some by))) n some
      ∙ get_or-set_same table (n - 1) (option_or (get_or table (n - 1) None) (Some by)) None inside
      ∙ ap₂ option_or (sym (at table n some)) (sym (ap (λ b. cond b (Some by) None) (eq-eqb m n same)))
  | inr other ↦ elim (cases_eq m 0) [
    | inl none ↦
        ap (λ l. withdrawal_in l n) (ap (λ b. cond b table (set table (m - 1) (option_or (get_or table (m - 1) None) (Some by)))) (eq-eqb m 0 none))
        ∙ sym (ap (λ b. option_or (withdrawal_in table n) (cond b (Some by) None)) (ne_eqb m n other) ∙ or_none (withdrawal_in table n))
    | inr more ↦
        let here : 0 < m = omega arith in
        let apart : n - 1 ≡ m - 1 → ⊥ = λ same. other (omega arith) in
        ap (λ l. withdrawal_in l n) (set_at table m by here)
        ∙ at (set table (m - 1) (option_or (get_or table (m - 1) None) (Some by))) n some
        ∙ get_or-set_other table (m - 1) (n - 1) (option_or (get_or table (m - 1) None) (Some by)) None apart
        ∙ sym (at table n some)
        ∙ sym (ap (λ b. option_or (withdrawal_in table n) (cond b (Some by) None)) (ne_eqb m n other) ∙ or_none (withdrawal_in table n))
  ]
]

by_report : (table : List (Option ℕ)) (by : ℕ) (report : Report) (n : ℕ) → 0 < n → n ≤ length table → withdrawal_in (noted by report table) n ≡ option_or (withdrawal_in table n) (cond (withdraws n report) (Some by) None)
by_report table by (Withdraw m) n some within = by_withdraw table m by n some within
by_report table by (Register place sum) n some within = sym (or_none (withdrawal_in table n))
by_report table by (Duplicate source place sum) n some within = sym (or_none (withdrawal_in table n))
by_report table by (Edit copy sum) n some within = sym (or_none (withdrawal_in table n))
by_report table by (Reconcile a b sum) n some within = sym (or_none (withdrawal_in table n))
by_report table by (Merge a b sum) n some within = sym (or_none (withdrawal_in table n))
by_report table by (Relocate copy place) n some within = sym (or_none (withdrawal_in table n))
by_report table by (Remove copy heir) n some within = sym (or_none (withdrawal_in table n))
by_report table by (Note copy sum) n some within = sym (or_none (withdrawal_in table n))
by_report table by (Confirm entry) n some within = sym (or_none (withdrawal_in table n))

behind : (table : List (Option ℕ)) (entries : List Entry) (n : ℕ) → 0 < n → n ≤ length table → withdrawal_in (behind_all table entries) n ≡ option_or (withdrawal_in table n) (withdrawal_of entries n)
behind table [] n some within = sym (or_none (withdrawal_in table n))
behind table (e ∷ entries) n some within =
    behind (noted e.number e.report table) entries n some (subst (λ k. n ≤ k) (sym (length_kept e.number e.report table)) within)
    ∙ ap (λ o. option_or o (withdrawal_of entries n)) (by_report table e.number e.report n some within)
    ∙ elim (withdraws n e.report) as (λ b. option_or (option_or (withdrawal_in table n) (cond b (Some e.number) None)) (withdrawal_of entries n)
    ≡ option_or (withdrawal_in table n) (option_map (λ x. x.number) (cond b (Some e) (find (λ x. withdraws n x.report) entries)))) [
      | true ↦ twice (withdrawal_in table n) e.number (withdrawal_of entries n)
      | false ↦ ap (λ o. option_or o (withdrawal_of entries n)) (or_none (withdrawal_in table n))
    ]
  where
    twice : (o : Option ℕ) (m : ℕ) (other : Option ℕ) → option_or (option_or o (Some m)) other ≡ option_or o (Some m)
    twice None m other = refl
    twice (Some k) m other = refl

-- so the table has the withdrawals of all entries
pub all_noted : (last : ℕ) (entries : List Entry) (n : ℕ) → 0 < n → n ≤ last → withdrawal_in (behind_all (replicate last None) entries) n ≡ withdrawal_of entries n
all_noted last entries n some within =
    let inside : n - 1 < last = omega arith in
    behind (replicate last None) entries n some (subst (λ k. n ≤ k) (sym (length-replicate last None)) within)
    ∙ ap (λ o. option_or o (withdrawal_of entries n)) (at (replicate last None) n some ∙ get_or-replicate last (n - 1) None None inside)
