-- That the sayings of a report which nothing stands against are those of the next entry.
use Rattle.pana_hall.proofs.Words.{◌≡◌, ℕ, ◌+◌, ◌<◌, ◌≤◌, List, [], ◌∷◌, ◌++◌, length, Option, Some, None, IfSome, option_map, refl, sym, ap, ◌∙◌, subst, inl, inr, arith, nat_tests, length-append}
use Rattle.pana_hall.proofs.Words.{Entry, Report, Withdraw, copy_in, families, begun_or_joined, subject, content_by, copies_of, living, report_refusal, next_entry, IsAccepted, IsWithin}
use Rattle.pana_hall.proofs.Words.{AreContents, AreSayings, Content, KeptRows, all_written, content_in, content_at, entry_of, first_said, last_before, said_before, said_in, say, second_said}
use Rattle.std.proofs.Math.Path.{fun_ext}
use Rattle.pana_hall.specs.inner.Kept.{family_of as family_kept}
use Rattle.pana_hall.specs.inner.Contents.{listed_entry}
use Rattle.pana_hall.specs.declared.contents.Saying.{Saying}
use Rattle.pana_hall.specs.declared.contents.Sayings.{Sayings}
use Rattle.pana_hall.proofs.Moves.{Names}
use Rattle.pana_hall.proofs.Sound.{IsSound, accepted_is_sound, named_report, living_fit, OfCopies, Confirms, Withdraws, kind_of, LivesIn}
use Rattle.pana_hall.proofs.Tables.{EndsIn, open_withdraw}
use Rattle.pana_hall.proofs.Places.{left_here, living_withdrawn}
use Rattle.pana_hall.proofs.Ready.{accepts_next}
use Rattle.pana_hall.proofs.Runs.{next_accepted}
use Rattle.pana_hall.proofs.Listed.{entry_within, lives_within}
use Rattle.pana_hall.proofs.Said.{IsTold, living_told, fit, first_of, named_of, second_of, said_next, said_confirmed, said_withdrawn, given_first, given_second}

-- the sayings are of these copies
abbrev Bounds : ℕ → ℕ → Type 0
Bounds k c = (0 < c) × (c ≤ k + 1)

bounded : (k : ℕ) (o : Option Saying) (w : Option ℕ) → option_map (λ s. s.copy) o ≡ w → ((c : ℕ) → w ≡ Some c → Bounds k c) → IfSome o (λ s. (0 < s.copy) × (s.copy ≤ k + 1))
bounded k None w is all = tt
bounded k (Some s) w is all = all s.copy (sym is)

within_more : (journal : List Entry) (c : ℕ) → IsWithin journal c → Bounds (length journal) c
within_more journal c within = (within.0, omega (arith, within.1))

module _ (journal : List Entry) (by : List ℕ) (report : Report) (accepted : IsAccepted 8 journal) (free : report_refusal 8 journal (living journal) by report ≡ None) where
  named_within : (c : ℕ) → Names report c → Bounds (length journal) c
  named_within c names =
      within_more journal c (lives_within journal (begun_or_joined (families journal) (length journal + 1) (subject report)) c accepted
      (named_report 8 (length journal + 1) journal by report c (living_fit 8 journal (accepted_is_sound 8 journal accepted)) free names))

  first_within : (c : ℕ) → first_said (length journal + 1) report ≡ Some c → Bounds (length journal) c
  first_within c is = elim (first_of (length journal + 1) report c is) [
    | inl names ↦ named_within c names
    | inr new ↦ (omega (arith, new), omega (arith, new))
  ]

  -- a report that is no Withdraw
  pub next_sayings : (contents : List ℕ) (x : Option ℕ) (n : ℕ) (sayings : Sayings) → AreContents journal contents → ((m : ℕ) → report ≡ Withdraw m → ⊥)
      → x ≡ entry_of (content_by (length journal + 1) report (living journal)) → n ≡ length journal
      → ((entries : ℕ → Option ℕ) (number : ℕ) → all_written sayings entries number ≡ say (second_said report) x (say (first_said (n + 1) report) x entries) number)
      → option_map (λ s. s.copy) sayings.first ≡ first_said (n + 1) report → option_map (λ s. s.copy) sayings.second ≡ second_said report
      → AreSayings journal (next_entry journal by report) contents sayings
  next_sayings contents x n sayings kept other new n_is written first second = record {
    first = bounded (length journal) sayings.first _ (first ∙ ap (λ k. first_said (k + 1) report) n_is) first_within;
    second = bounded (length journal) sayings.second _ second (λ c e. named_within c (second_of report c e));
    at = λ number. written (content_at contents) number ∙ ap (λ k. say (second_said report) x (say (first_said (k + 1) report) x (content_at contents)) number) n_is ∙ by_kind number;
  }
    where
      by_kind : (number : ℕ) → say (second_said report) x (say (first_said (length journal + 1) report) x (content_at contents)) number ≡ said_in (living (journal ++ next_entry journal by report ∷ [])) number
      by_kind number = elim (kind_of report) [
        | OfCopies is ↦ said_next journal by report contents x accepted free kept is new number
        | Confirms m is ↦
            subst (λ r. say (second_said r) x (say (first_said (length journal + 1) r) x (content_at contents)) number ≡ said_in (living (journal ++ next_entry journal by r ∷ [])) number) (sym is) (said_confirmed journal by m contents kept number)
        | Withdraws m is ↦ absurd (other m is)
      ]

-- a Withdraw
module _ (journal : List Entry) (by : List ℕ) (m : ℕ) (accepted : IsAccepted 8 journal) (free : report_refusal 8 journal (living journal) by (Withdraw m) ≡ None) where
  abbrev sound : IsSound 8 journal
  sound = accepted_is_sound 8 journal accepted

  abbrev pub ends : EndsIn 8 m journal
  ends = (open_withdraw 8 m journal by (Withdraw m) sound refl free).ends

  abbrev next : List Entry
  next = journal ++ next_entry journal by (Withdraw m) ∷ []

  lives_again : (c : ℕ) → Names ends.last.report c → Bounds (length journal) c
  lives_again c names =
      let there = fit accepted ends c names in
      let found : copy_in (living next) c ≡ Some there.0 =
      ap (λ l. copy_in l c) (living_withdrawn journal (next_entry journal by (Withdraw m)) m refl) ∙ left_here sound ends c (named_of accepted ends c names) ∙ there.1 in
      let lives : LivesIn next (families next c) c = record { copy = there.0; found = found; of = refl } in
      let within = lives_within next (families next c) c (next_accepted 8 journal (next_entry journal by (Withdraw m)) accepted (accepts_next journal by (Withdraw m) free)) lives in
      let long = length-append journal (next_entry journal by (Withdraw m) ∷ []) in
      (within.0, omega (arith, within.1, long))

  pub withdrawn_sayings : (contents : List ℕ) (it : KeptRows) (x y : Option ℕ) (report : Report) (sayings : Sayings) → AreContents journal contents
      → it ≡ family_kept journal (families journal m) → x ≡ (last_before it.undo).first → y ≡ (last_before it.undo).second → ends.last.report ≡ report
      → ((entries : ℕ → Option ℕ) (number : ℕ) → all_written sayings entries number ≡ say (second_said report) y (say (first_said m report) x entries) number)
      → option_map (λ s. s.copy) sayings.first ≡ first_said m report → option_map (λ s. s.copy) sayings.second ≡ second_said report
      → AreSayings journal (next_entry journal by (Withdraw m)) contents sayings
  withdrawn_sayings contents it x y report sayings kept it_is x_is y_is is written first second =
      let x_at : x ≡ said_before (first_said m ends.last.report) (copies_of ends.entries) = x_is ∙ ap (λ (k : KeptRows). (last_before k.undo).first) it_is ∙ given_first accepted ends in
      let y_at : y ≡ said_before (second_said ends.last.report) (copies_of ends.entries) = y_is ∙ ap (λ (k : KeptRows). (last_before k.undo).second) it_is ∙ given_second accepted ends in
      record {
        first = bounded (length journal) sayings.first _ (first ∙ ap (first_said m) (sym is)) (λ c e. elim (first_of m ends.last.report c e) [
          | inl names ↦ lives_again c names
          | inr new ↦ subst (Bounds (length journal)) (sym new) (within_more journal m (entry_within journal m ends.last ends.at))
        ]);
        second = bounded (length journal) sayings.second _ (second ∙ ap second_said (sym is)) (λ c e. lives_again c (second_of ends.last.report c e));
        at = λ number.
            written (content_at contents) number ∙ ap (λ r. say (second_said r) y (say (first_said m r) x (content_at contents)) number) (sym is)
            ∙ ap (λ f. say (second_said ends.last.report) y (say (first_said m ends.last.report) x f) number) (fun_ext kept.at)
            ∙ ap (λ z. say (second_said ends.last.report) z (say (first_said m ends.last.report) x (said_in (living journal))) number) y_at
            ∙ ap (λ z. say (second_said ends.last.report) (said_before (second_said ends.last.report) (copies_of ends.entries)) (say (first_said m ends.last.report) z (said_in (living journal))) number) x_at
            ∙ said_withdrawn accepted ends (next_entry journal by (Withdraw m)) refl number;
      }

-- an entry that says what a living copy holds is kept as it is
said_listed : (journal : List Entry) (c : ℕ) → IsAccepted 8 journal → listed_entry (said_in (living journal) c) ≡ said_in (living journal) c
said_listed journal c accepted = by_content (content_in (living journal) c) (living_told journal c accepted)
  where
    by_content : (o : Option Content) → IfSome o (IsTold journal) → listed_entry (entry_of o) ≡ entry_of o
    by_content None told = refl
    by_content (Some x) told = grind (arith, nat_tests)

-- so what is written is kept of the journal with the entry
pub said_kept : (journal : List Entry) (entry : Entry) (contents after : List ℕ) (sayings : Sayings) → IsAccepted 8 journal → report_refusal 8 journal (living journal) entry.by entry.report ≡ None
    → entry.number ≡ length journal + 1 → AreContents journal contents → AreSayings journal entry contents sayings
    → length after ≡ length contents + 1 → ((number : ℕ) → content_at after number ≡ listed_entry (all_written sayings (content_at contents) number)) → AreContents (journal ++ next_entry journal entry.by entry.report ∷ []) after
said_kept journal entry contents after sayings accepted free next kept says count at =
    let accepted_next = next_accepted 8 journal (next_entry journal entry.by entry.report) accepted (accepts_next journal entry.by entry.report free) in
    let same : entry ≡ next_entry journal entry.by entry.report = ap (λ (n : ℕ). record { number = n; by = entry.by; report = entry.report }) next in
    record {
      count = count ∙ ap (λ n. n + 1) kept.count ∙ sym (length-append journal (next_entry journal entry.by entry.report ∷ []));
      at = λ number.
          at number ∙ ap listed_entry (says.at number ∙ ap (λ e. said_in (living (journal ++ e ∷ [])) number) same)
          ∙ said_listed (journal ++ next_entry journal entry.by entry.report ∷ []) number accepted_next;
    }
