-- What the copies hold, as entries come and are withdrawn.
use Rattle.pana_hall.proofs.Words.{◌≡◌, ◌≢◌, ℕ, ◌+◌, ◌==◌, true, List, [], ◌∷◌, ◌++◌, length, Option, Some, None, IfSome, option_map, option_and_then, AllByRecursion}
use Rattle.pana_hall.proofs.Words.{refl, sym, ap, ◌∙◌, inl, inr, ◌⊎◌, arith, nat_tests, cases_eq, fold, Register, Duplicate, Edit, Reconcile, Merge, Relocate, Remove, Note, Confirm, Withdraw}
use Rattle.pana_hall.proofs.Words.{Entry, Report, entry_at, effective, families, is_of_copies, Content, Copy, new_copy, made, comes, content_by, content_in, copy_in, living, after_report, after_entry}
use Rattle.pana_hall.proofs.Words.{IsAccepted, next_entry, report_refusal, last_before, undone_of, of_each, reverse, reverse-append, layer, AreContents, content_at, entry_of, first_said, said_in, say, second_said}
use Rattle.pana_hall.proofs.Words.{option_to_list, said_before, before_of}
use Rattle.std.proofs.Math.Path.{fun_ext}
use Rattle.std.specs.Option.{option_or}
use Rattle.pana_event.specs.declared.rel.Rel.{Rel}
use Rattle.pana_family.specs.Relation.{relation}
use Rattle.pana_hall.specs.Living.{agreed, copies_of, shared, unsaid}
use Rattle.pana_hall.proofs.Words.{bytes_eq, known_to, said, then_some}
use Rattle.pana_hall.specs.inner.Rows.{sum_in}
use Rattle.pana_journal.specs.Reports.{given_sum}
use Rattle.pana_family.proofs.Images.{made_itself}
use Rattle.pana_hall.specs.inner.Kept.{family_of as family_kept}
use Rattle.pana_hall.proofs.Lists.{found_by}
use Rattle.pana_hall.proofs.Moves.{AreBelow, Lives, Names, found_after, found_number, found_push, each_after, copies_of-push, removed_named}
use Rattle.pana_hall.proofs.Sound.{IsSound, accepted_is_sound, each_effective, effective-copies, named_report, living_fit}
use Rattle.pana_hall.proofs.Tables.{EndsIn, layer_now}
use Rattle.pana_hall.proofs.Places.{copies_below, layer_before, left_here, left_other, living_below, living_confirmed, living_withdrawn, now_here}
use Rattle.pana_hall.proofs.Knowns.{layer_founded}

-- What a report says of the copies' contents.

abbrev pub Fit : List Copy → Report → Type 0
Fit copies report = (c : ℕ) → Names report c → Lives copies c

-- the copies of whose content it says something hold what it says, and the others what they held
pub contents_report : (n : ℕ) (report : Report) (copies : List Copy) → AreBelow n copies → Fit copies report
    → (a : ℕ) → said_in (after_report n report copies) a ≡ say (second_said report) (entry_of (content_by n report copies)) (say (first_said n report) (entry_of (content_by n report copies)) (said_in copies)) a
contents_report n (Register place sum) copies below lives a =
    ap (λ l. said_in (l ++ new_copy n n [] place (content_by n (Register place sum) copies) ∷ []) a) (made_itself copies)
    ∙ grind (arith, nat_tests, found_push copies (new_copy n n [] place (content_by n (Register place sum) copies)) a below)
contents_report n (Duplicate source place sum) copies below lives a =
    let there = lives source refl in
    let new = new_copy n there.0.family there.0.known.set place (content_by n (Duplicate source place sum) copies) in
    ap (λ l. said_in (l ++ option_to_list (comes n (Duplicate source place sum) copies)) a) (made_itself copies)
    ∙ grind (arith, nat_tests, found_push copies new a below, there.1)
contents_report n (Edit c sum) copies below lives a = grind (arith, nat_tests, found_after n (Edit c sum) copies a refl, found_number, (lives c refl).1)
contents_report n (Reconcile b d sum) copies below lives a = grind (arith, nat_tests, found_after n (Reconcile b d sum) copies a refl, found_number, (lives b (inl refl)).1, (lives d (inr refl)).1)
contents_report n (Merge b d sum) copies below lives a = grind (arith, nat_tests, found_after n (Merge b d sum) copies a refl, found_number, (lives b (inl refl)).1, (lives d (inr refl)).1)
contents_report n (Relocate c place) copies below lives a = grind (arith, nat_tests, found_after n (Relocate c place) copies a refl, found_number)
contents_report n (Remove c heir) copies below lives a = grind (arith, nat_tests, found_after n (Remove c heir) copies a refl, found_number)
contents_report n (Note c sum) copies below lives a = grind (arith, nat_tests, found_after n (Note c sum) copies a refl, found_number, (lives c refl).1)
contents_report n (Confirm m) copies below lives a = grind (arith, nat_tests, found_after n (Confirm m) copies a refl)
contents_report n (Withdraw m) copies below lives a = grind (arith, nat_tests, found_after n (Withdraw m) copies a refl)

-- A content is what its entry says.

abbrev pub IsTold : List Entry → Content → Type 0
IsTold journal content = option_and_then (λ e. given_sum e.report) (entry_at journal content.entry) ≡ Some content.sum

abbrev Tells : List Entry → Copy → Type 0
Tells journal copy = IfSome copy.content (IsTold journal)

found_told : (journal : List Entry) (copies : List Copy) (c : ℕ) → AllByRecursion (Tells journal) copies → IfSome (content_in copies c) (IsTold journal)
found_told journal copies c all = by_found (copy_in copies c) refl
  where
    by_found : (o : Option Copy) → copy_in copies c ≡ o → IfSome (option_and_then (λ copy. copy.content) o) (IsTold journal)
    by_found None e = tt
    by_found (Some x) e = (found_by (λ k. k.known.copy == c) (Tells journal) copies x all e).1

shared_told : (journal : List Entry) (a b : Option Content) → IfSome a (IsTold journal) → IfSome (shared a b) (IsTold journal)
shared_told journal (Some a) (Some b) told = grind (arith, nat_tests)
shared_told journal a b told = grind (arith, nat_tests)

agreed_told : (journal : List Entry) (rel : Rel) (a b : Option Content) → IfSome a (IsTold journal) → IfSome b (IsTold journal) → IfSome (agreed rel a b) (IsTold journal)
agreed_told journal rel a b first second = grind (arith, nat_tests, shared_told)

unsaid_told : (journal : List Entry) (report : Report) (copies : List Copy) → AllByRecursion (Tells journal) copies → IfSome (unsaid report copies) (IsTold journal)
unsaid_told journal (Duplicate source place sum) copies all = found_told journal copies source all
unsaid_told journal (Reconcile a b sum) copies all = agreed_told journal (relation (known_to copies a) (known_to copies b)) _ _ (found_told journal copies a all) (found_told journal copies b all)
unsaid_told journal report copies all = tt

by_told : (journal : List Entry) (n : ℕ) (report : Report) (copies : List Copy) (e : Entry) → entry_at journal n ≡ Some e → e.report ≡ report → AllByRecursion (Tells journal) copies → IfSome (content_by n report copies) (IsTold journal)
by_told journal n report copies e at is all = by_sum (given_sum report) refl
  where
    by_sum : (o : Option (List ℕ)) → given_sum report ≡ o → IfSome (option_or (option_map (said n) o) (unsaid report copies)) (IsTold journal)
    by_sum None s = unsaid_told journal report copies all
    by_sum (Some sum) s = ap (option_and_then (λ e. given_sum e.report)) at ∙ ap given_sum is ∙ s

made_told : (journal : List Entry) (n : ℕ) (report : Report) (copies : List Copy) (x : Copy) → IfSome (content_by n report copies) (IsTold journal) → Tells journal x → IfSome (made n report copies x) (Tells journal)
made_told journal n report copies x new told = grind (arith, nat_tests)

comes_told : (journal : List Entry) (n : ℕ) (report : Report) (copies : List Copy) → IfSome (content_by n report copies) (IsTold journal) → IfSome (comes n report copies) (Tells journal)
comes_told journal n report copies new = grind (arith, nat_tests)

told_fold : (journal : List Entry) (copies : List Copy) (entries : List Entry) → AllByRecursion (λ e. entry_at journal e.number ≡ Some e) entries → AllByRecursion (Tells journal) copies
    → AllByRecursion (Tells journal) (fold after_entry copies entries)
told_fold journal copies [] found all = all
told_fold journal copies (e ∷ entries) found all =
    let new = by_told journal e.number e.report copies e found.0 refl all in
    told_fold journal (after_entry copies e) entries found.1 (each_after (Tells journal) e.number e.report copies (λ x told. made_told journal e.number e.report copies x new told) (comes_told journal e.number e.report copies new) all)

all_told : (journal : List Entry) (entries : List Entry) → AllByRecursion (λ e. entry_at journal e.number ≡ Some e) entries → AllByRecursion (Tells journal) (copies_of entries)
unfolding copies_of
all_told journal entries found = told_fold journal [] entries found tt

-- so what a living copy holds is what the journal's entry says
pub living_told : (journal : List Entry) (c : ℕ) → IsAccepted 8 journal → IfSome (content_in (living journal) c) (IsTold journal)
living_told journal c accepted =
    found_told journal (living journal) c (all_told journal (effective journal) (each_effective _ journal (accepted_is_sound 8 journal accepted).found))

-- The sum of what a copy holds.

sum_of_content : (copies : List Copy) (c : ℕ) → sum_in copies c ≡ option_map (λ x. x.sum) (content_in copies c)
sum_of_content copies c = grind (arith, nat_tests)

-- Where two copies hold the same.

abbrev pub sum_at : List Entry → ℕ → Option (List ℕ)
sum_at journal n = option_and_then (λ e. given_sum e.report) (entry_at journal n)

pub told_sum : (journal : List Entry) (content : Option Content) (n : ℕ) → IfSome content (IsTold journal) → entry_of content ≡ Some n → (x : Content) × (content ≡ Some x) × (x.entry ≡ n) × (sum_at journal n ≡ Some x.sum)
told_sum journal None n told is = absurd (cc)
told_sum journal (Some x) n told is =
    let same : x.entry ≡ n = cc in
    (x, refl, same, ap (sum_at journal) (sym same) ∙ told)

pub sum_told : (journal : List Entry) (copies : List Copy) (c n : ℕ) → IfSome (content_in copies c) (IsTold journal) → said_in copies c ≡ Some n → sum_at journal n ≡ sum_in copies c
sum_told journal copies c n told is =
    let x = told_sum journal (content_in copies c) n told is in
    x.3 ∙ sym (sum_of_content copies c ∙ ap (option_map (λ y. y.sum)) x.1)

pub shared_is : (journal : List Entry) (a b : Option Content) (n m : ℕ) (s t : List ℕ) → IfSome a (IsTold journal) → IfSome b (IsTold journal) → entry_of a ≡ Some n → entry_of b ≡ Some m → sum_at journal n ≡ Some s → sum_at journal m ≡ Some t
    → then_some (bytes_eq s t) n ≡ entry_of (shared a b)
shared_is journal a b n m s t first second is_a is_b at_n at_m =
    let x = told_sum journal a n first is_a in
    let y = told_sum journal b m second is_b in
    grind (arith, nat_tests, x.1, x.2, x.3, y.1, y.3)

-- What the next entry says.

pub said_next : (journal : List Entry) (by : List ℕ) (report : Report) (contents : List ℕ) (x : Option ℕ) → IsAccepted 8 journal → report_refusal 8 journal (living journal) by report ≡ None → AreContents journal contents
    → is_of_copies report ≡ true → x ≡ entry_of (content_by (length journal + 1) report (living journal)) → (a : ℕ)
    → say (second_said report) x (say (first_said (length journal + 1) report) x (content_at contents)) a ≡ said_in (living (journal ++ next_entry journal by report ∷ [])) a
said_next journal by report contents x accepted free kept is new a =
    let n = length journal + 1 in
    let entry = next_entry journal by report in
    let sound = accepted_is_sound 8 journal accepted in
    let more : living (journal ++ entry ∷ []) ≡ after_entry (living journal) entry = grind (arith, nat_tests, effective-copies, copies_of-push) in
    let fit : Fit (living journal) report = λ c names. let there = named_report 8 n journal by report c (living_fit 8 journal sound) free names in (there.copy, there.found) in
    ap (λ y. say (second_said report) y (say (first_said n report) y (content_at contents)) a) new
    ∙ ap (λ f. say (second_said report) (entry_of (content_by n report (living journal))) (say (first_said n report) (entry_of (content_by n report (living journal))) f) a) (fun_ext kept.at)
    ∙ sym (contents_report n report (living journal) (living_below 8 n journal sound refl) fit a)
    ∙ ap (λ l. said_in l a) (sym more)

pub said_confirmed : (journal : List Entry) (by : List ℕ) (m : ℕ) (contents : List ℕ) → AreContents journal contents → (a : ℕ) → content_at contents a ≡ said_in (living (journal ++ next_entry journal by (Confirm m) ∷ [])) a
said_confirmed journal by m contents kept a = kept.at a ∙ ap (λ l. said_in l a) (sym (living_confirmed journal (next_entry journal by (Confirm m)) m refl))

-- A Withdraw says what was said before.

say_back : (o p : Option ℕ) (x : Option ℕ) (before after : ℕ → Option ℕ) (a : ℕ) → after a ≡ say p x (say o x before) a → before a ≡ say p (option_and_then before p) (say o (option_and_then before o) after) a
say_back o p x before after a is = grind (arith, nat_tests)

say_other : (o : Option ℕ) (x : Option ℕ) (f : ℕ → Option ℕ) (a : ℕ) → ((c : ℕ) → o ≡ Some c → c ≢ a) → say o x f a ≡ f a
say_other o x f a other = grind (arith, nat_tests)

pub first_of : (n : ℕ) (report : Report) (c : ℕ) → first_said n report ≡ Some c → Names report c ⊎ (c ≡ n)
first_of n report c e = grind (arith, nat_tests, removed_named)

pub second_of : (report : Report) (c : ℕ) → second_said report ≡ Some c → Names report c
second_of report c e = grind (arith, nat_tests)

module _ {m : ℕ} {journal : List Entry} (accepted : IsAccepted 8 journal) (ends : EndsIn 8 m journal) where
  abbrev before : List Copy
  before = copies_of ends.entries

  abbrev sound : IsSound 8 journal
  sound = accepted_is_sound 8 journal accepted

  pub fit : Fit before ends.last.report
  fit = layer_founded journal accepted 0 (families journal m) ends.entries ends.last (layer_now 8 (families journal m) journal ∙ ends.own)

  pub named_of : (c : ℕ) → Names ends.last.report c → families journal c ≡ families journal m
  named_of c names = (ends.well.belongs.joins c names).family ∙ ap (families journal) ends.number

  first_family : (c : ℕ) → first_said m ends.last.report ≡ Some c → families journal c ≡ families journal m
  first_family c e = elim (first_of m ends.last.report c e) [ inl names ↦ named_of c names | inr new ↦ ap (families journal) new ]

  -- the record of the entry has what was said
  pub given_first : (last_before (family_kept journal (families journal m)).undo).first ≡ said_before (first_said m ends.last.report) before
  given_first = given ∙ ap (λ l. said_before (first_said m ends.last.report) (copies_of l)) (layer_before sound ends)
    where
      given : (last_before (family_kept journal (families journal m)).undo).first ≡ said_before (first_said m ends.last.report) (copies_of (layer 8 1 (families journal m) journal))
      given =
          ap (λ l. (last_before (of_each (undone_of journal) (λ k. layer 8 (k + 1) (families journal m) journal) l)).first) (ap reverse ends.pending ∙ reverse-append ends.numbers (m ∷ []))
          ∙ ap (λ e. (before_of e (copies_of (layer 8 1 (families journal m) journal))).first) ends.at
          ∙ ap (λ k. said_before (first_said k ends.last.report) (copies_of (layer 8 1 (families journal m) journal))) ends.number

  pub given_second : (last_before (family_kept journal (families journal m)).undo).second ≡ said_before (second_said ends.last.report) before
  given_second =
      ap (λ l. (last_before (of_each (undone_of journal) (λ k. layer 8 (k + 1) (families journal m) journal) l)).second) (ap reverse ends.pending ∙ reverse-append ends.numbers (m ∷ []))
      ∙ ap (λ e. (before_of e (copies_of (layer 8 1 (families journal m) journal))).second) ends.at
      ∙ ap (λ l. said_before (second_said ends.last.report) (copies_of l)) (layer_before sound ends)

  pub said_withdrawn : (entry : Entry) → entry.report ≡ Withdraw m → (a : ℕ)
      → say (second_said ends.last.report) (said_before (second_said ends.last.report) before) (say (first_said m ends.last.report) (said_before (first_said m ends.last.report) before) (said_in (living journal))) a ≡ said_in (living (journal ++ entry ∷ [])) a
  said_withdrawn entry is a =
      let r = ends.last.report in
      let content : Option Copy → Option ℕ = λ o. entry_of (option_and_then (λ copy. copy.content) o) in
      elim (cases_eq (families journal a) (families journal m)) [
        | inl here ↦
            let x = entry_of (content_by m r before) in
            let after : said_in (living journal) a ≡ say (second_said r) x (say (first_said m r) x (said_in before)) a = ap content (now_here sound ends a here) ∙ contents_report m r before (copies_below m ends.entries ends.below) fit a in
            sym (say_back (first_said m r) (second_said r) x (said_in before) (said_in (living journal)) a after) ∙ sym (ap content (left_here sound ends a here)) ∙ ap (λ l. said_in l a) (sym (living_withdrawn journal entry m is))
        | inr other ↦
            say_other (second_said r) _ _ a (λ c e same. other (ap (families journal) (sym same) ∙ named_of c (second_of r c e)))
            ∙ say_other (first_said m r) _ _ a (λ c e same. other (ap (families journal) (sym same) ∙ first_family c e))
            ∙ sym (ap content (left_other sound ends a other)) ∙ ap (λ l. said_in l a) (sym (living_withdrawn journal entry m is))
      ]
