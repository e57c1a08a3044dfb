-- Edits of two copies of one family, one behind the other.
use Rattle.pana_hall.proofs.Words.{AreSayings, IsStep, IsStepOf, Takes, ◌≡◌, ℕ, ◌+◌, ◌<◌, ◌≤◌, List, [], ◌∷◌, ◌++◌, length, Option, Some, None, IfSome, IsSome, option_and_then, option_map, cond}
use Rattle.pana_hall.proofs.Words.{refl, sym, ap, ◌∙◌, subst, inl, inr, arith, nat_tests, ne_eqb, length-append, slice_get, slice_index_or}
use Rattle.pana_hall.proofs.Words.{Entry, Report, Edit, Copy, copy_in, living, families, report_refusal, subject, family_report, FamilyReport, begun, next_entry, AreSpots, AreBefore, CanReport, Table, kept, is_register, is_of_copies}
use Rattle.pana_hall.proofs.Words.{IsAccepted, IsReady, KeptRows, reported_kept, families_of, all_listed, ListedFamily, AreRising, AreContents, content_at, said_in, first_said, second_said}
use Rattle.pana_hall.proofs.Words.{true, zero, suc, cases_lt, spot_in, spot_of, vec_capacity, before_of, earlier, get_or_from_slice_get, Earlier, position_for, spot_after, begun_or_joined, say, all_written, IsWithin}
use Rattle.pana_hall.specs.Living.{content_by}
use Rattle.std.specs.Prelude.{vec_len}
use Rattle.std.specs.Option.{option_or}
use Rattle.pana_journal.specs.Reports.{given_sum}
use Rattle.pana_hall.specs.declared.decision.Decision.TheVariants.{Both}
use Rattle.pana_calls.specs.declared.cause.Cause.TheVariants.{JournalFull}
use Rattle.pana_hall.specs.declared.next.Next.{Next}
use Rattle.pana_hall.specs.declared.state.State.{State}
use Rattle.pana_hall.specs.Refusal.{decision_refusal, with_report}
use Rattle.pana_hall.specs.declared.next.Step.{Step}
use Rattle.pana_hall.specs.declared.contents.Sayings.{Sayings}
use Rattle.pana_hall.specs.inner.Contents.{said_by_sum, entry_of}
use Rattle.pana_hall.specs.inner.Families.{position_at}
use Rattle.pana_hall.specs.inner.Kept.{family_of as family_kept, IsKept as IsKeptOf}
use Rattle.pana_hall.specs.inner.Listed.{IsPreparedAfter, IsPreparedFor}
use Rattle.pana_family.specs.declared.change.Change.{Change}
use Rattle.pana_hall.specs.inner.Next.{AreTwo, HasRoom, IsNext, IsSecond, IsStepAfter, TakesAfter, is_edit}
use Rattle.pana_hall.specs.inner.State.{IsHeld}
use Rattle.pana_hall.specs.declared.next.Step.TheVariants as steps
use Rattle.pana_family.specs.After.{reported_rows}
use Rattle.pana_hall.proofs.Sound.{accepted_is_sound, family_new, family_old}
use Rattle.pana_hall.proofs.Ready.{able_there, accepts_next, family_reported, new_there, own_is, spots_reported}
use Rattle.pana_hall.proofs.Runs.{next_accepted}
use Rattle.pana_hall.proofs.Lists.{at-append, rises_each, slice_get-each}
use Rattle.pana_hall.proofs.Places.{spots_next}
use Rattle.pana_hall.proofs.Listed.{begun_rises, found_entry, takes_step}
use Rattle.pana_hall.proofs.Said.{said_next}
use Rattle.pana_hall.proofs.NextSaid.{next_sayings}

-- the family at the position takes what was prepared behind another report
pub after_at : {entry next : Entry} {list : List ListedFamily} {position : ℕ} {copies : List Copy} {step : Step} → TakesAfter entry next list position copies step → (it d : ListedFamily) → it ≡ slice_index_or list position d
    → IsStepAfter entry next it copies step
after_at {entry} {next} {list} {position} {copies} {step} takes it d is = grind (arith, nat_tests, get_or_from_slice_get)

-- what was prepared behind an entry is what the next one makes of the family, once the entry is made
pub after_step : (entry next : Entry) (it made : ListedFamily) (lives : List Copy) (step : Step)
    → ((of second : FamilyReport) (change : Change) → family_report entry.report ≡ Some of → IsPreparedAfter entry.number of next.number second change it → IsPreparedFor next.number second change made)
    → IsStepAfter entry next it lives step → IsStepOf next made lives step
after_step entry next it made lives (steps.Begin place) goes is = absurd is
after_step entry next it made lives (steps.Change change place before) goes is = (is.2, is.3, goes is.0 is.2 change is.1 is.4, is.5, is.6)
after_step entry next it made lives steps.Settle goes is = absurd is

-- nothing is prepared behind an entry that says nothing of a family's copies
pub never_after : (entry next : Entry) (it : ListedFamily) (lives : List Copy) (step : Step) → ((of : FamilyReport) → family_report entry.report ≡ Some of → ⊥) → IsStepAfter entry next it lives step → ⊥
never_after entry next it lives (steps.Begin place) none is = is
never_after entry next it lives (steps.Change change place before) none is = none is.0 is.1
never_after entry next it lives steps.Settle none is = is

abbrev pub entry_with : ℕ → List ℕ → Report → Entry
entry_with n by report = record { number = n; by = by; report = report }

has_copy : (o : Option Copy) → IsSome o → (x : Copy) × (o ≡ Some x)
has_copy None some = absurd (cc)
has_copy (Some x) some = (x, refl)

module _ (journal : List Entry) (by : List ℕ) (first second : Report) (accepted : IsAccepted 8 journal) (two : AreTwo journal first second)
    (free : report_refusal 8 journal (living journal) by first ≡ None)
    (behind : report_refusal 8 (with_report journal by first) (living (with_report journal by first)) by second ≡ None) where
  abbrev next : List Entry
  next = with_report journal by first

  pub longer : length next ≡ length journal + 1
  longer = length-append journal (next_entry journal by first ∷ [])

  pub next_is_accepted : IsAccepted 8 next
  next_is_accepted = next_accepted 8 journal (next_entry journal by first) accepted (accepts_next journal by first free)

  pub second_within : IsWithin journal two.b
  second_within = let there = has_copy (copy_in (living journal) two.b) two.second_lives in found_entry journal two.b there.0 accepted there.1

  -- the second is of the first's family
  same_family : families next two.b ≡ families journal two.a
  same_family = family_old journal (next_entry journal by first) two.b (omega (arith, second_within.1)) ∙ sym two.family

  -- the copies stay where they are
  same_spots : (copies : Table) (n : ℕ) (report : Report) (c : ℕ) (sum : Option (List ℕ)) → report ≡ Edit c sum → (number : ℕ) → kept copies number ≡ spot_after n report (kept copies) number
  same_spots copies n report c sum is number = ap (λ r. spot_after n r (kept copies) number) (sym is)

  module _ {it : KeptRows} {copies : Table} (ready : IsReady journal by first it copies) where
    number_is : it.number ≡ families journal two.a
    number_is = own_is ready ∙ ap (λ r. begun_or_joined (families journal) (length journal + 1) (subject r)) two.first_is

    -- the family, once the first is made
    pub first_made : (n : ℕ) → n ≡ length journal → (of : FamilyReport) → family_report first ≡ Some of → (made : KeptRows) (before : Earlier) → before ≡ before_of (Some (next_entry journal by first)) (living journal)
        → made ≡ reported_kept (n + 1) of before it → made ≡ family_kept next it.number
    first_made n n_is of about made before before_is is =
        family_reported ready about n n_is made before before_is (subst (λ o. IfSome o (λ f. made ≡ reported_kept (n + 1) f before it)) (sym about) is) (ap is_of_copies two.first_is)

    pub next_spots : AreSpots next copies
    next_spots = spots_reported ready (ap is_of_copies two.first_is) (length journal) refl copies (same_spots copies (length journal + 1) first two.a two.first_sum two.first_is)

    -- is ready for the second
    pub next_ready : (made : KeptRows) → made ≡ family_kept next it.number → IsReady next by second made copies
    next_ready made is = record {
      accepted = next_is_accepted;
      free = behind;
      later = ap is_register two.second_is;
      kept = is ∙ ap (family_kept next) (number_is ∙ sym same_family ∙ ap (λ r. begun_or_joined (families next) (length next + 1) (subject r)) (sym two.second_is) ∙ sym (family_new next (next_entry next by second)));
      spots = next_spots;
    }

    pub able_second : (n : ℕ) → n ≡ length journal → (of second_of : FamilyReport) → family_report first ≡ Some of → family_report second ≡ Some second_of → CanReport second_of (reported_rows (n + 1) of it.rows)
    able_second n n_is of second_of about second_about =
        let before = before_of (Some (next_entry journal by first)) (living journal) in
        able_there (next_ready (reported_kept (n + 1) of before it) (first_made n n_is of about _ before refl refl)) second_about

    pub new_second : (n : ℕ) → n ≡ length journal → (of : FamilyReport) → family_report first ≡ Some of → AreBefore (n + 1 + 1) (reported_rows (n + 1) of it.rows)
    new_second n n_is of about =
        let before = before_of (Some (next_entry journal by first)) (living journal) in
        new_there (next_ready (reported_kept (n + 1) of before it) (first_made n n_is of about _ before refl refl)) (n + 1) (ap (λ k. k + 1) n_is ∙ sym longer)

  -- what is said of the second's copy stays as it is
  pub said_other : (contents : List ℕ) → AreContents journal contents → content_at contents two.b ≡ said_in (living next) two.b
  said_other contents are =
      let x = entry_of (content_by (length journal + 1) first (living journal)) in
      sym (ap (λ r. say (second_said r) x (say (first_said (length journal + 1) r) x (content_at contents)) two.b) two.first_is ∙ ap (λ t. cond t x (content_at contents two.b)) (ne_eqb two.b two.a (λ h. two.other (sym h))))
      ∙ said_next journal by first contents x accepted free are (ap is_of_copies two.first_is) refl two.b

  -- what is before it
  pub before_second : (contents : List ℕ) (n : ℕ) → AreContents journal contents → earlier None (option_and_then (content_at contents) (first_said n second)) None ≡ before_of (Some (next_entry next by second)) (living next)
  before_second contents n are =
      ap (λ r. earlier None (option_and_then (content_at contents) (first_said n r)) None) two.second_is ∙ ap (λ x. earlier None x None) (said_other contents are)
      ∙ ap (λ r. before_of (Some (next_entry next by r)) (living next)) (sym two.second_is)

-- Nothing stands against an Edit of a living copy, but that the journal is full.

free_edit : (journal : List Entry) (copies : List Copy) (by : List ℕ) (c : ℕ) (sum : Option (List ℕ)) → length journal < 1000000 → IsSome (copy_in copies c) → report_refusal 8 journal copies by (Edit c sum) ≡ None
free_edit journal copies by c sum few lives =
    let there = has_copy (copy_in copies c) lives in
    grind (arith, nat_tests, there.1)

full_edit : (journal : List Entry) (copies : List Copy) (by : List ℕ) (c : ℕ) (sum : Option (List ℕ)) → 1000000 ≤ length journal → report_refusal 8 journal copies by (Edit c sum) ≡ Some JournalFull
full_edit journal copies by c sum many = grind (arith, nat_tests)

-- after it the copies are where they were
edit_spots : (journal : List Entry) (by : List ℕ) (report : Report) (c : ℕ) (sum : Option (List ℕ)) → report ≡ Edit c sum → IsAccepted 8 journal → report_refusal 8 journal (living journal) by report ≡ None
    → (number : ℕ) → spot_in (living (with_report journal by report)) number ≡ spot_in (living journal) number
edit_spots journal by report c sum is accepted free number =
    spots_next 8 journal (next_entry journal by report) (accepted_is_sound 8 journal accepted) (accepts_next journal by report free) (ap is_of_copies is) number
    ∙ ap (λ r. spot_after (length journal + 1) r (spot_in (living journal)) number) is

spot_lives : (copies : List Copy) (n : ℕ) → IsSome (spot_in copies n) → IsSome (copy_in copies n)
spot_lives copies n some = by_copy (copy_in copies n) some
  where
    by_copy : (o : Option Copy) → IsSome (option_map spot_of o) → IsSome o
    by_copy None lives = lives
    by_copy (Some x) lives = refl

module _ (journal : List Entry) (by : List ℕ) (first second : Report) (accepted : IsAccepted 8 journal) (two : AreTwo journal first second) where
  pub first_free : length journal < 1000000 → report_refusal 8 journal (living journal) by first ≡ None
  first_free few = subst (λ r. report_refusal 8 journal (living journal) by r ≡ None) (sym two.first_is) (free_edit journal (living journal) by two.a two.first_sum few two.first_lives)

  second_lives : report_refusal 8 journal (living journal) by first ≡ None → IsSome (copy_in (living (with_report journal by first)) two.b)
  second_lives free =
      let there = has_copy (copy_in (living journal) two.b) two.second_lives in
      spot_lives (living (with_report journal by first)) two.b
      (subst IsSome (sym (edit_spots journal by first two.a two.first_sum two.first_is accepted free two.b ∙ ap (option_map spot_of) there.1)) refl)

  pub second_free : length journal + 2 ≤ 1000000 → report_refusal 8 (with_report journal by first) (living (with_report journal by first)) by second ≡ None
  second_free few =
      let free = first_free (omega arith) in
      let long = length-append journal (next_entry journal by first ∷ []) in
      subst (λ r. report_refusal 8 (with_report journal by first) (living (with_report journal by first)) by r ≡ None) (sym two.second_is)
      (free_edit (with_report journal by first) (living (with_report journal by first)) by two.b two.second_sum (omega (arith, long)) (second_lives free))

  pub both_free : length journal + 2 ≤ 1000000 → decision_refusal 8 journal by (Both first second) ≡ None
  both_free few =
      ap (λ o. option_or o (report_refusal 8 (with_report journal by first) (living (with_report journal by first)) by second)) (first_free (omega arith)) ∙ second_free few

  pub both_full : 1000000 < length journal + 2 → decision_refusal 8 journal by (Both first second) ≡ Some JournalFull
  both_full many = elim (cases_lt (length journal) 1000000) [
    | inl few ↦
        let long = length-append journal (next_entry journal by first ∷ []) in
        ap (λ o. option_or o (report_refusal 8 (with_report journal by first) (living (with_report journal by first)) by second)) (first_free few)
        ∙ subst (λ r. report_refusal 8 (with_report journal by first) (living (with_report journal by first)) by r ≡ Some JournalFull) (sym two.second_is)
        (full_edit (with_report journal by first) (living (with_report journal by first)) by two.b two.second_sum (omega (arith, long)))
    | inr full ↦
        let whole : report_refusal 8 journal (living journal) by first ≡ Some JournalFull =
        subst (λ r. report_refusal 8 journal (living journal) by r ≡ Some JournalFull) (sym two.first_is) (full_edit journal (living journal) by two.a two.first_sum full) in
        ap (λ o. option_or o (report_refusal 8 (with_report journal by first) (living (with_report journal by first)) by second)) whole
  ]

-- What the second says of contents.

edit_content : (m k b : ℕ) (sum : Option (List ℕ)) (copies : List Copy) → k ≡ m → option_map (λ s. k) sum ≡ entry_of (content_by m (Edit b sum) copies)
edit_content m k b None copies is = refl
edit_content m k b (Some s) copies is = ap (λ x. Some x) is

pub second_sayings : (journal : List Entry) (by : List ℕ) (report : Report) (b : ℕ) (sum : Option (List ℕ)) → report ≡ Edit b sum → IsAccepted 8 journal → report_refusal 8 journal (living journal) by report ≡ None → (n : ℕ) → n ≡ length journal
    → (contents : List ℕ) (sayings : Sayings) → AreContents journal contents
    → ((entries : ℕ → Option ℕ) (number : ℕ) → all_written sayings entries number ≡ said_by_sum (n + 1) report entries number)
    → option_map (λ s. s.copy) sayings.first ≡ first_said (n + 1) report → option_map (λ s. s.copy) sayings.second ≡ second_said report → AreSayings journal (next_entry journal by report) contents sayings
second_sayings journal by report b sum is accepted free n n_is contents sayings are written first second =
    next_sayings journal by report accepted free contents (option_map (λ s. n + 1) (given_sum report)) n sayings are (λ m withdraws. absurd (cc))
    (ap (λ r. option_map (λ s. n + 1) (given_sum r)) is ∙ edit_content (length journal + 1) (n + 1) b sum (living journal) (ap (λ k. k + 1) n_is) ∙ ap (λ r. entry_of (content_by (length journal + 1) r (living journal))) (sym is))
    n_is written first second

-- The two are next.

-- numbers that rise stand each at one place
rising_once : (low : ℕ) (numbers : List ℕ) (p q n : ℕ) → AreRising (λ k. k) low numbers → slice_get numbers p ≡ Some n → slice_get numbers q ≡ Some n → p ≡ q
rising_once low [] p q n rises at also = absurd (cc)
rising_once low (m ∷ numbers) zero zero n rises at also = refl
rising_once low (m ∷ numbers) zero (suc q) n rises at also =
    let above = slice_get-each (λ k. m < k) numbers q n (rises_each (λ k. k) m numbers rises.1) also in
    let same : m ≡ n = cc in
    absurd (omega (arith, above))
rising_once low (m ∷ numbers) (suc p) zero n rises at also =
    let above = slice_get-each (λ k. m < k) numbers p n (rises_each (λ k. k) m numbers rises.1) at in
    let same : m ≡ n = cc in
    absurd (omega (arith, above))
rising_once low (m ∷ numbers) (suc p) (suc q) n rises at also = ap suc (rising_once m numbers p q n rises.1 at also)

-- both are of the family at one position
pub second_position : (journal : List Entry) (first second : Report) (list : List KeptRows) (positions : List ℕ) (copies : Table) (said : List ℕ) (p : ℕ) → IsKeptOf journal list positions copies said → AreTwo journal first second
    → position_for list positions first ≡ Some p → position_for list positions second ≡ Some p
second_position journal first second list positions copies said p all two at =
    let first_there = has_copy (copy_in (living journal) two.a) two.first_lives in
    let second_there = has_copy (copy_in (living journal) two.b) two.second_lives in
    let first_in = found_entry journal two.a first_there.0 all.accepted first_there.1 in
    let second_in = found_entry journal two.b second_there.0 all.accepted second_there.1 in
    let one = all.placed.at two.a first_in.0 first_in.1 in
    let other = all.placed.at two.b second_in.0 second_in.1 in
    let here : Some p ≡ Some one.0 = sym at ∙ ap (λ r. position_for list positions r) two.first_is ∙ one.1 in
    let p_is : p ≡ one.0 = cc in
    let same : other.0 ≡ one.0 =
    rising_once 0 (begun journal) other.0 one.0 (families journal two.a) (begun_rises journal (accepted_is_sound 8 journal all.accepted).rising) (other.2 ∙ ap (λ f. Some f) (sym two.family)) one.2 in
    ap (λ r. position_for list positions r) two.second_is ∙ other.1 ∙ ap (λ k. Some k) (same ∙ sym p_is)

-- also once the first is made
pub second_placed : (journal : List Entry) (by : List ℕ) (first second : Report) (list : List KeptRows) (positions : List ℕ) (copies : Table) (said : List ℕ) (p : ℕ) → IsKeptOf journal list positions copies said → AreTwo journal first second
    → position_for list positions first ≡ Some p → position_for (families_of (with_report journal by first)) (positions ++ p ∷ []) second ≡ Some p
second_placed journal by first second list positions copies said p all two at =
    let there = second_position journal first second list positions copies said p all two at in
    let here : position_at positions two.b ≡ Some p = sym (ap (λ r. position_for list positions r) two.second_is) ∙ there in
    ap (λ r. position_for (families_of (with_report journal by first)) (positions ++ p ∷ []) r) two.second_is ∙ at-append positions (p ∷ []) two.b p here

-- what holds at these values holds of the two
module _ (state : State) (first second : Next) (journal : List Entry) (by : List ℕ) (one other : Report) (journal_is : state.journal.entries ≡ journal) (first_is : first.entry ≡ next_entry journal by one)
    (second_is : second.entry ≡ next_entry (with_report journal by one) by other) where
  at_these : (P : List Entry → List ℕ → Report → Report → Type 0) → P journal by one other → P state.journal.entries first.entry.by first.entry.report second.entry.report
  at_these P p =
      subst (λ j. P j first.entry.by first.entry.report second.entry.report) (sym journal_is)
      (subst (λ b. P journal b first.entry.report second.entry.report) (ap (λ (e : Entry). e.by) (sym first_is))
      (subst (λ r. P journal by r second.entry.report) (ap (λ (e : Entry). e.report) (sym first_is)) (subst (λ r. P journal by one r) (ap (λ (e : Entry). e.report) (sym second_is)) p)))

  pub next_two : AreTwo journal one other → report_refusal 8 (with_report journal by one) (living (with_report journal by one)) by other ≡ None → second.position ≡ first.position → HasRoom 2 state
      → ((said : List ℕ) → AreContents (with_report journal by one) said → AreSayings (with_report journal by one) (next_entry (with_report journal by one) by other) said second.sayings)
      → TakesAfter (next_entry journal by one) (next_entry (with_report journal by one) by other) state.families.list.items first.position (living (with_report journal by one)) second.step → IsSecond state first second
  next_two two free position room sayings step = record {
    two = at_these (λ j b r s. AreTwo j r s) two;
    entry = at_these (λ j b r s. second.entry ≡ next_entry (with_report j b r) b s) second_is;
    free = at_these (λ j b r s. report_refusal 8 (with_report j b r) (living (with_report j b r)) b s ≡ None) free;
    position = position;
    room = room;
    sayings = at_these (λ j b r s. (said : List ℕ) → AreContents (with_report j b r) said → AreSayings (with_report j b r) second.entry said second.sayings)
        (subst (λ e. (said : List ℕ) → AreContents (with_report journal by one) said → AreSayings (with_report journal by one) e said second.sayings) (sym second_is) sayings);
    step = at_these (λ j b r s. TakesAfter first.entry second.entry state.families.list.items first.position (living (with_report j b r)) second.step)
        (subst (λ e. TakesAfter e second.entry state.families.list.items first.position (living (with_report journal by one)) second.step) (sym first_is)
        (subst (λ e. TakesAfter (next_entry journal by one) e state.families.list.items first.position (living (with_report journal by one)) second.step) (sym second_is) step));
  }

-- once the first is made, the second is the next
pub second_next : (old new : State) (first second : Next) → IsHeld old → IsNext old first → IsSecond old first second → IsHeld new → new.journal.entries ≡ with_report old.journal.entries first.entry.by first.entry.report
    → new.families.positions.items ≡ old.families.positions.items ++ first.position ∷ [] → HasRoom 1 new
    → ((lives : List Copy) → TakesAfter first.entry second.entry old.families.list.items first.position lives second.step → Takes second.entry new.families.list.items first.position lives second.step) → IsNext new second
second_next old new first second held is behind kept entries positions room goes =
    let next = with_report old.journal.entries first.entry.by first.entry.report in
    let list = new.families.list in
    record {
      number = ap (λ (e : Entry). e.number) behind.entry ∙ ap (λ j. length j + 1) (sym entries);
      free = subst (λ j. report_refusal 8 j (living j) second.entry.by second.entry.report ≡ None) (sym entries)
          (subst (λ b. report_refusal 8 next (living next) b second.entry.report ≡ None) (sym (ap (λ (e : Entry). e.by) behind.entry)) behind.free);
      position = ap (λ l. position_for l new.families.positions.items second.entry.report) (kept.listed ∙ ap families_of entries)
          ∙ ap (λ p. position_for (families_of next) p second.entry.report) positions
          ∙ second_placed old.journal.entries first.entry.by first.entry.report second.entry.report (all_listed old.families.list.items) old.families.positions.items old.copies old.contents.entries.items first.position held behind.two is.position
          ∙ ap (λ p. Some p) (sym behind.position);
      room = room;
      copies = λ no. absurd (let yes : is_edit second.entry.report ≡ true = ap is_edit behind.two.second_is in cc);
      sayings = subst (λ j. AreSayings j second.entry new.contents.entries.items second.sayings) (sym entries)
          (behind.sayings new.contents.entries.items (subst (λ j. AreContents j new.contents.entries.items) entries kept.contents));
      step = subst (λ p. IsStep second.entry (vec_len list) (vec_capacity list) list.items p (living new.journal.entries) second.step) (sym behind.position)
          (subst (λ j. IsStep second.entry (vec_len list) (vec_capacity list) list.items first.position (living j) second.step) (sym entries)
          (takes_step second.entry (vec_len list) (vec_capacity list) list.items first.position (living next) second.step (goes (living next) behind.step)));
    }
