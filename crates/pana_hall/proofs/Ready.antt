-- What holds where nothing stands against a report, and what it leaves.
use Rattle.pana_hall.proofs.Words.{said_in, said_before, entry_of, first_said, second_said, before_of, Earlier, earlier, ◌⊎◌, inl, ◌<◌, ◌≤◌, ◌≡◌, ℕ, ◌+◌, List, length, Some, None, option_map, [], ◌∷◌, ◌++◌, Option, is_some, option_and_then, true, false, take, IfSome, IsSome, refl, sym, ap, ◌∙◌, subst}
use Rattle.pana_hall.proofs.Words.{inr, reverse, Place, Table, kept, Spot, placed, Report, Entry, AreBefore, CanReport, FamilyReport, pending, families, family_report, begun_or_joined, subject}
use Rattle.pana_hall.proofs.Words.{is_register, Copy, copy_in, copies_of, living, report_refusal, taken, brought_back, displaced, Accepts, layer, family_of_next, KeptRows, last_place, confirmed}
use Rattle.pana_hall.proofs.Words.{kept_rows, reported_kept, undone, withdrawn, spot_of, IsFree, spot_in, mover, spot_to, spot_after, undone_spot, CanUndo, next_entry, AreSpots, IsReady, place_before}
use Rattle.pana_hall.proofs.Words.{undone_of, of_pending, of_each, eq-eqb, Register, Duplicate, Relocate, Remove, Withdraw, Confirm, StampRow, is_of_copies, rows_of, reverse-append, arith, nat_tests}
use Rattle.pana_hall.proofs.Words.{place_of, IsFreeFor, CanPlace}
use Rattle.pana_hall.specs.inner.Kept.{family_of as family_kept}
use Rattle.pana_hall.proofs.Sound.{family_new, IsSound, accepted_is_sound, living_fit, LivesIn, found_family, named_report, none_against, family_named, free_place}
use Rattle.pana_hall.proofs.Tables.{own_copy, Open, open_withdraw, layer_now, EndsIn}
use Rattle.pana_hall.proofs.Places.{living_below, Back, back_at, back_none, now_here, displaced_of, layer_before, copies_below, spots_report, spots_withdrawn, put_same, not_taken, living_confirmed, spots_next, back_before, none_passes, same_place-itself}
use Rattle.pana_hall.proofs.Stood.{can_report, layers_stand, next_above, rows_changed}
use Rattle.pana_hall.proofs.Lists.{each_weaker}
use Rattle.pana_hall.proofs.Moves.{Names, none_below, displaced_named, made_of, removed_named}
use Rattle.pana_hall.proofs.Knowns.{layer_founded, layer_within}
use Rattle.std.proofs.Math.Path.{fun_ext}
use Rattle.pana_hall.proofs.Histories as kept_families

-- What holds where nothing stands against a report: of its family and of the table of copies.

pub family_of : (journal : List Entry) (c : ℕ) (copy : Copy) → IsSound 8 journal → copy_in (living journal) c ≡ Some copy → copy.family ≡ families journal c
family_of journal c copy sound found = found_family journal c copy (living_fit 8 journal sound) found

-- the next entry, with a report that nothing stands against
pub accepts_next : (journal : List Entry) (by : List ℕ) (report : Report) → report_refusal 8 journal (living journal) by report ≡ None → Accepts 8 journal (next_entry journal by report)
accepts_next journal by report free = record { next = refl; free = free }

-- where a copy is kept, by the table
pub place_spots : (journal : List Entry) (copies : Table) → AreSpots journal copies → (c : ℕ) → place_of copies c ≡ option_map (λ copy. copy.place) (copy_in (living journal) c)
place_spots journal copies spots c = grind (arith, nat_tests)

pub at_spots : (journal : List Entry) (copies : Table) → AreSpots journal copies → (c : ℕ) (place : Place) → place_of copies c ≡ Some place
    → (copy : Copy) × (copy_in (living journal) c ≡ Some copy) × (copy.place ≡ place)
at_spots journal copies spots c place at = grind (arith, nat_tests)

pub free_spots : (journal : List Entry) (copies : Table) → AreSpots journal copies → (place : Place) → taken place (living journal) ≡ None → IsFree place copies
free_spots journal copies spots place free number at = grind (arith, nat_tests, at_spots, none_passes, free_place, same_place-itself)

module _ {journal : List Entry} {by : List ℕ} {report : Report} {it : KeptRows} {copies : Table} where
  -- and the report is this one
  pub as_is : IsReady journal by report it copies → {r : Report} → report ≡ r → IsReady journal by r it copies
  as_is ready is = subst (λ r. IsReady journal by r it copies) is ready

  pub own_is : IsReady journal by report it copies → it.number ≡ begun_or_joined (families journal) (length journal + 1) (subject report)
  own_is ready = ap (λ k. k.number) ready.kept ∙ family_new journal (next_entry journal by report)

  -- the copies that the report names live, in its family
  pub named : IsReady journal by report it copies → (c : ℕ) → Names report c → LivesIn journal it.number c
  named ready c names = subst (λ f. LivesIn journal f c) (sym (own_is ready)) (named_report 8 (length journal + 1) journal by report c (living_fit 8 journal (accepted_is_sound 8 journal ready.accepted)) ready.free names)

  -- the family can take the report
  pub able_there : IsReady journal by report it copies → {of : FamilyReport} → family_report report ≡ Some of → CanReport of it.rows
  able_there ready {of} about =
      let entry = next_entry journal by report in
      let able = can_report journal entry (accepted_is_sound 8 journal ready.accepted) (accepts_next journal by report ready.free) (layers_stand journal ready.accepted 0 (family_of_next journal entry)) in
      subst (λ (k : KeptRows). CanReport of k.rows) (sym ready.kept) (subst (λ o. IfSome o (λ f. CanReport f (rows_of (layer 8 0 (family_of_next journal entry) journal)))) about able)

  pub new_there : IsReady journal by report it copies → (n : ℕ) → n ≡ length journal → AreBefore (n + 1) it.rows
  new_there ready n is =
      let entry = next_entry journal by report in
      let above = next_above journal entry (accepted_is_sound 8 journal ready.accepted) (accepts_next journal by report ready.free) (layers_stand journal ready.accepted 0 (family_of_next journal entry)) in
      subst (λ k. AreBefore (k + 1) it.rows) (sym is) (subst (λ (k : KeptRows). AreBefore (length journal + 1) k.rows) (sym ready.kept) above.0)

  -- the next number is no copy's
  pub is_fresh : IsReady journal by report it copies → (n : ℕ) → n ≡ length journal → kept copies (n + 1) ≡ None
  is_fresh ready n is =
      ap (λ k. kept copies (k + 1)) is ∙ ready.spots (length journal + 1)
      ∙ ap (option_map spot_of) (none_below (length journal + 1) (living journal) (living_below 8 (length journal + 1) journal (accepted_is_sound 8 journal ready.accepted) refl))

-- What holds where a Withdraw isn't refused: how the entry can be undone.

-- the record of a family's last pending entry has the place of the copy that undoing it brings back
pub given_back : (journal : List Entry) (m : ℕ) → IsSound 8 journal → (ends : EndsIn 8 m journal) → last_place (family_kept journal (families journal m)).undo ≡ option_map (λ copy. copy.place) (brought_back m journal)
given_back journal m sound ends =
    let family = families journal m in
    let place_of_copy : Option Copy → Option Place = option_map (λ copy. copy.place) in
    let turned : reverse (pending 8 family journal) ≡ m ∷ reverse ends.numbers = ap reverse ends.pending ∙ reverse-append ends.numbers (m ∷ []) in
    ap (λ l. last_place (of_each (undone_of journal) (λ k. layer 8 (k + 1) family journal) l)) turned
    ∙ ap (λ e. place_before e (copies_of (layer 8 1 family journal))) ends.at
    ∙ elim (displaced ends.last.report) as (λ d. displaced ends.last.report ≡ d → option_and_then (λ c. place_of_copy (copy_in (copies_of (layer 8 1 family journal)) c)) d ≡ place_of_copy (brought_back m journal)) [
      | None ↦ λ e. ap place_of_copy (sym (back_none sound ends e))
      | Some c ↦ λ e. ap (λ l. place_of_copy (copy_in (copies_of l) c)) (layer_before sound ends) ∙ ap place_of_copy (sym (back_before sound ends c e))
    ] refl

module _ {journal : List Entry} {by : List ℕ} {m : ℕ} {it : KeptRows} {copies : Table} (ready : IsReady journal by (Withdraw m) it copies) where
  abbrev sound : IsSound 8 journal
  sound = accepted_is_sound 8 journal ready.accepted

  pub opened : Open 8 m journal
  opened = open_withdraw 8 m journal by (Withdraw m) sound refl ready.free

  abbrev ends : EndsIn 8 m journal
  ends = opened.ends

  -- the place that the entry gives back
  front : last_place it.undo ≡ option_map (λ copy. copy.place) (brought_back m journal)
  front = ap (λ (k : KeptRows). last_place k.undo) (ready.kept ∙ ap (family_kept journal) (family_named 8 journal (next_entry journal by (Withdraw m)) m (inr refl))) ∙ given_back journal m sound ends

  front_back : (c : ℕ) → (back : Back journal m c ends.entries) → last_place it.undo ≡ Some back.copy.place
  front_back c back = front ∙ ap (option_map (λ copy. copy.place)) back.is

  front_none : displaced ends.last.report ≡ None → last_place it.undo ≡ None
  front_none none = front ∙ ap (option_map (λ copy. copy.place)) (back_none sound ends none)

  -- no other copy has the place of the one that lived before the entry
  back_free : (c : ℕ) → (back : Back journal m c ends.entries) → (number : ℕ) → place_of copies number ≡ Some back.copy.place → number ≡ c
  back_free c back number at_it = grind (arith, nat_tests, at_spots, opened, not_taken)

  -- where the copy that the entry made, moved or removed is kept since
  kept_moved : (c : ℕ) → mover m ends.last.report ≡ Some c → families journal c ≡ families journal m → kept copies c ≡ spot_to m ends.last.report (spot_in (copies_of ends.entries))
  kept_moved c moves of =
      let report = ends.last.report in
      grind (arith, nat_tests, ready.spots c, now_here sound ends c of, spots_report m report (copies_of ends.entries) (copies_below m ends.entries ends.below) c, eq-eqb c c refl)

  undo_by : (report : Report) → ends.last.report ≡ report → CanUndo m report it.number (last_place it.undo) copies
  undo_by (Register place sum) e = (front_none (ap displaced e), ap is_some (kept_moved m (ap (mover m) e) refl ∙ ap (λ r. spot_to m r (spot_in (copies_of ends.entries))) e))
  undo_by (Duplicate source place sum) e =
      let lives = layer_founded journal ready.accepted 0 (families journal m) ends.entries ends.last (layer_now 8 (families journal m) journal ∙ ends.own) source (subst (λ r. Names r source) (sym e) refl) in (
        front_none (ap displaced e),
        ap is_some (kept_moved m (ap (mover m) e) refl ∙ ap (λ r. spot_to m r (spot_in (copies_of ends.entries))) e ∙ ap (λ x. placed place (option_map spot_of x)) lives.1),
      )
  undo_by (Relocate c place) e =
      let back = back_at journal m c ready.accepted ends (ap displaced e) in
      record {
        place = back.copy.place;
        back_is = front_back c back;
        from = place;
        lives = kept_moved c (ap (mover m) e) (displaced_of sound ends c (ap displaced e))
            ∙ ap (λ r. spot_to m r (spot_in (copies_of ends.entries))) e ∙ ap (λ x. placed place (option_map spot_of x)) back.found
            ∙ ap (λ f. Some (record { family = f; place = place })) (back.family ∙ sym (own_is ready));
        free = back_free c back;
      }
  undo_by (Remove c heir) e =
      let back = back_at journal m c ready.accepted ends (ap displaced e) in
      let gone : kept copies c ≡ None = kept_moved c (ap (mover m) e) (displaced_of sound ends c (ap displaced e)) ∙ ap (λ r. spot_to m r (spot_in (copies_of ends.entries))) e in
      record {
        place = back.copy.place;
        back_is = front_back c back;
        gone = gone;
        free = λ number at_it.
            let none : place_of copies number ≡ None = ap (place_of copies) (back_free c back number at_it) ∙ ap (option_map (λ s. s.place)) gone in
            absurd (cc);
      }
  undo_by report e = tt

  pub can_undo : CanUndo m ends.last.report it.number (last_place it.undo) copies
  can_undo = undo_by ends.last.report refl

  -- and the table has the living copies then
  pub undone_spots : (number : ℕ) → undone_spot m ends.last.report it.number (last_place it.undo) copies number ≡ spot_in (living (journal ++ next_entry journal by (Withdraw m) ∷ [])) number
  undone_spots number =
      let report = ends.last.report in
      let spot_back : Option Place → Option Spot = option_map (λ p. record { family = it.number; place = p }) in
      let same : spot_back (last_place it.undo) ≡ option_map spot_of (brought_back m journal) =
      elim (displaced report) as (λ d. displaced report ≡ d → spot_back (last_place it.undo) ≡ option_map spot_of (brought_back m journal)) [
        | None ↦ λ e. ap spot_back (front_none e) ∙ ap (option_map spot_of) (sym (back_none sound ends e))
        | Some c ↦ λ e.
            let back = back_at journal m c ready.accepted ends e in
            ap spot_back (front_back c back) ∙ ap (λ f. Some (record { family = f; place = back.copy.place })) (own_is ready ∙ sym back.family) ∙ ap (option_map spot_of) (sym back.is)
      ] refl in
      put_same (mover m report) _ _ (kept copies) (spot_in (living journal)) number same (ready.spots number)
      ∙ sym (spots_withdrawn 8 m journal (next_entry journal by (Withdraw m)) sound refl ends number)

-- What a report that isn't refused leaves: its family, and the table of copies.

-- a report that is neither a Register nor of an entry is one of a family that has begun
pub of_family : (report : Report) → is_register report ≡ false → is_of_copies report ≡ true → (of : FamilyReport) × (family_report report ≡ Some of)
of_family report later is = grind (arith, nat_tests, made_of)

pub of_copies : (report : Report) → ((m : ℕ) → report ≡ Confirm m → ⊥) → ((m : ℕ) → report ≡ Withdraw m → ⊥) → is_of_copies report ≡ true
of_copies report h1 h2 = grind (arith, nat_tests)

pub reports_copies : (report : Report) {of : FamilyReport} → family_report report ≡ Some of → is_of_copies report ≡ true
reports_copies report about = grind (arith, nat_tests)

module _ {journal : List Entry} {by : List ℕ} {report : Report} {it : KeptRows} {copies : Table} (ready : IsReady journal by report it copies) where
  -- the table goes by the report
  pub spots_reported : is_of_copies report ≡ true → (n : ℕ) → n ≡ length journal → (after_it : Table) → ((number : ℕ) → kept after_it number ≡ spot_after (n + 1) report (kept copies) number)
      → AreSpots (journal ++ next_entry journal by report ∷ []) after_it
  spots_reported is n n_is after_it goes number =
      goes number
      ∙ ap (λ k. spot_after (k + 1) report (kept copies) number) n_is ∙ ap (λ s. spot_after (length journal + 1) report s number) (fun_ext ready.spots)
      ∙ sym (spots_next 8 journal (next_entry journal by report) (accepted_is_sound 8 journal ready.accepted) (accepts_next journal by report ready.free) is number)

  pub spots_confirm : {m : ℕ} → report ≡ Confirm m → AreSpots (journal ++ next_entry journal by report ∷ []) copies
  spots_confirm {m} is number = ready.spots number ∙ ap (λ l. spot_in l number) (sym (living_confirmed journal (next_entry journal by report) m is))

  -- a copy that the report names is kept
  kept_named : {r : Report} → report ≡ r → (c : ℕ) → Names r c → IsSome (kept copies c)
  kept_named is c names = grind (arith, nat_tests, named)

  -- so is the one that it moves or removes
  pub lives_displaced : IfSome (displaced report) (λ copy. IsSome (kept copies copy))
  lives_displaced = grind (arith, nat_tests, kept_named, displaced_named)

  -- a duplicate is kept beside its source
  spot_duplicate : {source : ℕ} {place : Place} {sum : Option (List ℕ)} → report ≡ Duplicate source place sum → Some (record { family = it.number; place = place }) ≡ placed place (kept copies source)
  spot_duplicate {source} {place} {sum} is =
      let there = named ready source (subst (λ r. Names r source) (sym is) refl) in
      grind (arith, nat_tests, there.of, family_of journal source there.copy (accepted_is_sound 8 journal ready.accepted) there.found, there.found, ready.spots source)

  -- a place that a report gives a copy is free
  free_duplicate : {source : ℕ} {place : Place} {sum : Option (List ℕ)} → report ≡ Duplicate source place sum → IsFree place copies
  free_duplicate {source} {place} {sum} is = grind (arith, nat_tests, free_spots, none_against, as_is)

  free_relocate : {c : ℕ} {place : Place} → report ≡ Relocate c place → IsFreeFor c place copies
  free_relocate {c} {place} is number at = grind (arith, nat_tests, free_spots, none_against, as_is)

  -- so the copy can be kept as it says
  pub can_place : (n : ℕ) → n ≡ length journal → (r : Report) → report ≡ r → CanPlace (n + 1) r it.number copies
  can_place n n_is (Register place sum) is = absurd (let later = ready.later in let yes : is_register report ≡ true = ap is_register is in cc)
  can_place n n_is (Duplicate source place sum) is = (is_fresh ready n n_is, free_duplicate is, spot_duplicate is)
  can_place n n_is (Relocate c place) is = (kept_named is c refl, free_relocate is)
  can_place n n_is (Remove c heir) is = kept_named is c (removed_named c heir)
  can_place n n_is r is = tt

  -- a copy of whose content the report says something is one that it is about, or the new one
  first_named : (n c : ℕ) → first_said n report ≡ Some c → Names report c ⊎ (c ≡ n)
  first_named n c is = by_report report is
    where
      by_report : (r : Report) → first_said n r ≡ Some c → Names r c ⊎ (c ≡ n)
      by_report r e = grind (arith, nat_tests, removed_named)

  second_named : (c : ℕ) → second_said report ≡ Some c → Names report c
  second_named c is = by_report report is
    where
      by_report : (r : Report) → second_said r ≡ Some c → Names r c
      by_report r e = grind (arith, nat_tests)

  -- the family's entries make the same of a copy that it is about as all do
  own_named : (c : ℕ) → Names report c → copy_in (copies_of (layer 8 0 it.number journal)) c ≡ copy_in (living journal) c
  own_named c names = own_copy journal it.number c (accepted_is_sound 8 journal ready.accepted) (named ready c names).of

  own_new : copy_in (copies_of (layer 8 0 it.number journal)) (length journal + 1) ≡ copy_in (living journal) (length journal + 1)
  own_new =
      let sound = accepted_is_sound 8 journal ready.accepted in
      let n = length journal + 1 in
      none_below n _ (copies_below n (layer 8 0 it.number journal) (each_weaker (λ e. e.number ≤ length journal) (λ e. e.number < n) _ (λ e within. omega arith) (layer_within journal 0 it.number sound)))
      ∙ sym (none_below n (living journal) (living_below 8 n journal sound refl))

  said_now : (o : Option ℕ) → ((c : ℕ) → o ≡ Some c → Names report c ⊎ (c ≡ length journal + 1)) → said_before o (living journal) ≡ said_before o (copies_of (layer 8 0 it.number journal))
  said_now None about = refl
  said_now (Some c) about = elim (about c refl) [
    | inl names ↦ ap (λ x. entry_of (option_and_then (λ copy. copy.content) x)) (sym (own_named c names))
    | inr new ↦ subst (λ k. said_in (living journal) k ≡ said_in (copies_of (layer 8 0 it.number journal)) k) (sym new) (ap (λ x. entry_of (option_and_then (λ copy. copy.content) x)) (sym own_new))
  ]

  -- what is before the report among the living copies is before it among those of its family
  before_now : before_of (Some (next_entry journal by report)) (living journal) ≡ before_of (Some (next_entry journal by report)) (copies_of (layer 8 0 it.number journal))
  before_now =
      let place = elim (displaced report) as (λ o. displaced report ≡ o → option_and_then (λ c. option_map (λ copy. copy.place) (copy_in (living journal) c)) o ≡ option_and_then (λ c. option_map (λ copy. copy.place) (copy_in (copies_of (layer 8 0 it.number journal)) c)) o) [
        | None ↦ λ e. refl
        | Some c ↦ λ e. ap (option_map (λ copy. copy.place)) (sym (own_named c (displaced_named report c e)))
      ] refl in
      let first = said_now (first_said (length journal + 1) report) (first_named (length journal + 1)) in
      let second = said_now (second_said report) (λ c e. inl (second_named c e)) in
      ap (λ p. earlier p (said_before (first_said (length journal + 1) report) (living journal)) (said_before (second_said report) (living journal))) place
      ∙ ap (λ f. earlier (option_and_then (λ c. option_map (λ copy. copy.place) (copy_in (copies_of (layer 8 0 it.number journal)) c)) (displaced report)) f (said_before (second_said report) (living journal))) first
      ∙ ap (λ s. earlier (option_and_then (λ c. option_map (λ copy. copy.place) (copy_in (copies_of (layer 8 0 it.number journal)) c)) (displaced report)) (said_before (first_said (length journal + 1) report) (copies_of (layer 8 0 it.number journal))) s) second

  -- the family, once the report is accepted
  pub family_reported : {of : FamilyReport} → family_report report ≡ Some of → (n : ℕ) → n ≡ length journal → (after_it : KeptRows) (before : Earlier)
      → before ≡ before_of (Some (next_entry journal by report)) (living journal)
      → IfSome (family_report report) (λ f. after_it ≡ reported_kept (n + 1) f before it) → is_of_copies report ≡ true
      → after_it ≡ family_kept (journal ++ next_entry journal by report ∷ []) it.number
  family_reported {of} about n n_is after_it before before_is made is =
      let entry = next_entry journal by report in
      let own = family_of_next journal entry in
      let number : it.number ≡ own = ap (λ (k : KeptRows). k.number) ready.kept in
      let done : after_it ≡ reported_kept (n + 1) of before it = subst (λ o. IfSome o (λ f. after_it ≡ reported_kept (n + 1) f before it)) about made in
      let rows = rows_of (layer 8 0 own journal) in
      let then = before_of (Some entry) (copies_of (layer 8 0 own journal)) in
      done
      ∙ ap (λ k. reported_kept (k + 1) of before it) n_is
      ∙ ap (λ b. reported_kept (length journal + 1) of b it) (before_is ∙ before_now ∙ ap (λ f. before_of (Some entry) (copies_of (layer 8 0 f journal))) number)
      ∙ ap (reported_kept (length journal + 1) of then) ready.kept
      ∙ ap (λ (l : List StampRow). kept_rows own l (take 8 (undone (length journal + 1) rows then ∷ of_pending (undone_of journal) own journal))) (sym (rows_changed (length journal + 1) report of rows about))
      ∙ sym (kept_families.family_report journal entry (accepted_is_sound 8 journal ready.accepted) (accepts_next journal by report ready.free) is)
      ∙ ap (family_kept (journal ++ entry ∷ [])) (sym number)

  pub family_confirmed : {m : ℕ} → report ≡ Confirm m → (after_it : KeptRows) → after_it ≡ confirmed m it → after_it ≡ family_kept (journal ++ next_entry journal by report ∷ []) it.number
  family_confirmed {m} is after_it made =
      let entry = next_entry journal by report in
      cc (ready.kept, kept_families.family_confirm m journal entry (accepted_is_sound 8 journal ready.accepted) (accepts_next journal by report ready.free) is)

  pub family_withdrawn : {m : ℕ} → report ≡ Withdraw m → (after_it : KeptRows) → after_it ≡ withdrawn it → after_it ≡ family_kept (journal ++ next_entry journal by report ∷ []) it.number
  family_withdrawn {m} is after_it made =
      let entry = next_entry journal by report in
      cc (ready.kept, kept_families.family_withdraw m journal entry (accepted_is_sound 8 journal ready.accepted) (accepts_next journal by report ready.free) is)
