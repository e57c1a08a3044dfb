-- The rows that a journal gives a family stand for the sets that it gives it.
use Rattle.pana_hall.proofs.Words.{content_by, Note, Option, ◌≡◌, ℕ, zero, suc, ◌+◌, ◌<◌, ◌≤◌, List, [], ◌∷◌, length, filter, count_by, Some, None, IfSome, ◌≢◌, Bool, true, false, cond, not, ◌++◌, option_and_then}
use Rattle.pana_hall.proofs.Words.{AllByRecursion, then_some, refl, sym, ap, ◌∙◌, subst, arith, inl, inr, not-false, length-map, length-filter, fold-append, nat_tests, Report, Register, Duplicate}
use Rattle.pana_hall.proofs.Words.{Edit, Reconcile, Merge, Relocate, Remove, Entry, TooDeep, families, subject, entries_of, family_report, Copy, after_report, copy_in, living, new_copy, pending}
use Rattle.pana_hall.proofs.Words.{all_known, is_of, sets_of, against, unknown, family_full, same, too_deep, Accepts, IsAccepted, layer, family_of_next, FamilyReport, IsKept, StampRow, Place}
use Rattle.pana_hall.proofs.Words.{StandsFor, AreBefore, copy_rows, divides, lives, seed_row, CanReport, In, IsAbove, Known, same_copies, One, same_length, empty_kept, NamesOf, effective}
use Rattle.pana_hall.proofs.Words.{is_of_copies, sets_at, rows_after, stamp_rows, ◌^◌, leb-false, is_duplicate, duplicates_in, AreSound, deepest, AreBelow, same_before, same_living, one_known}
use Rattle.pana_hall.proofs.Words.{divides_is, seed_kept, seed_sound, undivided_deep, IsTouched, numbers_reported, reported, rows_by, is_some, list_any, is_in, ◌==◌}
use Rattle.pana_hall.specs.{Living.copies_of, laws.Sets.knowns_of, StampRows.rows_of}
use Rattle.pana_hall.proofs.Lists.{each_last, each_left, each_weaker}
use Rattle.pana_hall.proofs.Moves.{Lives, Names, copies_of-push, made_of}
use Rattle.pana_hall.proofs.Sound.{AreNone, family_new, known, none_against, none_false, IsSound, accepted_is_sound, found_family, living_fit}
use Rattle.pana_hall.proofs.Tables.{copies_of_none, own_copy, table_living, table_own, family_of_copy, layer_now, layer_new}
use Rattle.pana_hall.proofs.Knowns.{Mirrors, above_reported, found_there, knowns_of-push, layer_within, layers_hold, lives_known, mirrors, names_known, read_lives}
use Rattle.pana_family.specs.{Report.deeper, After.reported_rows}
use Rattle.pana_family.specs.Report as by_family
use Rattle.pana_family.specs.Table as by_table
use Rattle.pana_family.proofs.Exacts.{asked, below_kept, report_law, sound_after}
use Rattle.pana_family.proofs.Changes.{empty_stands, seed_stands}
use Rattle.pana_hall.specs.laws.Tables as tables

-- where a Duplicate isn't refused its source lives in a family with room
room_for : (number : ℕ) (copies : List Copy) → unknown number copies ≡ None → family_full number copies ≡ None → (copy : Copy) × (copy_in copies number ≡ Some copy) × (length (filter (is_of copy.family) copies) < 256)
room_for number copies open_ room = grind (arith, nat_tests, known, none_false, length-filter)

-- two copies that a report names are two
differ : (a b : ℕ) → same a b ≡ None → a ≢ b
differ a b none same_ = grind (arith, nat_tests)

-- the rows, as entries come
pub rows_of-push : (entries : List Entry) (entry : Entry) → rows_of (entries ++ entry ∷ []) ≡ rows_after entry.number entry.report (rows_of entries)
unfolding rows_of
rows_of-push entries entry = fold-append rows_by [] entries (entry ∷ [])

pub rows_none : rows_of [] ≡ []
unfolding rows_of
rows_none = refl

pub knowns_none : knowns_of [] ≡ []
unfolding knowns_of
knowns_none = refl

-- what is reported of a family that has begun, of its rows and of its sets
pub rows_changed : (n : ℕ) (report : Report) (of : FamilyReport) (rows : List StampRow) → family_report report ≡ Some of → rows_after n report rows ≡ reported_rows n of rows
rows_changed n report of rows about = grind (arith, nat_tests)

sets_changed : (n : ℕ) (report : Report) (of : FamilyReport) (table : List Known) → family_report report ≡ Some of → reported n report table ≡ by_family.reported n of table
sets_changed n report of table about = grind (arith, nat_tests)

-- how much deeper ids get
deeper_is : (report : Report) → IfSome (family_report report) (λ of. deeper of ≡ cond (is_duplicate report) 1 0)
deeper_is report = grind (arith, nat_tests)

-- what the rows of these entries keep and stand for; the copies of their table of sets are those that the entries make, and its numbers are theirs
pub record IsStood (entries : List Entry) : Type 0 where
  pub kept : IsKept (rows_of entries)
  pub sound : AreSound (rows_of entries)
  pub stands : StandsFor (rows_of entries) (knowns_of entries)
  pub deep : deepest (rows_of entries) ≤ count_by (λ e. is_duplicate e.report) entries
  pub copies : Mirrors (knowns_of entries) (copies_of entries)
  pub touched : (t : Known) → In t (knowns_of entries) → IsTouched t
  pub above : (n : ℕ) → AllByRecursion (λ e. e.number < n) entries → IsAbove n (knowns_of entries)

none_stood : IsStood []
unfolding copies_of knowns_of rows_of
none_stood = grind (arith, nat_tests, empty_kept, empty_stands)

-- each number stands once in their table
pub stood_one : (entries : List Entry) → IsStood entries → One (knowns_of entries)
stood_one entries stood = one_known 0 (rows_of entries) (knowns_of entries) stood.stands.same stood.kept.rising

-- all numbers in it are below one that is above those of the entries
pub stood_below : (entries : List Entry) (n : ℕ) → IsStood entries → AllByRecursion (λ e. e.number < n) entries
    → AreBefore n (rows_of entries) × AreBelow n (knowns_of entries)
stood_below entries n stood all =
    let before = same_before (rows_of entries) (knowns_of entries) n stood.stands.same (stood.above n all) in
    (before, below_kept (rows_of entries) n (knowns_of entries) stood.stands (λ t u i. stood.touched t i u) before)

-- a copy that lives among those that the entries make lives in their rows
pub lives_there : (entries : List Entry) (c : ℕ) → IsStood entries → Lives (copies_of entries) c → lives (rows_of entries) c ≡ true
lives_there entries c stood there =
    same_living (rows_of entries) (knowns_of entries) c stood.stands.same
    ∙ lives_known (knowns_of entries) c there.0 (found_there (knowns_of entries) (copies_of entries) c there.0 stood.copies there.1)

-- how many copies live, by the rows as by the sets
counted : (k family : ℕ) (journal : List Entry) → IsSound 8 journal → IsStood (layer 8 k family journal) → length (copy_rows (rows_of (layer 8 k family journal))) ≡ length (tables.table 8 k family journal)
counted k family journal sound stood =
    let entries = layer 8 k family journal in
    grind (arith, nat_tests, same_length, same_copies, stood.copies, length-map (copies_of entries) (λ c. c.known), table_own 8 k family journal sound)

-- the entries of a layer are below the next number
layer_below : (journal : List Entry) (k family n : ℕ) → IsSound 8 journal → n ≡ length journal + 1 → AllByRecursion (λ e. e.number < n) (layer 8 k family journal)
layer_below journal k family n sound next = each_weaker (λ e. e.number ≤ length journal) (λ e. e.number < n) _ (λ e within. omega arith) (layer_within journal k family sound)

module _ (journal : List Entry) (entry : Entry) (sound : IsSound 8 journal) (accepts : Accepts 8 journal entry) where
  -- the entries of its family
  abbrev before : List Entry
  before = layer 8 0 (family_of_next journal entry) journal

  -- all numbers in the rows and sets of a family are below that of the next entry
  pub next_above : IsStood before → AreBefore entry.number (rows_of before) × AreBelow entry.number (knowns_of before)
  next_above stood = stood_below before entry.number stood (layer_below journal 0 (family_of_next journal entry) entry.number sound accepts.next)

  can_divide : (source : ℕ) (place : Place) (sum : Option (List ℕ)) → entry.report ≡ Duplicate source place sum → AreNone (against 8 journal (living journal) entry.by (Duplicate source place sum)) → IsStood before
      → (length (copy_rows (rows_of before)) < 256) × (divides (rows_of before) source ≡ true)
  can_divide source place sum is none stood =
      let own = family_of_next journal entry in
      let room = room_for source (living journal) none.0 none.1.1.0 in
      let of_own : room.0.family ≡ own = sym (family_of_copy 8 journal entry source room.0 sound (ap subject is) room.1) in
      let few : length (filter (is_of own) (living journal)) < 256 = subst (λ f. length (filter (is_of f) (living journal)) < 256) of_own room.2 in
      let deep : then_some (not (divides (stamp_rows room.0.family journal) source)) TooDeep ≡ None =
      ap (option_and_then (λ copy. then_some (not (divides (stamp_rows copy.family journal) source)) TooDeep)) (sym room.1) ∙ none.1.1.1.0 in
      let shown : stamp_rows room.0.family journal ≡ rows_of before = ap (λ f. stamp_rows f journal) of_own ∙ ap rows_of (sym (layer_now 8 own journal)) in (
        omega (arith, counted 0 own journal sound stood, ap length (table_living 8 own journal)),
        subst (λ r. divides r source ≡ true) shown (not-false _ (none_false _ _ deep)),
      )

  -- a report that isn't refused can be made
  pub can_report : IsStood before → IfSome (family_report entry.report) (λ of. CanReport of (rows_of before))
  can_report stood =
      can entry.report refl (none_against 8 journal (living journal) entry.by entry.report accepts.free).1 (λ c names. lives_there before c stood (read_lives journal entry sound accepts c names))
    where
      can : (report : Report) → entry.report ≡ report → AreNone (against 8 journal (living journal) entry.by report) → ((c : ℕ) → Names report c → lives (rows_of before) c ≡ true)
          → IfSome (family_report report) (λ of. CanReport of (rows_of before))
      can (Duplicate source place sum) is none named = let divide = can_divide source place sum is none stood in (named source refl, divide.0, divides_is (rows_of before) source divide.1)
      can (Edit c sum) is none named = named c refl
      can (Reconcile a b sum) is none named = (named a (inl refl), named b (inr refl), differ a b none.1.1.0)
      can (Merge a b sum) is none named = (named a (inl refl), named b (inr refl), differ a b none.1.1.0)
      can (Relocate c place) is none named = named c refl
      can (Note c sum) is none named = named c refl
      can (Remove c None) is none named = (named c refl, tt, λ e. absurd (cc))
      can (Remove c (Some heir)) is none named = (named c (inl refl), named heir (inr refl), λ e. let one : heir ≡ c = cc in differ c heir none.1.1.0 (sym one))
      can report is none named = tt

  -- so what it leaves of a family that has begun keeps what the rows keep
  step_changes : (of : FamilyReport) → family_report entry.report ≡ Some of → is_of_copies entry.report ≡ true → IsStood before → IsStood (before ++ entry ∷ [])
  step_changes of about is stood =
      let n = entry.number in
      let rows = rows_of before in
      let sets = knowns_of before in
      let few : length journal < 1000000 = leb-false 1000000 (length journal) (none_false _ _ (none_against 8 journal (living journal) entry.by entry.report accepts.free).0) in
      let next = accepts.next in
      let fits : n < 2 ^ 64 = omega arith in
      let above = next_above stood in
      let can = subst (λ o. IfSome o (λ f. CanReport f rows)) about (can_report stood) in
      let done = report_law n of rows fits stood.kept stood.sound can above.0 in
      let one = stood_one before stood in
      let live = read_lives journal entry sound accepts in
      let names = subst (λ o. IfSome o (λ f. CanReport f rows → NamesOf f sets)) about (names_known entry.report rows sets (copies_of before) stood.copies live) can in
      let rows_is : rows_of (before ++ entry ∷ []) ≡ reported_rows n of rows = rows_of-push before entry ∙ rows_changed n entry.report of rows about in
      let sets_is : by_family.reported n of sets ≡ knowns_of (before ++ entry ∷ []) = sym (knowns_of-push before entry ∙ sets_changed n entry.report of sets about) in
      let count : count_by (λ e. is_duplicate e.report) (before ++ entry ∷ []) ≡ count_by (λ e. is_duplicate e.report) before + cond (is_duplicate entry.report) 1 0 =
      fold-append (λ a e. a + cond (is_duplicate e.report) 1 0) 0 before (entry ∷ []) in
      let deeper_by = subst (λ o. IfSome o (λ f. deeper f ≡ cond (is_duplicate entry.report) 1 0)) about (deeper_is entry.report) in
      record {
        kept = subst IsKept (sym rows_is) done.kept;
        sound = subst AreSound (sym rows_is) (sound_after n of rows fits stood.kept stood.sound can above.0);
        stands = subst (StandsFor (rows_of (before ++ entry ∷ []))) sets_is
            (subst (λ r. StandsFor r (by_family.reported n of sets)) (sym rows_is) (done.stands sets stood.stands (asked n of sets above.1)));
        deep = omega (arith, ap deepest rows_is, done.deep, stood.deep, deeper_by, count);
        copies = ap by_table.copies_of (sym sets_is) ∙ mirrors n sets (copies_of before) entry.report of about stood.copies one names live ∙ ap all_known (sym (copies_of-push before entry));
        touched = subst (λ l. (t : Known) → In t l → IsTouched t) sets_is (numbers_reported n of sets one names above.1 stood.touched);
        above = λ m all. subst (IsAbove m) sets_is
            (above_reported n sets m of one names (each_last (λ e. e.number < m) before entry all) (stood.above m (each_left (λ e. e.number < m) before (entry ∷ []) all)));
      }

  -- a Register is the first entry of its family, and begins with its copy
  register_first : {sum : Option (List ℕ)} (place : Place) → entry.report ≡ Register place sum → before ≡ []
  register_first {sum} place is = cc (family_new journal entry, accepts.next, layer_new journal sound)

  pub register_sets : {sum : Option (List ℕ)} (place : Place) → entry.report ≡ Register place sum → knowns_of (before ++ entry ∷ []) ≡ by_table.registered entry.number
  register_sets {sum} place is = grind (arith, nat_tests, knowns_of-push, register_first, knowns_none)

  step_begins : {sum : Option (List ℕ)} (place : Place) → entry.report ≡ Register place sum → IsStood (before ++ entry ∷ [])
  step_begins {sum} place is =
      let n = entry.number in
      let none = register_first place is in
      let sets_is = sym (register_sets place is) in
      let rows_is : rows_of (before ++ entry ∷ []) ≡ seed_row n ∷ [] =
      rows_of-push before entry ∙ ap (rows_after n entry.report) (ap rows_of none ∙ rows_none) ∙ ap (λ r. rows_after n r []) is in
      let copies_is : copies_of (before ++ entry ∷ []) ≡ new_copy n n [] place (content_by n (Register place sum) []) ∷ [] =
      copies_of-push before entry ∙ ap (after_report n entry.report) (ap copies_of none ∙ copies_of_none) ∙ ap (λ r. after_report n r []) is in
      grind (arith, nat_tests, seed_kept, seed_sound, seed_stands, each_last)

  step : is_of_copies entry.report ≡ true → IsStood before → IsStood (before ++ entry ∷ [])
  step is stood = elim (made_of entry.report is) [ inl begins ↦ step_begins begins.0 begins.2 | inr changes ↦ step_changes changes.0 changes.1 is stood ]

-- so the rows of each layer of each accepted journal stand for its sets
pub layers_stand : (journal : List Entry) → IsAccepted 8 journal → (k family : ℕ) → IsStood (layer 8 k family journal)
layers_stand journal accepted k family = grind (arith, nat_tests, layers_hold IsStood (record { none = none_stood; step = step }) journal accepted k family)

small_from : (family : ℕ) (journal : List Entry) (k n : ℕ) → ((i : ℕ) → length (tables.table 8 i family journal) ≤ 256) → AllByRecursion (λ t. length t ≤ 256) (tables.tables_from 8 family journal k n)
small_from family journal k zero each = (each k, tt)
small_from family journal k (suc n) each = (each k, small_from family journal (k + 1) n each)

-- no family has more living copies than it takes, also with pending entries left out
pub accepted_small : (family : ℕ) (journal : List Entry) → IsAccepted 8 journal → AllByRecursion (λ t. length t ≤ 256) (tables.tables 8 family journal)
accepted_small family journal accepted =
    small_from family journal 0 (length (pending 8 family journal)) (λ k.
    let stood = layers_stand journal accepted k family in
    let few = stood.kept.few in
    omega (arith, counted k family journal (accepted_is_sound 8 journal accepted) stood))

-- a family's rows stand for its sets
pub rows_stand : (journal : List Entry) (family : ℕ) → IsAccepted 8 journal → StandsFor (stamp_rows family journal) (knowns_of (entries_of family (families journal) (effective journal)))
rows_stand journal family accepted = subst (λ l. StandsFor (rows_of l) (knowns_of l)) (layer_now 8 family journal) (layers_stand journal accepted 0 family).stands

-- a copy is too deep only where 256 of its family's entries are Duplicates
pub too_deep_duplicates : (journal : List Entry) (number : ℕ) → IsAccepted 8 journal → too_deep number journal (living journal) ≡ Some TooDeep → 256 ≤ duplicates_in (families journal number) journal
too_deep_duplicates journal number accepted is =
    elim (copy_in (living journal) number) as (λ o. copy_in (living journal) number ≡ o → option_and_then (λ copy. then_some (not (divides (stamp_rows copy.family journal) number)) TooDeep) o ≡ Some TooDeep
    → 256 ≤ duplicates_in (families journal number) journal) [
      | None ↦ λ e f. absurd (cc)
      | Some copy ↦ λ e f.
          let sound = accepted_is_sound 8 journal accepted in
          let own : copy.family ≡ families journal number = found_family journal number copy (living_fit 8 journal sound) e in
          let family = families journal number in
          let stood = layers_stand journal accepted 0 family in
          let shown : stamp_rows copy.family journal ≡ rows_of (layer 8 0 family journal) = ap (λ g. stamp_rows g journal) own ∙ ap rows_of (sym (layer_now 8 family journal)) in
          let never : divides (rows_of (layer 8 0 family journal)) number ≡ false = ap (λ r. divides r number) (sym shown) ∙ must (divides (stamp_rows copy.family journal) number) f in
          let there = own_copy journal family number sound refl ∙ e in
          let deep = undivided_deep (rows_of (layer 8 0 family journal)) number stood.kept.rising (lives_there (layer 8 0 family journal) number stood (copy, there)) never in
          let most = stood.deep in
          let counted : count_by (λ x. is_duplicate x.report) (layer 8 0 family journal) ≡ duplicates_in family journal = ap (count_by (λ x. is_duplicate x.report)) (layer_now 8 family journal) in
          omega arith
    ] refl is
  where
    must : (b : Bool) → then_some (not b) TooDeep ≡ Some TooDeep → b ≡ false
    must true e = absurd (cc)
    must false e = refl

-- the copies of a family's table of sets are its living copies
pub copies_sets : (journal : List Entry) (family : ℕ) → IsAccepted 8 journal → by_table.copies_of (sets_at 0 family journal) ≡ sets_of family (living journal)
copies_sets journal family accepted =
    (layers_stand journal accepted 0 family).copies ∙ ap all_known (sym (table_living 8 family journal ∙ table_own 8 0 family journal (accepted_is_sound 8 journal accepted)))

-- the next number is above all those of a family's table
pub above_sets : (journal : List Entry) (family : ℕ) → IsAccepted 8 journal → IsAbove (length journal + 1) (sets_at 0 family journal)
above_sets journal family accepted = (layers_stand journal accepted 0 family).above _ (layer_below journal 0 family _ (accepted_is_sound 8 journal accepted) refl)

pub below_sets : (journal : List Entry) (family : ℕ) → IsAccepted 8 journal → AreBelow (length journal + 1) (sets_at 0 family journal)
below_sets journal family accepted = (stood_below _ _ (layers_stand journal accepted 0 family) (layer_below journal 0 family _ (accepted_is_sound 8 journal accepted) refl)).1

-- how many copies live
pub count_rows : (journal : List Entry) (family : ℕ) → IsAccepted 8 journal → length (copy_rows (rows_of (layer 8 0 family journal))) ≡ length (filter (is_of family) (living journal))
count_rows journal family accepted = counted 0 family journal (accepted_is_sound 8 journal accepted) (layers_stand journal accepted 0 family) ∙ ap length (sym (table_living 8 family journal))

-- a living copy lives in the rows of its family
pub lives_rows : (journal : List Entry) (family c : ℕ) (copy : Copy) → IsAccepted 8 journal → copy_in (living journal) c ≡ Some copy → families journal c ≡ family → lives (rows_of (layer 8 0 family journal)) c ≡ true
lives_rows journal family c copy accepted found of =
    lives_there (layer 8 0 family journal) c (layers_stand journal accepted 0 family) (copy, own_copy journal family c (accepted_is_sound 8 journal accepted) of ∙ found)

-- a copy lives in the rows of these entries exactly where they make it
any_copies : (table : List Known) (c : ℕ) → is_in table c ≡ list_any (λ t. t.copy == c) (by_table.copies_of table)
any_copies [] c = refl
any_copies (t ∷ table) c = grind (arith, nat_tests, any_copies table c)

any_found : (copies : List Copy) (c : ℕ) → list_any (λ t. t.copy == c) (all_known copies) ≡ is_some (copy_in copies c)
any_found [] c = refl
any_found (x ∷ copies) c = grind (arith, nat_tests, any_found copies c)

-- a copy lives exactly where the rows of its family have it
pub rows_living : (journal : List Entry) (c : ℕ) → IsAccepted 8 journal → lives (rows_of (layer 8 0 (families journal c) journal)) c ≡ is_some (copy_in (living journal) c)
rows_living journal c accepted =
    let family = families journal c in
    let entries = layer 8 0 family journal in
    let stood = layers_stand journal accepted 0 family in
    same_living (rows_of entries) (knowns_of entries) c stood.stands.same
    ∙ any_copies (knowns_of entries) c
    ∙ ap (list_any (λ t. t.copy == c)) stood.copies
    ∙ any_found (copies_of entries) c
    ∙ ap is_some (own_copy journal family c (accepted_is_sound 8 journal accepted) refl)
