-- The tables of the families, as entries come.
use Rattle.pana_hall.proofs.Words.{◌≡◌, ◌≢◌, ℕ, ◌+◌, ◌-◌, ◌<◌, ◌≤◌, true, false, cond, not, ◌||◌, ◌==◌, List, [], ◌∷◌, ◌++◌, length, map, filter, fold, Some, None, AllByRecursion, refl}
use Rattle.pana_hall.proofs.Words.{sym, ap, ◌∙◌, subst, inr, arith, append-nil, append_assoc, eq-eqb, eqb-true, length-drop, same_from_push, map-append, filter_agree, filter-append, Report, Confirm}
use Rattle.pana_hall.proofs.Words.{Withdraw, Entry, has, families, subject, entries_of, is_register, effective, is_of_copies, left_out, copy_in, living, after_entry, Copy, pending, pend, last, behind}
use Rattle.pana_hall.proofs.Words.{is_last, is_of, entry_at, report_refusal, pending_with, taken_since, Accepts, IsAccepted, table, layer, family_of_next, AreRising, or-false, nat_tests, begun}
use Rattle.pana_hall.proofs.Words.{drop-drop, drop_all, is_family, AddsLayer, AreMerged, slice_get_past}
use Rattle.circular_buffer.proofs.Places.{slice_get-push}
use Rattle.pana_hall.specs.Living.{copies_of}
use Rattle.pana_hall.proofs.Lists.{each_filter, each_passes, each_weaker, filter_all, filter_swap, filter_filter, any_push, last_push, last_end, behind_is_end, is_last_push, each_last, rises_lower, rises_filter, rises_last, each_right, at-push, each_map, rises_map}
use Rattle.pana_hall.proofs.Moves.{IsWell, Fits, copies_of-family, copies_of-push, copy_in-family, report_fits, rises_after, found_fits}
use Rattle.pana_hall.proofs.Sound.{own, each_effective, own_confirm, own_withdraw, IsSound, keeps_families, living_fit, family_named, pend_copies, family_new, effective_well, in_accepted, pends, own_report, left_by, accepted_is_sound, sound_grows, withdraw_free}

-- The tables of the families, as entries come.

-- nothing is left out
pub last_none : (numbers : List ℕ) → last 0 numbers ≡ []
last_none numbers = drop_all (length numbers - 0) numbers (omega arith)

left_out_none : (entries : List Entry) → left_out [] entries ≡ entries
left_out_none [] = refl
left_out_none (e ∷ entries) = ap (λ l. e ∷ l) (left_out_none entries)

left_out_now : (numbers : List ℕ) (entries : List Entry) → left_out (last 0 numbers) entries ≡ entries
left_out_now numbers entries = ap (λ l. left_out l entries) (last_none numbers) ∙ left_out_none entries

-- one number more is left out
pub left_out_push : (numbers : List ℕ) (n : ℕ) (entries : List Entry) → left_out (numbers ++ n ∷ []) entries ≡ left_out numbers (filter (λ e. not (n == e.number)) entries)
left_out_push numbers n entries = grind (arith, nat_tests, filter_agree, any_push, filter_filter)

last_last : (k most : ℕ) (numbers : List ℕ) → k ≤ most → last k (last most numbers) ≡ last k numbers
last_last k most numbers within = grind (arith, nat_tests, drop-drop, length-drop)

-- the tables come from the family's effective entries
pub table_own : (most k family : ℕ) (journal : List Entry) → IsSound most journal → table most k family journal ≡ copies_of (left_out (last k (pending most family journal)) (own family journal))
table_own most k family journal sound = grind (arith, nat_tests, copies_of-family, each_filter, each_effective, filter_swap)

-- the numbers of a journal's entries are below the next one
pub own_below : (most family n : ℕ) (journal : List Entry) → IsSound most journal → n ≡ length journal + 1 → AllByRecursion (λ e. not (n == e.number) ≡ true) (own family journal)
own_below most family n journal sound next = grind (arith, nat_tests, each_filter, each_effective, each_weaker)

pub pending_report : (most : ℕ) (journal : List Entry) (entry : Entry) → IsSound most journal → Accepts most journal entry → is_of_copies entry.report ≡ true
    → pending most (family_of_next journal entry) (journal ++ entry ∷ []) ≡ last most (pending most (family_of_next journal entry) journal ++ entry.number ∷ [])
pending_report most journal entry sound accepts of_copies = grind (arith, nat_tests, pends, pend_copies)

pub layer_now : (most family : ℕ) (journal : List Entry) → layer most 0 family journal ≡ own family journal
layer_now most family journal = left_out_now (pending most family journal) (own family journal)

pub layer_report : (most : ℕ) (journal : List Entry) (entry : Entry) → IsSound most journal → Accepts most journal entry → is_of_copies entry.report ≡ true
    → layer most 0 (family_of_next journal entry) (journal ++ entry ∷ []) ≡ layer most 0 (family_of_next journal entry) journal ++ entry ∷ []
layer_report most journal entry sound accepts of_copies =
    let family = family_of_next journal entry in
    layer_now most family (journal ++ entry ∷ []) ∙ own_report most journal entry sound accepts of_copies ∙ ap (λ l. l ++ entry ∷ []) (sym (layer_now most family journal))

pub layer_undone : (most k : ℕ) (journal : List Entry) (entry : Entry) → IsSound most journal → Accepts most journal entry → is_of_copies entry.report ≡ true → k < most
    → layer most (k + 1) (family_of_next journal entry) (journal ++ entry ∷ []) ≡ layer most k (family_of_next journal entry) journal
layer_undone most k journal entry sound accepts of_copies within =
    let family = family_of_next journal entry in
    let numbers = pending most family journal in
    let more = own_report most journal entry sound accepts of_copies in
    ap (λ l. left_out (last (k + 1) l) (own family (journal ++ entry ∷ []))) (pending_report most journal entry sound accepts of_copies)
    ∙ ap (λ l. left_out l (own family (journal ++ entry ∷ []))) (grind (arith, nat_tests, last_last, last_push))
    ∙ left_out_push (last k numbers) entry.number (own family (journal ++ entry ∷ []))
    ∙ ap (left_out (last k numbers))
    (ap (filter (λ e. not (entry.number == e.number))) more
    ∙ filter-append _ (own family journal) (entry ∷ [])
    ∙ ap (λ l. l ++ cond (not (entry.number == entry.number)) (entry ∷ []) []) (filter_all _ (own family journal) (own_below most family entry.number journal sound accepts.next))
    ∙ ap (λ b. own family journal ++ cond (not b) (entry ∷ []) []) (eq-eqb entry.number entry.number refl)
    ∙ append-nil (own family journal))

pub layer_confirm : (most m k : ℕ) (journal : List Entry) (entry : Entry) → IsSound most journal → Accepts most journal entry → entry.report ≡ Confirm m
    → k ≤ length (pending most (family_of_next journal entry) (journal ++ entry ∷ []))
    → layer most k (family_of_next journal entry) (journal ++ entry ∷ []) ≡ layer most k (family_of_next journal entry) journal
layer_confirm most m k journal entry sound accepts is within =
    let family = family_of_next journal entry in
    let keeps = keeps_families most journal entry sound accepts.next in
    let numbers = pending most family journal in
    let pending' : pending most family (journal ++ entry ∷ []) ≡ behind m numbers = pends most journal entry (Confirm m) sound accepts is in
    let cut = behind_is_end m numbers in
    grind (arith, nat_tests, own_confirm family journal entry m keeps is, last_end)

pub pending_other : (most family : ℕ) (journal : List Entry) (entry : Entry) → IsSound most journal → Accepts most journal entry → family_of_next journal entry ≢ family
    → pending most family (journal ++ entry ∷ []) ≡ pending most family journal
pending_other most family journal entry sound accepts other = (left_by most family journal entry (keeps_families most journal entry sound accepts.next) other).1

pub layer_other : (most k family : ℕ) (journal : List Entry) (entry : Entry) → IsSound most journal → Accepts most journal entry → family_of_next journal entry ≢ family
    → layer most k family (journal ++ entry ∷ []) ≡ layer most k family journal
layer_other most k family journal entry sound accepts other =
    let left = left_by most family journal entry (keeps_families most journal entry sound accepts.next) other in
    grind (arith, nat_tests)

-- what is one for the entries is one for the tables
pub tables_by : (i k family : ℕ) (journal : List Entry) (entry : Entry) → IsAccepted 8 journal → Accepts 8 journal entry
    → layer 8 i family (journal ++ entry ∷ []) ≡ layer 8 k family journal → table 8 i family (journal ++ entry ∷ []) ≡ table 8 k family journal
tables_by i k family journal entry accepted accepts same =
    let sound = accepted_is_sound 8 journal accepted in
    table_own 8 i family (journal ++ entry ∷ []) (sound_grows 8 journal entry sound accepts) ∙ ap copies_of same ∙ sym (table_own 8 k family journal sound)

-- the tables, of the entries
pub adds_layer : (most : ℕ) (journal : List Entry) (entry : Entry) → IsSound most journal → IsSound most (journal ++ entry ∷ []) → Accepts most journal entry
    → is_of_copies entry.report ≡ true → AddsLayer most (family_of_next journal entry) journal entry
adds_layer most journal entry sound sound' accepts of_copies =
    let family = family_of_next journal entry in
    record {
      now = table_own most 0 family (journal ++ entry ∷ []) sound' ∙ ap copies_of (layer_report most journal entry sound accepts of_copies)
          ∙ copies_of-push (layer most 0 family journal) entry ∙ ap (λ l. after_entry l entry) (sym (table_own most 0 family journal sound));
      undone = λ k within. table_own most (k + 1) family (journal ++ entry ∷ []) sound'
          ∙ ap copies_of (layer_undone most k journal entry sound accepts of_copies within) ∙ sym (table_own most k family journal sound);
    }

pub rises_effective : (low : ℕ) (journal : List Entry) → AreRising (λ e. e.number) low journal → AreRising (λ e. e.number) low (effective journal)
rises_effective low [] rises = tt
rises_effective low (x ∷ journal) rises = grind (arith, nat_tests, rises_effective x.number journal rises.1, rises_lower)

pub rises_end : (low : ℕ) (prefix numbers : List ℕ) → AreRising (λ n. n) low (prefix ++ numbers) → AreRising (λ n. n) low numbers
rises_end low [] numbers rises = rises
rises_end low (n ∷ prefix) numbers rises = grind (arith, nat_tests, rises_end n prefix numbers rises.1, rises_lower)

own_rises : (family : ℕ) (journal : List Entry) → AreRising (λ e. e.number) 0 journal → AreRising (λ e. e.number) 0 (own family journal)
own_rises family journal rises = rises_filter (λ e. e.number) 0 _ (effective journal) (rises_effective 0 journal rises)

-- the pending numbers of a family rise
pub pending_rises : (most family : ℕ) (journal : List Entry) → IsSound most journal → AreRising (λ n. n) 0 (pending most family journal)
pending_rises most family journal sound =
    let ends = sound.ends family in
    rises_end 0 ends.0 (pending most family journal) (subst (AreRising (λ n. n) 0) ends.1 (rises_map (λ e. e.number) (λ e. e.number) (λ n. n) (λ e. refl) 0 (own family journal) (own_rises family journal sound.rising)))

-- a family whose last pending entry is m: it is the last of the family's effective entries, and all others are below it
pub record EndsIn (most m : ℕ) (journal : List Entry) : Type 0 where
  pub numbers : List ℕ
  pub pending : pending most (families journal m) journal ≡ numbers ++ m ∷ []
  pub entries : List Entry
  pub last : Entry
  pub own : own (families journal m) journal ≡ entries ++ last ∷ []
  pub number : last.number ≡ m
  pub at : entry_at journal m ≡ Some last
  pub well : IsWell (families journal) (length journal) last
  pub below : AllByRecursion (λ e. e.number < m) entries

split_map : (n : ℕ) (entries : List Entry) (prefix : List ℕ) → map (λ e. e.number) entries ≡ prefix ++ n ∷ [] → (before : List Entry) × (last : Entry) × (entries ≡ before ++ last ∷ []) × (last.number ≡ n)
split_map n [] [] e = absurd (cc)
split_map n [] (k ∷ prefix) e = absurd (cc)
split_map n (x ∷ []) prefix e = ([], x, refl, (same_from_push [] prefix x.number n e).1)
split_map n (x ∷ y ∷ entries) [] e = absurd (cc)
split_map n (x ∷ y ∷ entries) (k ∷ prefix) e =
    let rest_is : map (λ e. e.number) (y ∷ entries) ≡ prefix ++ n ∷ [] = cc in
    let rest = split_map n (y ∷ entries) prefix rest_is in (x ∷ rest.0, rest.1, ap (λ l. x ∷ l) rest.2, rest.3)

pub ends_at : (most m : ℕ) (journal : List Entry) → IsSound most journal → is_last m (pending_with most m journal) ≡ true → EndsIn most m journal
ends_at most m journal sound at_end =
    let family = families journal m in
    let cut = is_last_push m (pending most family journal) at_end in
    let ends = sound.ends family in
    let split = split_map m (own family journal) (ends.0 ++ cut.0) (ends.1 ∙ ap (λ l. ends.0 ++ l) cut.1 ∙ sym (append_assoc ends.0 cut.0 (m ∷ []))) in
    let of_last : (P : Entry → Type 0) → AllByRecursion P journal → P split.1 = λ P all. each_last P split.0 split.1 (grind (arith, nat_tests, each_filter, each_effective)) in
    record {
      numbers = cut.0;
      pending = cut.1;
      entries = split.0;
      last = split.1;
      own = split.2;
      number = split.3;
      at = grind (arith, nat_tests);
      well = of_last (IsWell (families journal) (length journal)) sound.well;
      below = subst (λ n. AllByRecursion (λ e. e.number < n) split.0) split.3
          (rises_last (λ e. e.number) 0 split.0 split.1 (subst (AreRising (λ e. e.number) 0) split.2 (own_rises family journal sound.rising)));
    }

-- what a Withdraw of m says where it isn't refused
pub record Open (most m : ℕ) (journal : List Entry) : Type 0 where
  pub ends : EndsIn most m journal
  pub free : taken_since m journal ≡ None

pub open_withdraw : (most m : ℕ) (journal : List Entry) (by : List ℕ) (report : Report) → IsSound most journal → report ≡ Withdraw m → report_refusal most journal (living journal) by report ≡ None → Open most m journal
open_withdraw most m journal by report sound is free = grind (arith, nat_tests, withdraw_free, ends_at)

-- such a last one is taken out, and the others stay
pub all_but_last : {X : Type 0} (key : X → ℕ) (m : ℕ) (xs : List X) (x : X) → AllByRecursion (λ y. key y < m) xs → key x ≡ m → filter (λ y. not (m == key y)) (xs ++ x ∷ []) ≡ xs
all_but_last key m xs x below is = grind (arith, nat_tests, filter-append, filter_all, each_weaker, eq-eqb, append-nil)

-- what is pending before a Withdraw: what is after it, and the entry
pub pending_withdraw : (most m : ℕ) (journal : List Entry) (entry : Entry) → IsSound most journal → Accepts most journal entry → entry.report ≡ Withdraw m
    → pending most (family_of_next journal entry) journal ≡ pending most (family_of_next journal entry) (journal ++ entry ∷ []) ++ m ∷ []
pending_withdraw most m journal entry sound accepts is =
    let family = family_of_next journal entry in
    let ends = (open_withdraw most m journal entry.by entry.report sound is accepts.free).ends in
    let whole : pending most family journal ≡ ends.numbers ++ m ∷ [] = ap (λ f. pending most f journal) (family_named most journal entry m (inr is)) ∙ ends.pending in
    let below = rises_last (λ n. n) 0 ends.numbers m (subst (AreRising (λ n. n) 0) whole (pending_rises most family journal sound)) in
    cc (pends most journal entry (Withdraw m) sound accepts is, all_but_last (λ n. n) m ends.numbers m below refl)

pub layer_withdraw : (most m k : ℕ) (journal : List Entry) (entry : Entry) → IsSound most journal → Accepts most journal entry → entry.report ≡ Withdraw m
    → layer most k (family_of_next journal entry) (journal ++ entry ∷ []) ≡ layer most (k + 1) (family_of_next journal entry) journal
layer_withdraw most m k journal entry sound accepts is =
    let family = family_of_next journal entry in
    let rest = pending most family (journal ++ entry ∷ []) in
    ap (left_out (last k rest)) (own_withdraw family journal entry m (keeps_families most journal entry sound accepts.next) is)
    ∙ sym (left_out_push (last k rest) m (own family journal))
    ∙ ap (λ l. left_out l (own family journal)) (grind (arith, nat_tests, last_push, pending_withdraw))

-- rising numbers
rises_fold : (low last : ℕ) (of : ℕ → ℕ) (copies : List Copy) (entries : List Entry) → AreRising (λ e. e.number) low entries → AllByRecursion (IsWell of last) entries
    → AllByRecursion (Fits of low) copies → AreRising (λ c. c.known.copy) 0 copies → AreRising (λ c. c.known.copy) 0 (fold after_entry copies entries)
rises_fold low last of copies [] rising well fits rises = rises
rises_fold low last of copies (entry ∷ entries) rising well fits rises = grind (arith, nat_tests, rises_fold entry.number last of (after_entry copies entry) entries rising.1 well.1, report_fits, each_weaker, rises_after)

copies_rise : (last : ℕ) (of : ℕ → ℕ) (entries : List Entry) → AreRising (λ e. e.number) 0 entries → AllByRecursion (IsWell of last) entries → AreRising (λ c. c.known.copy) 0 (copies_of entries)
unfolding copies_of
copies_rise last of entries rising well = rises_fold 0 last of [] entries rising well tt tt

pub living_rises : (most : ℕ) (journal : List Entry) → IsSound most journal → AreRising (λ c. c.known.copy) 0 (living journal)
living_rises most journal sound = grind (arith, nat_tests, copies_rise, rises_effective, each_effective)

-- the table of a family is that of its living copies
pub table_living : (most family : ℕ) (journal : List Entry) → filter (is_of family) (living journal) ≡ table most 0 family journal
table_living most family journal = grind (arith, nat_tests, left_out_now)

pub merged : (most : ℕ) (journal : List Entry) → IsSound most journal → AreMerged most journal
merged most journal sound =
    let fits = living_fit most journal sound in
    record {
      tables = λ family. table_living most family journal;
      found = λ number. sym (ap (λ l. copy_in l number) (sym (table_living most (families journal number) journal))
          ∙ copy_in-family (families journal) (length journal) (families journal number) number (living journal) fits refl);
      rising = living_rises most journal sound;
      families = grind (arith, nat_tests, each_weaker);
    }

-- the copies of a family's entries are its living ones
pub own_copy : (journal : List Entry) (family c : ℕ) → IsSound 8 journal → families journal c ≡ family → copy_in (copies_of (layer 8 0 family journal)) c ≡ copy_in (living journal) c
own_copy journal family c sound of = cc (table_own 8 0 family journal sound, (merged 8 journal sound).found c)

-- What the hall's bodies need beside the tables: pending lists, families of entries, and what a Withdraw brings back.

-- a report about a copy that lives is of the copy's family
pub family_of_copy : (most : ℕ) (journal : List Entry) (entry : Entry) (number : ℕ) (copy : Copy) → IsSound most journal → subject entry.report ≡ Some number → copy_in (living journal) number ≡ Some copy
    → family_of_next journal entry ≡ copy.family
family_of_copy most journal entry number copy sound about found =
    let here = found_fits (families journal) (length journal) number (living journal) copy (living_fit most journal sound) found in
    grind (arith, nat_tests, family_new)

own_family : (family : ℕ) (of : ℕ → ℕ) (entries : List Entry) → AllByRecursion (λ n. of n ≡ family) (map (λ e. e.number) (entries_of family of entries))
own_family family of entries = grind (arith, nat_tests, each_map, each_weaker, each_passes)

pub each_has : (P : ℕ → Type 0) (numbers : List ℕ) (n : ℕ) → AllByRecursion P numbers → has numbers n ≡ true → P n
each_has P [] n each is = absurd (cc)
each_has P (k ∷ numbers) n each is =
    elim (k == n) as (λ b. (k == n) ≡ b → (b || has numbers n) ≡ true → P n) [
      | true ↦ λ e h. subst P (eqb-true k n e) each.0
      | false ↦ λ e h. each_has P numbers n each.1 h
    ] refl is

-- what holds of the numbers of entries holds of those that are pending
pub pending_each : (P : ℕ → Type 0) (most family : ℕ) (journal : List Entry) → IsSound most journal → AllByRecursion (λ e. P e.number) journal → AllByRecursion P (pending most family journal)
pending_each P most family journal sound each =
    let ends = sound.ends family in
    each_right P ends.0 (pending most family journal) (grind (arith, nat_tests, each_map, own, each_filter, each_effective))

-- what is pending in a family is of the family
pub family_of_pending : (most family number : ℕ) (journal : List Entry) → IsSound most journal → has (pending most family journal) number ≡ true → families journal number ≡ family
family_of_pending most family number journal sound is =
    let ends = sound.ends family in
    each_has (λ n. families journal n ≡ family) (pending most family journal) number
    (each_right (λ n. families journal n ≡ family) ends.0 (pending most family journal) (subst (AllByRecursion (λ n. families journal n ≡ family)) ends.1 (own_family family (families journal) (effective journal)))) is

pub copies_of_none : copies_of [] ≡ []
unfolding copies_of
copies_of_none = refl

-- no entry so far is of the family that the next number would begin
pub none_of : (family last : ℕ) (of : ℕ → ℕ) (entries : List Entry) → AllByRecursion (IsWell of last) entries → last < family → entries_of family of entries ≡ []
none_of family last of [] well above = refl
none_of family last of (e ∷ entries) well above = grind (arith, nat_tests, none_of family last of entries well.1 above)

pub next_family : (most k : ℕ) (journal : List Entry) → IsSound most journal → (table most k (length journal + 1) journal ≡ []) × (pending most (length journal + 1) journal ≡ [])
next_family most k journal sound =
    let family = length journal + 1 in
    let of = families journal in
    let no_own : own family journal ≡ [] = none_of family (length journal) of (effective journal) (effective_well most journal sound) (omega arith) in (
      table_own most k family journal sound ∙ ap (λ l. copies_of (left_out (last k (pending most family journal)) l)) no_own ∙ copies_of_none,
      ap (λ l. fold (λ numbers e. pend most e.number e.report numbers) [] l) (none_of family (length journal) of journal sound.well (omega arith)),
    )

-- it has no entry
pub layer_new : (journal : List Entry) → IsSound 8 journal → layer 8 0 (length journal + 1) journal ≡ []
layer_new journal sound =
    let family = length journal + 1 in
    ap (left_out (last 0 (pending 8 family journal))) (none_of family (length journal) (families journal) (effective journal) (effective_well 8 journal sound) (omega arith))

-- The families that a journal has begun.

pub entry_at-other : (journal : List Entry) (entry : Entry) (n : ℕ) → n ≢ length journal + 1 → entry_at (journal ++ entry ∷ []) n ≡ entry_at journal n
entry_at-other journal entry n other = grind (arith, nat_tests, slice_get-push)

-- the families that one entry more has begun
pub begun-next : (journal : List Entry) (entry : Entry) → begun (journal ++ entry ∷ []) ≡ begun journal ++ cond (is_register entry.report) (entry.number ∷ []) []
begun-next journal entry = grind (arith, nat_tests, filter-append, map-append)

begun-push : (journal : List Entry) (entry : Entry) (n : ℕ) → has (begun (journal ++ entry ∷ [])) n ≡ (has (begun journal) n || cond (is_register entry.report) (entry.number == n) false)
begun-push journal entry n = grind (arith, nat_tests, begun-next, any_push, append-nil, or-false)

abbrev pub AreKnown : List Entry → Type 0
AreKnown journal = (n : ℕ) → is_family journal n ≡ has (begun journal) n

known_grows : (most : ℕ) (journal : List Entry) (entry : Entry) → Accepts most journal entry → AreKnown journal → AreKnown (journal ++ entry ∷ [])
known_grows most journal entry accepts known n = grind (arith, nat_tests, slice_get_past, at-push, entry_at-other, or-false, begun-push)

-- the known families are those that were begun
pub accepted_known : (most : ℕ) (journal : List Entry) → IsAccepted most journal → AreKnown journal
accepted_known most journal accepted =
    in_accepted most AreKnown (λ n. grind (arith, nat_tests)) (λ j entry sound accepts known. known_grows most j entry accepts known) journal accepted
