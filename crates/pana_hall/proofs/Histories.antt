-- What is pending in a family, and what takes it back.
use Rattle.pana_hall.proofs.Words.{◌≡◌, ◌≢◌, ℕ, suc, ◌+◌, ◌-◌, ◌<◌, ◌≤◌, true, false, cond, ◌||◌, ◌==◌, List, [], ◌∷◌, ◌++◌, length, take, drop, reverse, None, Some, Bool, Option}
use Rattle.pana_hall.proofs.Words.{slice_get, AllByRecursion, list_any, refl, sym, ap, ◌∙◌, subst, inl, arith, append_assoc, eqb-true, ne_eqb, not-false, length-drop, reverse-append, take-append-drop}
use Rattle.pana_hall.proofs.Words.{take_all, nat_tests, Confirm, Withdraw, Register, Entry, has, is_of_copies, living, copies_of, pending, last, behind, report_refusal, Accepts, layer, family_of_next}
use Rattle.pana_hall.proofs.Words.{AreRising, of_each, of_pending, family_of, next_entry, before_of, undone_of, Place, entry_at, rows_after, rows_of, KeptRows, confirmed, kept_rows, new_kept}
use Rattle.pana_hall.proofs.Words.{undone, withdrawn, history, Buffer, buffer, StampRow, IsKept, lives, seed_row, Undo, position, position_or_len, length-reverse}
use Rattle.pana_hall.proofs.Words.{take_at, Undone, earlier_of, later_than, CanGoBack}
use Rattle.pana_hall.proofs.Lists.{each_append, each_weaker, at-push, rises_each}
use Rattle.pana_hall.proofs.Sound.{none_against, none_false, IsSound, family_named, family_new, pends}
use Rattle.pana_hall.proofs.Tables.{copies_of_none, layer_undone, layer_confirm, layer_withdraw, layer_other, none_of, entry_at-other, layer_report, layer_new, pending_report, pending_withdraw, pending_other, pending_each, pending_rises, rises_end}
use Rattle.pana_hall.proofs.Stood.{rows_none, rows_of-push}
use Rattle.pana_family.specs.Change.{after as after_change, Fits, IsRoomier, Room}

-- What is made of a family's pending entries, as entries come.

-- the last ones of a list, the other way round
reverse-last : (k : ℕ) (numbers : List ℕ) → reverse (last k numbers) ≡ take k (reverse numbers)
reverse-last k numbers =
    let cut = length numbers - k in
    let whole : reverse numbers ≡ reverse (drop cut numbers) ++ reverse (take cut numbers) = ap reverse (sym (take-append-drop cut numbers)) ∙ reverse-append (take cut numbers) (drop cut numbers) in
    grind (arith, nat_tests, take_all, length-reverse, length-drop, take_at)

-- what is made of pending entries with layers that agree
each_same : {X : Type 0} (make : ℕ → List Entry → X) (layers others : ℕ → List Entry) (numbers : List ℕ) → ((k : ℕ) → k < length numbers → layers k ≡ others k) → of_each make layers numbers ≡ of_each make others numbers
each_same make layers others [] same = refl
each_same make layers others (n ∷ numbers) same =
    ap (λ l. make n l ∷ of_each make (λ k. layers (k + 1)) numbers) (same 0 (omega arith))
    ∙ ap (λ l. make n (others 0) ∷ l) (each_same make (λ k. layers (k + 1)) (λ k. others (k + 1)) numbers (λ k within. same (k + 1) (omega arith)))

-- and by two ways that agree on the entries
each_alike : {X : Type 0} (make other : ℕ → List Entry → X) (layers : ℕ → List Entry) (numbers : List ℕ) → AllByRecursion (λ n. (l : List Entry) → make n l ≡ other n l) numbers → of_each make layers numbers ≡ of_each other layers numbers
each_alike make other layers [] alike = refl
each_alike make other layers (n ∷ numbers) alike =
    ap (λ x. x ∷ of_each make (λ k. layers (k + 1)) numbers) (alike.0 (layers 0)) ∙ ap (λ l. other n (layers 0) ∷ l) (each_alike make other (λ k. layers (k + 1)) numbers alike.1)

reverse-push : (numbers : List ℕ) (n : ℕ) → reverse (numbers ++ n ∷ []) ≡ n ∷ reverse numbers
reverse-push numbers n = reverse-append numbers (n ∷ [])

-- what is made of a family's pending entries, after a report of copies
pub pending_made : {X : Type 0} (make : ℕ → List Entry → X) (journal : List Entry) (entry : Entry) → IsSound 8 journal → Accepts 8 journal entry → is_of_copies entry.report ≡ true
    → of_pending make (family_of_next journal entry) (journal ++ entry ∷ [])
    ≡ take 8 (make entry.number (layer 8 0 (family_of_next journal entry) journal) ∷ of_pending make (family_of_next journal entry) journal)
pending_made make journal entry sound accepts is =
    let family = family_of_next journal entry in
    let numbers = pending 8 family journal in
    let turned : reverse (pending 8 family (journal ++ entry ∷ [])) ≡ entry.number ∷ take 7 (reverse numbers) = grind (arith, nat_tests, pending_report, reverse-last, reverse-push) in
    let undone_by : (k : ℕ) → k < 8 → layer 8 (k + 1) family (journal ++ entry ∷ []) ≡ layer 8 k family journal = λ k within. layer_undone 8 k journal entry sound accepts is within in
    grind (arith, nat_tests)

-- after a Withdraw: the first is no longer there
pub pending_undone : {X : Type 0} (make : ℕ → List Entry → X) (m : ℕ) (journal : List Entry) (entry : Entry) → IsSound 8 journal → Accepts 8 journal entry → entry.report ≡ Withdraw m
    → of_pending make (family_of_next journal entry) journal
    ≡ make m (layer 8 1 (family_of_next journal entry) journal) ∷ of_pending make (family_of_next journal entry) (journal ++ entry ∷ [])
pending_undone make m journal entry sound accepts is =
    let family = family_of_next journal entry in
    let drops : (k : ℕ) → layer 8 k family (journal ++ entry ∷ []) ≡ layer 8 (k + 1) family journal = λ k. layer_withdraw 8 m k journal entry sound accepts is in
    let rest = pending 8 family (journal ++ entry ∷ []) in
    let turned : reverse (pending 8 family journal) ≡ m ∷ reverse rest = grind (arith, nat_tests, pending_withdraw, reverse-push) in
    grind (arith, nat_tests)

-- after an entry of another family
pub pending_left : {X : Type 0} (make : ℕ → List Entry → X) (family : ℕ) (journal : List Entry) (entry : Entry) → IsSound 8 journal → Accepts 8 journal entry → family_of_next journal entry ≢ family
    → of_pending make family (journal ++ entry ∷ []) ≡ of_pending make family journal
pending_left make family journal entry sound accepts other =
    ap (λ l. of_each make (λ k. layer 8 (k + 1) family (journal ++ entry ∷ [])) (reverse l)) (pending_other 8 family journal entry sound accepts other)
    ∙ each_same make (λ k. layer 8 (k + 1) family (journal ++ entry ∷ [])) (λ k. layer 8 (k + 1) family journal) (reverse (pending 8 family journal)) (λ k within. layer_other 8 (k + 1) family journal entry sound accepts other)

-- a pending number parts the list into those before it and those behind it
parted : (m : ℕ) (numbers : List ℕ) → has numbers m ≡ true → (prefix : List ℕ) × (numbers ≡ prefix ++ m ∷ behind m numbers)
parted m [] is = absurd (cc)
parted m (n ∷ numbers) is =
    elim (n == m) as (λ b. (n == m) ≡ b → (b || has numbers m) ≡ true → (prefix : List ℕ) × (n ∷ numbers ≡ prefix ++ m ∷ cond b numbers (behind m numbers))) [
      | true ↦ λ e h. ([], ap (λ k. k ∷ numbers) (eqb-true n m e))
      | false ↦ λ e h. let rest = parted m numbers h in (n ∷ rest.0, ap (λ l. n ∷ l) rest.1)
    ] refl is

pub each_reverse : (P : ℕ → Type 0) (numbers : List ℕ) → AllByRecursion P numbers → AllByRecursion P (reverse numbers)
each_reverse P [] each = tt
each_reverse P (n ∷ numbers) each = subst (AllByRecursion P) (sym (reverse-append (n ∷ []) numbers)) (each_append P (reverse numbers) (n ∷ []) (each_reverse P numbers each.1) (each.0, tt))

later_behind : (journal : List Entry) (layers : ℕ → List Entry) (m : ℕ) (numbers more : List ℕ) → AllByRecursion (λ n. m < n) numbers
    → later_than m (of_each (undone_of journal) layers (numbers ++ m ∷ more)) ≡ of_each (undone_of journal) layers numbers
later_behind journal layers m [] more above = grind (arith, nat_tests)
later_behind journal layers m (n ∷ numbers) more above =
    let first = above.0 in
    ap (λ b. cond b [] (undone_of journal n (layers 0) ∷ later_than m (of_each (undone_of journal) (λ k. layers (k + 1)) (numbers ++ m ∷ more)))) (ne_eqb n m (λ h. omega arith))
    ∙ ap (λ l. undone_of journal n (layers 0) ∷ l) (later_behind journal (λ k. layers (k + 1)) m numbers more above.1)

-- after a Confirm: what is later than the confirmed entry
pending_confirmed : (before : List Entry) (m : ℕ) (journal : List Entry) (entry : Entry) → IsSound 8 journal → Accepts 8 journal entry → entry.report ≡ Confirm m
    → of_pending (undone_of before) (family_of_next journal entry) (journal ++ entry ∷ []) ≡ later_than m (of_pending (undone_of before) (family_of_next journal entry) journal)
pending_confirmed before m journal entry sound accepts is =
    let family = family_of_next journal entry in
    let numbers = pending 8 family journal in
    let rest = behind m numbers in
    let rest_is : pending 8 family (journal ++ entry ∷ []) ≡ rest = pends 8 journal entry (Confirm m) sound accepts is in
    let alone : report_refusal 8 journal (living journal) entry.by (Confirm m) ≡ None = grind (arith, nat_tests) in
    let none = (none_against 8 journal (living journal) entry.by (Confirm m) alone).1.1.1.0 in
    let in_it : has numbers m ≡ true = ap (λ f. has (pending 8 f journal) m) (family_named 8 journal entry m (inl is)) ∙ not-false _ (none_false _ _ none) in
    let cut = parted m numbers in_it in
    let above : AreRising (λ n. n) m rest = (rises_end 0 cut.0 (m ∷ rest) (subst (AreRising (λ n. n) 0) cut.1 (pending_rises 8 family journal sound))).1 in
    let turned : reverse numbers ≡ reverse rest ++ m ∷ reverse cut.0 =
    ap reverse (cut.1 ∙ sym (append_assoc cut.0 (m ∷ []) rest)) ∙ reverse-append (cut.0 ++ m ∷ []) rest ∙ ap (λ l. reverse rest ++ l) (reverse-push cut.0 m) in
    let long : length (pending 8 family (journal ++ entry ∷ [])) ≡ length rest = ap length rest_is in
    let back : length (reverse rest) ≡ length rest = length-reverse rest in
    let layers : ℕ → List Entry = λ k. layer 8 (k + 1) family journal in
    ap (λ l. of_each (undone_of before) (λ k. layer 8 (k + 1) family (journal ++ entry ∷ [])) (reverse l)) rest_is
    ∙ each_same (undone_of before) (λ k. layer 8 (k + 1) family (journal ++ entry ∷ [])) layers (reverse rest) (λ k within. layer_confirm 8 m (k + 1) journal entry sound accepts is (omega arith))
    ∙ sym (grind (arith, nat_tests, later_behind, each_reverse, rises_each))
    ∙ ap (λ l. later_than m (of_each (undone_of before) layers l)) (sym turned)

-- nothing is pending in the family that the next entry may begin
pub pending_begun : {X : Type 0} (make : ℕ → List Entry → X) (journal : List Entry) → IsSound 8 journal → of_pending make (length journal + 1) journal ≡ []
pending_begun make journal sound = grind (arith, nat_tests, none_of)

-- A family of a journal, as entries come.

-- what is pending are numbers of entries
pub pending_within : (journal : List Entry) (family : ℕ) → IsSound 8 journal → AllByRecursion (λ n. n ≤ length journal) (pending 8 family journal)
pending_within journal family sound =
    pending_each (λ n. n ≤ length journal) 8 family journal sound (grind (arith, nat_tests, each_weaker))

-- so what is given back stays as entries come
undone_stays : (journal : List Entry) (entry : Entry) (family : ℕ) → IsSound 8 journal → of_pending (undone_of (journal ++ entry ∷ [])) family journal ≡ of_pending (undone_of journal) family journal
undone_stays journal entry family sound =
    each_alike (undone_of (journal ++ entry ∷ [])) (undone_of journal) (λ k. layer 8 (k + 1) family journal) (reverse (pending 8 family journal))
    (each_weaker (λ n. n ≤ length journal) _ _ (λ n within l. grind (arith, nat_tests, entry_at-other))
    (each_reverse (λ n. n ≤ length journal) (pending 8 family journal) (pending_within journal family sound)))

-- a report of copies
pub family_report : (journal : List Entry) (entry : Entry) → IsSound 8 journal → Accepts 8 journal entry → is_of_copies entry.report ≡ true
    → family_of (journal ++ entry ∷ []) (family_of_next journal entry)
    ≡ kept_rows (family_of_next journal entry) (rows_after entry.number entry.report (rows_of (layer 8 0 (family_of_next journal entry) journal)))
    (take 8 (undone entry.number (rows_of (layer 8 0 (family_of_next journal entry) journal)) (before_of (Some entry) (copies_of (layer 8 0 (family_of_next journal entry) journal)))
    ∷ of_pending (undone_of journal) (family_of_next journal entry) journal))
family_report journal entry sound accepts is =
    let family = family_of_next journal entry in
    let journal' = journal ++ entry ∷ [] in
    let old = layer 8 0 family journal in
    let now : rows_of (layer 8 0 family journal') ≡ rows_after entry.number entry.report (rows_of old) = grind (arith, nat_tests, layer_report, rows_of-push) in
    let before : of_pending (undone_of journal') family journal' ≡ take 8 (undone entry.number (rows_of old) (before_of (Some entry) (copies_of old)) ∷ of_pending (undone_of journal) family journal) =
    pending_made (undone_of journal') journal entry sound accepts is
    ∙ ap (λ e. take 8 (undone entry.number (rows_of old) (before_of e (copies_of old)) ∷ of_pending (undone_of journal') family journal)) (ap (entry_at journal') accepts.next ∙ at-push journal entry)
    ∙ ap (λ l. take 8 (undone entry.number (rows_of old) (before_of (Some entry) (copies_of old)) ∷ l)) (undone_stays journal entry family sound) in
    grind (arith, nat_tests)

-- a Register begins a family
pub family_begun : (journal : List Entry) (by : List ℕ) (place : Place) (sum : Option (List ℕ)) → IsSound 8 journal → Accepts 8 journal (next_entry journal by (Register place sum))
    → family_of (journal ++ next_entry journal by (Register place sum) ∷ []) (length journal + 1) ≡ new_kept (length journal + 1)
family_begun journal by place sum sound accepts =
    let entry = next_entry journal by (Register place sum) in
    let n = length journal + 1 in
    let first : List Entry → List Undone → KeptRows = λ old before. kept_rows n (rows_after n (Register place sum) (rows_of old)) (take 8 (undone n (rows_of old) (before_of (Some entry) (copies_of old)) ∷ before)) in
    let own_is : family_of_next journal entry ≡ n = family_new journal entry in
    subst (λ f. family_of (journal ++ entry ∷ []) f ≡ kept_rows f (rows_after n (Register place sum) (rows_of (layer 8 0 f journal))) (take 8 (undone n (rows_of (layer 8 0 f journal)) (before_of (Some entry) (copies_of (layer 8 0 f journal))) ∷ of_pending (undone_of journal) f journal))) own_is
    (family_report journal entry sound accepts refl)
    ∙ ap (λ l. first l (of_pending (undone_of journal) n journal)) (layer_new journal sound)
    ∙ ap (first []) (pending_begun (undone_of journal) journal sound)
    ∙ ap (λ r. kept_rows n (rows_after n (Register place sum) r) (undone n r (before_of (Some entry) (copies_of [])) ∷ [])) rows_none
    ∙ ap (λ c. kept_rows n (rows_after n (Register place sum) []) (undone n [] (before_of (Some entry) c) ∷ [])) copies_of_none

-- a Withdraw
pub family_withdraw : (m : ℕ) (journal : List Entry) (entry : Entry) → IsSound 8 journal → Accepts 8 journal entry → entry.report ≡ Withdraw m
    → family_of (journal ++ entry ∷ []) (family_of_next journal entry) ≡ withdrawn (family_of journal (family_of_next journal entry))
family_withdraw m journal entry sound accepts is =
    let family = family_of_next journal entry in
    let journal' = journal ++ entry ∷ [] in
    let back : of_pending (undone_of journal) family journal ≡ undone_of journal' m (layer 8 1 family journal) ∷ of_pending (undone_of journal') family journal' =
    sym (undone_stays journal entry family sound) ∙ pending_undone (undone_of journal') m journal entry sound accepts is in
    cc (layer_withdraw 8 m 0 journal entry sound accepts is)

-- a Confirm
pub family_confirm : (m : ℕ) (journal : List Entry) (entry : Entry) → IsSound 8 journal → Accepts 8 journal entry → entry.report ≡ Confirm m
    → family_of (journal ++ entry ∷ []) (family_of_next journal entry) ≡ confirmed m (family_of journal (family_of_next journal entry))
family_confirm m journal entry sound accepts is =
    let family = family_of_next journal entry in
    let journal' = journal ++ entry ∷ [] in
    let rest : of_pending (undone_of journal') family journal' ≡ later_than m (of_pending (undone_of journal) family journal) =
    pending_confirmed journal' m journal entry sound accepts is ∙ ap (later_than m) (undone_stays journal entry family sound) in
    ap (λ l. kept_rows family (rows_of l) (of_pending (undone_of journal') family journal')) (layer_confirm 8 m 0 journal entry sound accepts is (omega arith))
    ∙ ap (kept_rows family (rows_of (layer 8 0 family journal))) rest

-- an entry of another family
pub family_other : (family : ℕ) (journal : List Entry) (entry : Entry) → IsSound 8 journal → Accepts 8 journal entry → family_of_next journal entry ≢ family
    → family_of (journal ++ entry ∷ []) family ≡ family_of journal family
family_other family journal entry sound accepts other =
    let journal' = journal ++ entry ∷ [] in
    cc (layer_other 8 0 family journal entry sound accepts other, pending_left (undone_of journal') family journal entry sound accepts other, undone_stays journal entry family sound)

-- What the records of a family's pending entries give back.

-- a record is pushed, which gives the former rows back
pub pushed : (rows new : List StampRow) (us : List Undo) (b : Buffer Undo) (u : Undo) (cap : ℕ) → cap ≡ 8 → b ≡ buffer (take cap (u ∷ us)) cap → after_change u.back new ≡ rows
    → history new b.items ≡ take 8 (undone u.entry rows (earlier_of u.before) ∷ history rows us)
pushed rows new us b u cap eight is back = grind (arith, nat_tests)

-- what can go back can with fewer records, and with more room
back_take : (n : ℕ) (room : Room) (rows : List StampRow) (us : List Undo) → CanGoBack room rows us → CanGoBack room rows (take n us)
back_take (suc n) room rows (u ∷ us) can = (can.0, can.1, back_take n room (after_change u.back rows) us can.2)
back_take n room rows us can = grind (arith, nat_tests)

pub back_more : (room more : Room) (rows : List StampRow) (us : List Undo) → IsRoomier room more → CanGoBack room rows us → CanGoBack more rows us
back_more room more rows [] up can = tt
back_more room more rows (u ∷ us) up can = grind (arith, nat_tests, back_more room more (after_change u.back rows) us up can.2)

-- what a family keeps of its records
abbrev pub AreKept : Room → List StampRow → Buffer Undo → Type 0
AreKept room rows b = (b.capacity ≡ 8) × CanGoBack room rows b.items

pub kept_pushed : (room more : Room) (rows new : List StampRow) (us : List Undo) (b : Buffer Undo) (u : Undo) (cap : ℕ) → cap ≡ 8 → b ≡ buffer (take cap (u ∷ us)) cap → after_change u.back new ≡ rows → IsKept rows
    → Fits u.back new more → IsRoomier room more → CanGoBack room rows us → AreKept more new b
kept_pushed room more rows new us b u cap eight is back kept fits up can = grind (arith, nat_tests)

pub kept_roomier : (room more : Room) (rows new : List StampRow) (b : Buffer Undo) → new ≡ rows → IsRoomier room more → AreKept room rows b → AreKept more new b
kept_roomier room more rows new b same up k = grind (arith, nat_tests, back_more)

-- Confirming.

since_is : (n : ℕ) (rows : List StampRow) (us : List Undo) → history rows (take (position_or_len (λ u. u.entry == n) us) us) ≡ later_than n (history rows us)
since_is n rows [] = refl
since_is n rows (u ∷ us) =
    let at : ℕ = position_or_len (λ (w : Undo). w.entry == n) us in
    let next : 1 + at ≡ suc at = omega arith in
    let old : List StampRow = after_change u.back rows in
    grind (arith, nat_tests, since_is n old us)

pos_some : {A : Type 0} (test : A → Bool) (xs : List A) (at : ℕ) → position test xs ≡ Some at → at ≡ position_or_len test xs
pos_some test xs at some = grind (arith, nat_tests)

pub since_some : (n at : ℕ) (rows : List StampRow) (us : List Undo) → position (λ u. u.entry == n) us ≡ Some at → history rows (take at us) ≡ later_than n (history rows us)
since_some n at rows us some = grind (arith, nat_tests, pos_some, since_is)

pub since_none : (n : ℕ) (rows : List StampRow) (us : List Undo) → position (λ u. u.entry == n) us ≡ None → history rows us ≡ later_than n (history rows us)
since_none n rows us none = sym (grind (arith, nat_tests, take_all)) ∙ since_is n rows us

pub kept_truncated : (at : ℕ) (room : Room) (rows : List StampRow) (b new : Buffer Undo) → new ≡ buffer (take at b.items) b.capacity → AreKept room rows b → AreKept room rows new
kept_truncated at room rows b new is k = subst (AreKept room rows) (sym is) (k.0, back_take at room rows b.items k.1)

-- The first record.

-- the records are the first one and those behind it
pub first_and_rest : (us : List Undo) (u : Undo) → slice_get us 0 ≡ Some u → us ≡ u ∷ drop 1 us
first_and_rest us u h1 = grind (arith, nat_tests)

none_left : (us : List Undo) → slice_get us 0 ≡ None → us ≡ []
none_left [] e = refl
none_left (v ∷ us) e = absurd (cc e)

-- what the first one gives back
pub history_first : (rows : List StampRow) (us : List Undo) (u : Undo) → slice_get us 0 ≡ Some u → history rows us ≡ undone u.entry (after_change u.back rows) (earlier_of u.before) ∷ history (after_change u.back rows) (drop 1 us)
history_first rows us u here = ap (history rows) (first_and_rest us u here)

pub history_none : (rows : List StampRow) (us : List Undo) → slice_get us 0 ≡ None → history rows us ≡ []
history_none rows us none = ap (history rows) (none_left us none)

-- whether a record of the entry is there
pub has_is : (n : ℕ) (rows : List StampRow) (us : List Undo) → list_any (λ u. u.entry == n) us ≡ list_any (λ u. u.entry == n) (history rows us)
has_is n rows [] = refl
has_is n rows (u ∷ us) = ap (λ b. (u.entry == n) || b) (has_is n (after_change u.back rows) us)

-- the copy of a new family alone lives in it
pub new_living : (n copy : ℕ) → lives (seed_row n ∷ []) copy ≡ true → n ≡ copy
new_living n copy there = grind (arith, nat_tests)
