-- Calls that are made in a hall one behind another, and the records that they make.
use Rattle.std.proofs.Common.{◌≡◌, ◌≤◌, ℕ, ◌+◌, List, [], ◌∷◌, ◌++◌, length, refl, sym, ap, subst, ◌∙◌, append_assoc, append-nil}
use native.Mathlib.Omega.{arith}
use Rattle.std.specs.List.{AllByRecursion}
use Rattle.pana_journal.specs.declared.entry.Entry.{Entry}
use Rattle.pana_calls.specs.declared.answer.Answer.{Answer}
use Rattle.pana_calls.specs.declared.answer.Answer.TheVariants.{Given}
use Rattle.pana_calls.specs.declared.message.Message.{Message}
use Rattle.pana_calls.specs.declared.reply.Reply.{Reply}
use Rattle.pana_hall.specs.Step.{Steps}
use Rattle.pana_shared.specs.declared.record.Record.{Record}
use Rattle.pana_shared.specs.Log.{ours}
use Rattle.pana_shared_store.specs.Store.{AreMade, entries_in, recorded, recorded_all}
use Rattle.pana_shared_store.specs.inner.{AreBefore}
use Rattle.pana_shared_store.specs.inner.Groups.{AreGathered, Gathers, IsGathered, joined}
use Rattle.pana_shared_store.proofs.Followed.{entries_both}
use Rattle.pana_shared_store.proofs.Readied.{before_both, before_mono, recorded_before, recorded_entries, recorded_own}

-- ---- one call more

joined_more : (groups : List (List Entry)) (made : List Entry) → joined (groups ++ made ∷ []) ≡ joined groups ++ made
joined_more [] made = append-nil made
joined_more (g ∷ groups) made = ap (λ (l : List Entry). g ++ l) (joined_more groups made) ∙ sym (append_assoc g (joined groups) made)

recorded_more : (writer turn : ℕ) (groups : List (List Entry)) (made : List Entry) → recorded_all writer turn (groups ++ made ∷ []) ≡ recorded_all writer turn groups ++ recorded writer (turn + length groups) made
recorded_more writer turn [] made = append-nil (recorded writer turn made) ∙ ap (λ (n : ℕ). recorded writer n made) (let e : turn ≡ turn + 0 = omega arith in e)
recorded_more writer turn (g ∷ groups) made =
    let later : (turn + 1) + length groups ≡ turn + length (g ∷ groups) = omega arith in
    ap (λ (l : List Record). recorded writer turn g ++ l) (recorded_more writer (turn + 1) groups made ∙ ap (λ (n : ℕ). recorded_all writer (turn + 1) groups ++ recorded writer n made) later)
    ∙ sym (append_assoc (recorded writer turn g) (recorded_all writer (turn + 1) groups) (recorded writer (turn + length (g ∷ groups)) made))

gathered_more : (at : List Entry) (messages : List Message) (answers : List Answer) (groups : List (List Entry)) (message : Message) (answer : Answer) (made : List Entry) → AreGathered at messages answers groups → IsGathered (at ++ joined groups) message answer made
    → AreGathered at (messages ++ message ∷ []) (answers ++ answer ∷ []) (groups ++ made ∷ [])
gathered_more at [] [] [] message answer made are is = (subst (λ (l : List Entry). IsGathered l message answer made) (append-nil at) is, tt)
gathered_more at [] [] (g ∷ groups) message answer made are is = absurd are
gathered_more at [] (a ∷ answers) groups message answer made are is = absurd are
gathered_more at (m ∷ messages) [] groups message answer made are is = absurd are
gathered_more at (m ∷ messages) (a ∷ answers) [] message answer made are is = absurd are
gathered_more at (m ∷ messages) (a ∷ answers) (g ∷ groups) message answer made (first, are) is =
    (first, gathered_more (at ++ g) messages answers groups message answer made are (subst (λ (l : List Entry). IsGathered l message answer made) (sym (append_assoc at g (joined groups))) is))

-- ---- as many as there are calls

pub groups_even : (at : List Entry) (messages : List Message) (answers : List Answer) (groups : List (List Entry)) → AreGathered at messages answers groups → length groups ≡ length messages
groups_even at [] [] [] are = refl
groups_even at [] [] (g ∷ groups) are = absurd are
groups_even at [] (a ∷ answers) groups are = absurd are
groups_even at (m ∷ messages) [] groups are = absurd are
groups_even at (m ∷ messages) (a ∷ answers) [] are = absurd are
groups_even at (m ∷ messages) (a ∷ answers) (g ∷ groups) (first, are) = let e = groups_even (at ++ g) messages answers groups are in omega (arith, e)

-- as calls of which only the entries are known
pub are_made : (at : List Entry) (messages : List Message) (answers : List Answer) (groups : List (List Entry)) → AreGathered at messages answers groups → AreMade at messages groups
are_made at [] [] [] are = tt
are_made at [] [] (g ∷ groups) are = absurd are
are_made at [] (a ∷ answers) groups are = absurd are
are_made at (m ∷ messages) [] groups are = absurd are
are_made at (m ∷ messages) (a ∷ answers) [] are = absurd are
are_made at (m ∷ messages) (a ∷ answers) (g ∷ groups) (first, are) = (first.0, first.2, are_made (at ++ g) messages answers groups are)

-- ---- their records

pub all_entries : (writer turn : ℕ) (groups : List (List Entry)) → entries_in (recorded_all writer turn groups) ≡ joined groups
all_entries writer turn [] = refl
all_entries writer turn (g ∷ groups) = entries_both (recorded writer turn g) (recorded_all writer (turn + 1) groups) ∙ ap (λ (l : List Entry). entries_in (recorded writer turn g) ++ l) (all_entries writer (turn + 1) groups) ∙ ap (λ (l : List Entry). l ++ joined groups) (recorded_entries writer turn g)

all_both : (P : Record → Type 0) (xs ys : List Record) → AllByRecursion P xs → AllByRecursion P ys → AllByRecursion P (xs ++ ys)
all_both P [] ys first second = second
all_both P (x ∷ xs) ys (is, first) second = (is, all_both P xs ys first second)

pub all_own : (writer turn : ℕ) (groups : List (List Entry)) → AllByRecursion (λ r. r.writer ≡ writer) (recorded_all writer turn groups)
all_own writer turn [] = tt
all_own writer turn (g ∷ groups) = all_both (λ r. r.writer ≡ writer) (recorded writer turn g) (recorded_all writer (turn + 1) groups) (recorded_own writer writer turn g refl) (all_own writer (turn + 1) groups)

pub all_before : (writer turn : ℕ) (groups : List (List Entry)) → AreBefore (turn + length groups) (recorded_all writer turn groups)
all_before writer turn [] = tt
all_before writer turn (g ∷ groups) = before_both (turn + length (g ∷ groups)) (recorded writer turn g) (recorded_all writer (turn + 1) groups)
    (before_mono (turn + 1) (turn + length (g ∷ groups)) (recorded writer turn g) (omega arith) (recorded_before writer turn g))
    (before_mono ((turn + 1) + length groups) (turn + length (g ∷ groups)) (recorded_all writer (turn + 1) groups) (omega arith) (all_before writer (turn + 1) groups))

-- the records are of this turn or later ones
abbrev pub AreLate : ℕ → List Record → Type 0
AreLate turn records = AllByRecursion (λ r. turn ≤ r.turn) records

late_mono : (turn later : ℕ) (records : List Record) → turn ≤ later → AreLate later records → AreLate turn records
late_mono turn later [] within all = tt
late_mono turn later (r ∷ records) within (is, all) = (omega (arith, within, is), late_mono turn later records within all)

recorded_late : (writer turn : ℕ) (entries : List Entry) → AreLate turn (recorded writer turn entries)
recorded_late writer turn [] = tt
recorded_late writer turn (e ∷ entries) = (omega arith, recorded_late writer turn entries)

pub all_late : (writer turn : ℕ) (groups : List (List Entry)) → AreLate turn (recorded_all writer turn groups)
all_late writer turn [] = tt
all_late writer turn (g ∷ groups) = all_both (λ r. turn ≤ r.turn) (recorded writer turn g) (recorded_all writer (turn + 1) groups) (recorded_late writer turn g) (late_mono turn (turn + 1) (recorded_all writer (turn + 1) groups) (omega arith) (all_late writer (turn + 1) groups))

pub ours_own : (writer : ℕ) (records : List Record) → AllByRecursion (λ r. r.writer ≡ writer) records → ours writer records ≡ records
ours_own writer [] all = refl
ours_own writer (r ∷ records) (is, all) = let rest = ours_own writer records all in grind (arith, is, rest)

pub no_records : (records : List Record) → length records ≡ 0 → records ≡ []
no_records [] none = refl
no_records (r ∷ records) none = absurd (omega (arith, none))

-- where the records are none, no call made an entry
pub nothing_made : (writer turn : ℕ) (groups : List (List Entry)) → recorded_all writer turn groups ≡ [] → joined groups ≡ []
nothing_made writer turn groups none = sym (all_entries writer turn groups) ∙ ap entries_in none

-- ---- gathering

pub gathers_none : (writer turn : ℕ) (at : List Entry) (answers : List Answer) (group : List Record) → group ≡ [] → Gathers writer turn at answers [] at answers group
gathers_none writer turn at answers group none = record { given = []; asked = []; adds = sym (append-nil answers); are = tt; makes = sym (append-nil at); records = none }

pub gathers_more : (writer turn next : ℕ) (old mid new : List Entry) (before between after : List Answer) (calls : List Message) (group more : List Record) (message : Message) (reply : Reply) → Gathers writer turn old before calls mid between group → next ≡ turn + length calls + 1
    → (made : List Entry) → new ≡ mid ++ made → Steps mid message.by message.call reply new → more ≡ group ++ recorded writer next made → after ≡ between ++ Given reply ∷ [] → Gathers writer turn old before (calls ++ message ∷ []) new after more
gathers_more writer turn next old mid new before between after calls group more message reply so_far is made grown steps added given = record {
  given = so_far.given ++ Given reply ∷ [];
  asked = so_far.asked ++ made ∷ [];
  adds = given ∙ ap (λ (l : List Answer). l ++ Given reply ∷ []) so_far.adds ∙ append_assoc before so_far.given (Given reply ∷ []);
  are = gathered_more old calls so_far.given so_far.asked message (Given reply) made so_far.are (reply, refl, subst (λ (l : List Entry). Steps l message.by message.call reply (l ++ made)) so_far.makes (subst (λ (l : List Entry). Steps mid message.by message.call reply l) grown steps));
  makes = grown ∙ ap (λ (l : List Entry). l ++ made) so_far.makes ∙ append_assoc old (joined so_far.asked) made ∙ ap (λ (l : List Entry). old ++ l) (sym (joined_more so_far.asked made));
  records = added ∙ ap (λ (l : List Record). l ++ recorded writer next made) so_far.records ∙ ap (λ (n : ℕ). recorded_all writer (turn + 1) so_far.asked ++ recorded writer n made) turn_is ∙ sym (recorded_more writer (turn + 1) so_far.asked made);
} where
  turn_is : next ≡ (turn + 1) + length so_far.asked
  turn_is = let e = groups_even old calls so_far.given so_far.asked so_far.are in omega (arith, e, is)
