-- Records of calls that are asked for at once.
use Rattle.std.proofs.Common.{◌≡◌, ◌<◌, ℕ, ◌+◌, List, [], ◌∷◌, ◌++◌, length, refl, ap, ◌∙◌}
use native.Mathlib.Omega.{arith}
use Rattle.std.specs.List.{AllByRecursion, flat_map}
use Rattle.pana_journal.specs.declared.entry.Entry.{Entry}
use Rattle.pana_calls.specs.declared.message.Message.{Message}
use Rattle.pana_shared.specs.declared.record.Record.{Record}
use Rattle.pana_shared_store.specs.Store.{AreMade, entries_in, recorded, recorded_all}
use Rattle.pana_shared_store.specs.inner.{AreBefore}
use Rattle.pana_shared_store.proofs.Followed.{entries_both}
use Rattle.pana_shared_store.proofs.Readied.{before_both, recorded_before, recorded_entries}
use Rattle.pana_shared_laws.proofs.Fine.{before_later, recorded_late, recorded_own}

pub all_both : {X : Type 0} (P : X → Type 0) (xs ys : List X) → AllByRecursion P xs → AllByRecursion P ys → AllByRecursion P (xs ++ ys)
all_both P [] ys first second = second
all_both P (x ∷ xs) ys (is, first) second = (is, all_both P xs ys first second)

-- all that the calls make
abbrev pub all_made : List (List Entry) → List Entry
all_made groups = flat_map (λ made. made) groups

module _ (w : ℕ) where
  pub all_own : (turn : ℕ) (groups : List (List Entry)) → AllByRecursion (λ r. r.writer ≡ w) (recorded_all w turn groups)
  all_own turn [] = tt
  all_own turn (made ∷ groups) = all_both (λ (r : Record). r.writer ≡ w) (recorded w turn made) (recorded_all w (turn + 1) groups) (recorded_own w turn made) (all_own (turn + 1) groups)

  -- each call's are of a turn of its own, from the first one's on
  pub all_before : (turn : ℕ) (groups : List (List Entry)) → AreBefore (turn + length groups) (recorded_all w turn groups)
  all_before turn [] = tt
  all_before turn (made ∷ groups) =
      before_both (turn + length (made ∷ groups)) (recorded w turn made) (recorded_all w (turn + 1) groups)
      (before_later (turn + 1) (turn + length (made ∷ groups)) (recorded w turn made) (omega arith) (recorded_before w turn made))
      (before_later ((turn + 1) + length groups) (turn + length (made ∷ groups)) (recorded_all w (turn + 1) groups) (omega arith) (all_before (turn + 1) groups))

  pub all_late : (turn before : ℕ) (groups : List (List Entry)) → before < turn → AllByRecursion (λ r. before < r.turn) (recorded_all w turn groups)
  all_late turn before [] later = tt
  all_late turn before (made ∷ groups) later =
      all_both (λ (r : Record). before < r.turn) (recorded w turn made) (recorded_all w (turn + 1) groups) (recorded_late w turn before made (λ some. later)) (all_late (turn + 1) before groups (omega (arith, later)))

  pub all_entries : (turn : ℕ) (groups : List (List Entry)) → entries_in (recorded_all w turn groups) ≡ all_made groups
  all_entries turn [] = refl
  all_entries turn (made ∷ groups) =
      entries_both (recorded w turn made) (recorded_all w (turn + 1) groups) ∙ ap (λ (l : List Entry). l ++ entries_in (recorded_all w (turn + 1) groups)) (recorded_entries w turn made)
      ∙ ap (λ (l : List Entry). made ++ l) (all_entries (turn + 1) groups)

-- each call makes entries, or none
pub made_length : (at : List Entry) (messages : List Message) (groups : List (List Entry)) → AreMade at messages groups → length groups ≡ length messages
made_length at [] [] made = refl
made_length at [] (group ∷ groups) made = absurd made
made_length at (message ∷ messages) [] made = absurd made
made_length at (message ∷ messages) (group ∷ groups) (reply, steps, more) = let l = made_length (at ++ group) messages groups more in omega (arith, l)
