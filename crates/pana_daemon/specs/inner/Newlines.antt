-- Parts of the count of newlines.
use Rattle.std.specs.Prelude.{◌≡◌, ◌+◌, ◌||◌, ℕ, Bool, true, false, List, [], min, Option, Some, None, IfSome}
use Rattle.atomic_table.specs.Seated.{TableId}
use Rattle.std.specs.Io.KnownBytes.{Consumes}
use Rattle.pana_wire.specs.Tap.{inside, has_ended, has_failed}
use Rattle.pana_ticks.specs.declared.count.Count.{Count}
use Rattle.pana_ticks.specs.Hands.{ShareView, count}
use Rattle.pana_wire.specs.declared.tap.Tap.{Tap}
use Rattle.pana_daemon.specs.Newlines.{IsCounted, newlines_in}
use Rattle.pana_daemon.specs.Start.{VerdictView}

-- The newlines of what was read are counted, and the input hasn't ended; or nothing was read, since it has ended or a read
-- failed, and nothing is counted.
abbrev pub CountsPiece : {R : Type 0} → (R → Option (List ℕ)) → Bool → Tap R → Tap R → ShareView → ShareView → Type 0
CountsPiece remaining true old new before after = (read : List ℕ) × Consumes (remaining (inside old)) (remaining (inside new)) read
    × (after ≡ record { id = before.id; count = count (min (before.count.ticks + newlines_in read) 4611686018427387904) false })
    × (has_failed new ≡ has_failed old) × (has_ended new ≡ has_ended old)
CountsPiece remaining false old new before after = Consumes (remaining (inside old)) (remaining (inside new)) []
    × (after ≡ before) × ((has_failed new || has_ended new) ≡ true)

-- So many newlines are counted: those of an input that is to be read, where all begins, which was asked then; and else none.
abbrev pub CountsInput : {R : Type 0} → (R → Option (List ℕ)) → Bool → Option VerdictView → Count → Type 0
CountsInput remaining true None counted = ⊥
CountsInput remaining true (Some verdict) counted = IsCounted remaining verdict.begins counted
CountsInput remaining false verdict counted = IsCounted remaining false counted

-- The input has ended, or isn't read: so many newlines are counted as these ticks, and where this start was asked, so it was
-- answered.
pub record EndsInput {R : Type 0} (remaining : R → Option (List ℕ)) (ticks : TableId) (start : ℕ) (has_roots : Bool) (counter : ShareView) (asked : Option VerdictView) : Type 0 where
  pub id : counter.id ≡ ticks
  pub of : IfSome asked (λ verdict. verdict.of ≡ start)
  pub counts : CountsInput remaining has_roots asked counter.count
