-- Newlines of an input, each of which is a tick.
use Rattle.std.specs.Prelude.{◌≡◌, ◌==◌, ◌||◌, ℕ, Bool, true, false, List, length, filter, min, Option}
use Rattle.std.specs.Io.KnownBytes.{Consumes}
use Rattle.pana_ticks.specs.declared.count.Count.{Count}
use Rattle.pana_ticks.specs.Hands.{count, none_yet}
use Rattle.pana_wire.specs.Tap.{inside, has_ended, has_failed, IsUnused}
use Rattle.pana_wire.specs.declared.tap.Tap.{Tap}

-- how many newlines are among bytes
abbrev pub newlines_in : List ℕ → ℕ
newlines_in bytes = length (filter (λ byte. byte == 10) bytes)

-- an input was read until it had ended, or a read failed, and the newlines of all that was read are counted, up to 2^62
pub record CountsNewlines {R : Type 0} (remaining : R → Option (List ℕ)) (old new : Tap R) (counted : Count) : Type 0 where
  pub read : List ℕ
  pub consumed : Consumes (remaining (inside old)) (remaining (inside new)) read
  pub ended : (has_failed new || has_ended new) ≡ true
  pub counted_is : counted ≡ count (min (newlines_in read) 4611686018427387904) true

-- so many newlines of an input were counted: those of what was read of it, where it is to be read; and else none
abbrev pub IsCounted : {R : Type 0} → (R → Option (List ℕ)) → Bool → Count → Type 0
IsCounted {R = R} remaining true counted = (old : Tap R) × (new : Tap R) × IsUnused old × CountsNewlines remaining old new counted
IsCounted remaining false counted = counted ≡ none_yet
