-- What the word of ticks and the shares keep true at every moment.
use Rattle.std.specs.Prelude.{◌≡◌, ℕ, Bool, true, false, ◌+◌, ◌*◌, ◌≤◌, [], ◌∷◌}
use mathlib.Core.Option.{some}
use lib.ListN.{get_elem?}
use Rattle.atomic_table.specs.Table.{State}
use Rattle.pana_ticks.specs.declared.count.Count.{Count}
use Rattle.pana_ticks.specs.declared.hand.Hand.{Hand}
use Rattle.pana_ticks.specs.declared.hand.Hand.TheVariants.{Both, Counter, Spent, Watcher}
use Rattle.pana_ticks.specs.Hands.{HasSeen}

abbrev pub bit : Bool → ℕ
bit true = 1
bit false = 0

-- twice the number of ticks, and one more once no more come
abbrev pub word_of : Count → ℕ
word_of counted = 2 * counted.ticks + bit counted.is_over

-- what the share at a place knows where so many were counted, by the share at that place
abbrev pub Fits : ℕ → Count → ℕ → Hand → Type 0
Fits counter counted place (Counter known) = (place ≡ counter) × (known ≡ counted)
Fits counter counted place (Watcher seen) = HasSeen counted seen
Fits counter counted place (Both known seen) = (place ≡ counter) × (known ≡ counted) × HasSeen counted seen
Fits counter counted place Spent = Unit {0}

-- one share has counted so many, the word says so, and no other has seen more
pub record Keeps {S : Type 0} (s : State S Hand) : Type 0 where
  pub counted : Count
  pub counter : ℕ
  pub few : counted.ticks ≤ 4611686018427387904
  pub words : s.words ≡ word_of counted ∷ []
  pub each : (place : ℕ) (hand : Hand) → get_elem? s.views place ≡ some hand → Fits counter counted place hand
