-- What the word of tickets and the shares keep true at every moment, and what a step shows.
use Rattle.std.specs.Prelude.{◌≡◌, ℕ, ◌+◌, ◌<◌, ◌≤◌, [], ◌∷◌, sum_by}
use mathlib.Core.Option.{some}
use lib.ListN.{get_elem?}
use Rattle.atomic_table.specs.Table.{State, Me}
use Rattle.pana_tickets.specs.declared.hand.Hand.{Hand}
use Rattle.pana_tickets.specs.Hands.{missing, one_more}

abbrev pub parts_of : Hand → ℕ
parts_of h = h.parts

abbrev pub drawn_by : Hand → ℕ
drawn_by h = h.drawn

abbrev pub missed_by : Hand → ℕ
missed_by h = h.missed

-- a share with a part knows how many tickets there are, and one with none has drawn nothing
pub record Fits (most : ℕ) (h : Hand) : Type 0 where
  pub most_is : 0 < h.parts → h.most ≡ most
  pub missed : h.missed ≤ h.parts
  pub idle : h.parts ≡ 0 → h.drawn ≡ 0

-- The word counts the draws. No more tickets are drawn than there are, and all are once a draw has found none.
pub record Keeps {S : Type 0} (most : ℕ) (s : State S Hand) : Type 0 where
  pub few : most ≤ 4611686018427387904
  pub words : s.words ≡ (sum_by drawn_by s.views + sum_by missed_by s.views) ∷ []
  pub whole : sum_by parts_of s.views ≡ 64
  pub within : sum_by drawn_by s.views ≤ most
  pub all : 0 < sum_by missed_by s.views → sum_by drawn_by s.views ≡ most
  pub each : (j : ℕ) (h : Hand) → get_elem? s.views j ≡ some h → Fits most h

-- a draw: where fewer were made before than there are tickets one is drawn, and else none is left
pub record Draws {S : Type 0} (me : Me S Hand) (found : ℕ) (me' : Me S Hand) : Type 0 where
  pub drawn : found < me.0.most → me'.0 ≡ one_more me.0
  pub none : me.0.most ≤ found → me'.0 ≡ missing me.0
  pub slots : me'.1 ≡ me.1

-- a look by the whole: where a draw has found none, all are drawn
pub record Looks {S : Type 0} (me : Me S Hand) (found : ℕ) (me' : Me S Hand) : Type 0 where
  pub same : me' ≡ me
  pub all : me.0.parts ≡ 64 → 0 < me.0.missed → me.0.drawn ≡ me.0.most
