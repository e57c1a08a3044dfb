-- Levels, least and greatest; lifted and sunk events.
use Rattle.std.proofs.Common.{◌≡◌, ℕ, zero, suc, ◌+◌, ◌-◌, ◌≤◌, min, max, Bool, true, false, List, [], ◌∷◌, length, arith, refl}
use Rattle.std.proofs.Common.{inl, inr}
use Rattle.std.proofs.lemmas.Bool.{cases_lt}
use Rattle.pana_event.specs.Event.{Event, leaf, fork, number, level, least, greatest, depth, sink, IsNormal, HasLevel}

-- no level is below the own number
pub number-le-level : (e : Event) (point : List Bool) → number e ≤ level e point
number-le-level (leaf n) point = omega arith
number-le-level (fork n l r) [] = omega arith
number-le-level (fork n l r) (false ∷ point) = omega arith
number-le-level (fork n l r) (true ∷ point) = omega arith

pub number-le-greatest : (e : Event) → number e ≤ greatest e
number-le-greatest (leaf n) = omega arith
number-le-greatest (fork n l r) = omega arith

pub ruleset own_numbers = (number-le-greatest)

pub least-le-greatest : (e : Event) → least e ≤ greatest e
least-le-greatest (leaf n) = omega arith
least-le-greatest (fork n l r) = omega (arith, least-le-greatest l, least-le-greatest r)

-- the own number of a normal tree is its least level
pub least-normal : (e : Event) → IsNormal e → least e ≡ number e
least-normal (leaf n) normal = refl
least-normal (fork n l r) normal =
    omega (arith, normal.0.from_zero, least-normal l normal.1, least-normal r normal.2)

pub ruleset least_levels = (least-normal)

-- no level at a point that is long enough is below the least
pub least-le-level : (e : Event) (point : List Bool) → depth e ≤ length point → least e ≤ level e point
least-le-level (leaf n) point deep = omega arith
least-le-level (fork n l r) [] deep = absurd (omega arith)
least-le-level (fork n l r) (false ∷ point) deep = omega (arith, least-le-level l point (omega arith))
least-le-level (fork n l r) (true ∷ point) deep = omega (arith, least-le-level r point (omega arith))

pub level-le-greatest : (e : Event) (point : List Bool) → level e point ≤ greatest e
level-le-greatest (leaf n) point = omega arith
level-le-greatest (fork n l r) [] = omega arith
level-le-greatest (fork n l r) (false ∷ point) = omega (arith, level-le-greatest l point)
level-le-greatest (fork n l r) (true ∷ point) = omega (arith, level-le-greatest r point)

-- a point in the left half is one in the fork, and likewise in the right
goes_left : (n : ℕ) (l r : Event) (choices at : ℕ) → HasLevel l choices at → HasLevel (fork n l r) (suc choices) (n + at)
goes_left n l r choices at below =
    record { point = false ∷ below.point; long = omega (arith, below.long); is = omega (arith, below.is) }

goes_right : (n : ℕ) (l r : Event) (choices at : ℕ) → HasLevel r choices at → HasLevel (fork n l r) (suc choices) (n + at)
goes_right n l r choices at below =
    record { point = true ∷ below.point; long = omega (arith, below.long); is = omega (arith, below.is) }

leaf_level : (n choices : ℕ) → HasLevel (leaf n) choices n
leaf_level n zero = record { point = []; long = refl; is = refl }
leaf_level n (suc choices) =
    let below = leaf_level n choices in
    record { point = false ∷ below.point; long = omega (arith, below.long); is = refl }

-- the least level is that of some point
pub lowest : (e : Event) (choices : ℕ) → depth e ≤ choices → HasLevel e choices (least e)
lowest (leaf n) choices deep = leaf_level n choices
lowest (fork n l r) zero deep = absurd (omega arith)
lowest (fork n l r) (suc choices) deep =
    elim (cases_lt (least l) (least r)) [
      | inl less ↦
          let same : min (least l) (least r) ≡ least l = omega arith in
          rw same (goes_left n l r choices (least l) (lowest l choices (omega arith)))
      | inr more ↦
          let same : min (least l) (least r) ≡ least r = omega arith in
          rw same (goes_right n l r choices (least r) (lowest r choices (omega arith)))
    ]

-- the greatest level is that of some point
pub highest : (e : Event) (choices : ℕ) → depth e ≤ choices → HasLevel e choices (greatest e)
highest (leaf n) choices deep = leaf_level n choices
highest (fork n l r) zero deep = absurd (omega arith)
highest (fork n l r) (suc choices) deep =
    elim (cases_lt (greatest l) (greatest r)) [
      | inl less ↦
          let same : max (greatest l) (greatest r) ≡ greatest r = omega arith in
          rw same (goes_right n l r choices (greatest r) (highest r choices (omega arith)))
      | inr more ↦
          let same : max (greatest l) (greatest r) ≡ greatest l = omega arith in
          rw same (goes_left n l r choices (greatest l) (highest l choices (omega arith)))
    ]

-- sinking lowers every level alike, and so does lifting raise it
pub level-sink : (e : Event) (m : ℕ) (point : List Bool) → m ≤ number e → level (sink e m) point + m ≡ level e point
level-sink (leaf n) m point within = omega arith
level-sink (fork n l r) m [] within = omega arith
level-sink (fork n l r) m (false ∷ point) within = omega arith
level-sink (fork n l r) m (true ∷ point) within = omega arith

pub greatest-sink : (e : Event) (m : ℕ) → m ≤ number e → greatest (sink e m) + m ≡ greatest e
greatest-sink (leaf n) m within = omega arith
greatest-sink (fork n l r) m within = omega arith

pub number-sink : (e : Event) (m : ℕ) → number (sink e m) ≡ number e - m
number-sink (leaf n) m = refl
number-sink (fork n l r) m = refl

pub depth-sink : (e : Event) (m : ℕ) → depth (sink e m) ≡ depth e
depth-sink (leaf n) m = refl
depth-sink (fork n l r) m = refl

pub normal-sink : (e : Event) (m : ℕ) → IsNormal e → IsNormal (sink e m)
normal-sink (leaf n) m normal = tt
normal-sink (fork n l r) m normal = normal
