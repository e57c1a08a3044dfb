-- Event trees as plain data: levels at points, normal form, limits.
use Rattle.std.specs.Prelude.{◌≡◌, ℕ, ◌+◌, ◌-◌, ◌^◌, ◌<◌, ◌≤◌, ◌==◌, min, max, Bool, true, false, if◌then◌else◌, List, [], ◌∷◌, length}

-- an event: a leaf has one level everywhere, and a fork lifts the levels of its two halves by its own number
pub data Event : Type 0 where
  leaf : ℕ → Event
  fork : ℕ → Event → Event → Event

-- the own number of a tree's root
abbrev pub number : Event → ℕ
number (leaf n) = n
number (fork n l r) = n

-- the level at a point, a list of choices in which false goes left and true goes right
abbrev pub level : Event → List Bool → ℕ
level (leaf n) point = n
level (fork n l r) [] = n
level (fork n l r) (false ∷ point) = n + level l point
level (fork n l r) (true ∷ point) = n + level r point

-- the least level
abbrev pub least : Event → ℕ
least (leaf n) = n
least (fork n l r) = n + min (least l) (least r)

-- the greatest level
abbrev pub greatest : Event → ℕ
greatest (leaf n) = n
greatest (fork n l r) = n + max (greatest l) (greatest r)

-- how many forks lie one below another at most
abbrev pub depth : Event → ℕ
depth (leaf n) = 0
depth (fork n l r) = max (depth l) (depth r) + 1

-- the event with every level m higher
abbrev pub lift : Event → ℕ → Event
lift (leaf n) m = leaf (n + m)
lift (fork n l r) m = fork (n + m) l r

-- the event with every level m lower, for an m up to its own number
abbrev pub sink : Event → ℕ → Event
sink (leaf n) m = leaf (n - m)
sink (fork n l r) m = fork (n - m) l r

-- both events are leaves of one level
abbrev pub are_same_leaf : Event → Event → Bool
are_same_leaf (leaf m) (leaf n) = m == n
are_same_leaf (leaf m) (fork n l r) = false
are_same_leaf (fork m c d) (leaf n) = false
are_same_leaf (fork m c d) (fork n l r) = false

-- the normal form of a number over two halves: equal leaves become one, and else what both own numbers
-- have in common moves up (the own number of a normal tree is its least level)
abbrev pub norm : ℕ → Event → Event → Event
norm n l r =
    let common = min (number l) (number r) in
    if are_same_leaf l r then lift l n else fork (n + common) (sink l common) (sink r common)

-- two halves over which a fork is in normal form
pub record IsOpen (l r : Event) : Type 0 where
  pub from_zero : min (number l) (number r) ≡ 0
  pub differ : are_same_leaf l r ≡ false

-- each fork has a half whose own number is 0, and none has two leaves of one level
abbrev pub IsNormal : Event → Type 0
IsNormal (leaf n) = Unit {0}
IsNormal (fork n l r) = IsOpen l r × IsNormal l × IsNormal r

-- what each `EventTree` keeps: it is normal, at most 256 deep, and its levels are below 2 ^ 64
pub record IsSound (e : Event) : Type 0 where
  pub normal : IsNormal e
  pub shallow : depth e ≤ 256
  pub fits : greatest e < 2 ^ 64

-- at each point of 256 choices
abbrev pub AtPoints : (List Bool → Type 0) → Type 0
AtPoints P = (point : List Bool) → length point ≡ 256 → P point

-- a point of so many choices at which the level is n
pub record HasLevel (e : Event) (choices n : ℕ) : Type 0 where
  pub point : List Bool
  pub long : length point ≡ choices
  pub is : level e point ≡ n

-- no point's level is below n, and some point's is n
pub record IsLeastLevel (e : Event) (n : ℕ) : Type 0 where
  pub bound : AtPoints (λ point. n ≤ level e point)
  pub attained : HasLevel e 256 n

-- no point's level is above n, and some point's is n
pub record IsGreatestLevel (e : Event) (n : ℕ) : Type 0 where
  pub bound : AtPoints (λ point. level e point ≤ n)
  pub attained : HasLevel e 256 n
