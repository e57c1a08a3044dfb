-- Growing: one more at the place of an id that costs least.
use Rattle.std.specs.Prelude.{◌≡◌, ℕ, ◌+◌, ◌-◌, ◌==◌, nat_lt, not, ◌&&◌, ◌||◌, if◌then◌else◌, Bool, true, false, List, [], ◌∷◌, Option, Some, None}
use Rattle.pana_id.specs.Id.{Id, zero_id, one_id, pair, is_zero}
use Rattle.pana_event.specs.Event.{Event, leaf, fork, number, level, AtPoints}
use Rattle.pana_event.specs.Shape.{tree}
use Rattle.pana_event.specs.declared.node.Node.{Node}
use Rattle.pana_stamp.specs.declared.cost.Cost.{Cost}
use Rattle.pana_stamp.specs.Cost.{CostsAtMost, CostsLess, is_cheaper, one_up, cost_at}

-- the left half of an event, where a leaf is taken as a fork of two leaves 0
abbrev pub left_of : Event → Event
left_of (leaf n) = leaf 0
left_of (fork n l r) = l

-- the right half likewise
abbrev pub right_of : Event → Event
right_of (leaf n) = leaf 0
right_of (fork n l r) = r

-- the number of leaves that are opened by a step into a half: 1 at a leaf
abbrev pub opened_by : Event → ℕ
opened_by (leaf n) = 1
opened_by (fork n l r) = 0

-- whether growth goes right, where the halves have these ids and costs: not into a half with id 0, else
-- where it costs less, and right where both cost the same
abbrev pub goes_right : Id → Id → Cost → Cost → Bool
goes_right i j left right = is_zero i || not (is_zero j || is_cheaper left right)

-- what growing an event for an id costs
abbrev pub cost_of : Id → Event → Cost
cost_of zero_id e = record { opened = 0; levels = 0 }
cost_of one_id e = record { opened = 0; levels = 0 }
cost_of (pair i j) e =
    let left = cost_of i (left_of e) in
    let right = cost_of j (right_of e) in
    one_up (opened_by e) (if goes_right i j left right then right else left)

-- the event grown for an id: under a 1 the leaf is one more, and under a pair one half is grown
abbrev pub grow : Id → Event → Event
grow zero_id e = e
grow one_id e = leaf (number e + 1)
grow (pair i j) e =
    if goes_right i j (cost_of i (left_of e)) (cost_of j (right_of e)) then
    fork (number e) (left_of e) (grow j (right_of e))
    else
    fork (number e) (grow i (left_of e)) (right_of e)

-- the event of a node, where there is one
abbrev pub event_if : Option Node → Option Event
event_if None = None
event_if (Some node) = Some (tree node)

-- a fork of which one half is grown, the right one if it can be
abbrev pub in_one : ℕ → Event → Event → Option Event → Option Event → Option Event
in_one n l r (Some right) left = Some (fork n l right)
in_one n l r None (Some left) = Some (fork n left r)
in_one n l r None None = None

-- the event grown at the last 1 of an id that costs just so much, if there is one
abbrev pub grown_at : Id → Event → ℕ → ℕ → Option Event
grown_at zero_id e opened levels = None
grown_at one_id e opened levels = if opened == 0 && levels == 0 then Some (leaf (number e + 1)) else None
grown_at (pair i j) e opened levels =
    if nat_lt opened (opened_by e) || levels == 0 then
    None
    else
    in_one (number e) (left_of e) (right_of e) (grown_at j (right_of e) (opened - opened_by e) (levels - 1)) (grown_at i (left_of e) (opened - opened_by e) (levels - 1))

-- whether a path leads to a 1 of the id
abbrev pub leads_to_one : Id → List Bool → Bool
leads_to_one zero_id path = false
leads_to_one one_id [] = true
leads_to_one one_id (choice ∷ path) = false
leads_to_one (pair l r) [] = false
leads_to_one (pair l r) (false ∷ path) = leads_to_one l path
leads_to_one (pair l r) (true ∷ path) = leads_to_one r path

-- whether the first path goes right where the two part
abbrev pub is_right_of : List Bool → List Bool → Bool
is_right_of [] path = false
is_right_of (choice ∷ first) [] = false
is_right_of (false ∷ first) (false ∷ second) = is_right_of first second
is_right_of (false ∷ first) (true ∷ second) = false
is_right_of (true ∷ first) (false ∷ second) = true
is_right_of (true ∷ first) (true ∷ second) = is_right_of first second

-- where an event grows for an id: of the id's 1s the one that costs least, and of several the rightmost
pub record IsGrowthPlace (i : Id) (e : Event) (place : List Bool) : Type 0 where
  pub one : leads_to_one i place ≡ true
  pub least : (path : List Bool) → leads_to_one i path ≡ true → CostsAtMost (cost_at e place) (cost_at e path)
  pub last : (path : List Bool) → leads_to_one i path ≡ true → is_right_of path place ≡ true → CostsLess (cost_at e place) (cost_at e path)

-- 1 at the points that begin with the path, and 0 at all others
abbrev pub one_at : List Bool → List Bool → ℕ
one_at [] point = 1
one_at (choice ∷ path) [] = 0
one_at (false ∷ path) (false ∷ point) = one_at path point
one_at (false ∷ path) (true ∷ point) = 0
one_at (true ∷ path) (false ∷ point) = 0
one_at (true ∷ path) (true ∷ point) = one_at path point

-- an event is grown for an id at that cost: all points of the growth place have one more, and no other point changed
pub record IsGrown (i : Id) (old new : Event) (cost : Cost) : Type 0 where
  pub place : List Bool
  pub best : IsGrowthPlace i old place
  pub costs : cost ≡ cost_at old place
  pub levels : AtPoints (λ point. level new point ≡ level old point + one_at place point)
