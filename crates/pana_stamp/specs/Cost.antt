-- What it costs to grow at a place.
use Rattle.std.specs.Prelude.{◌≡◌, ℕ, ◌+◌, ◌-◌, ◌<◌, ◌≤◌, ◌==◌, nat_lt, ◌&&◌, ◌||◌, Bool, true, false, List, [], ◌∷◌, length}
use Rattle.pana_event.specs.Event.{Event, leaf, fork}
use Rattle.pana_stamp.specs.declared.cost.Cost.{Cost}

-- the first costs no more than the second: it opens fewer leaves, or as many and is no deeper
pub record CostsAtMost (a b : Cost) : Type 0 where
  pub opens : a.opened ≤ b.opened
  pub deep : a.opened ≡ b.opened → a.levels ≤ b.levels

-- the first costs less than the second: it opens fewer leaves, or as many and is less deep
pub record CostsLess (a b : Cost) : Type 0 where
  pub opens : a.opened ≤ b.opened
  pub deep : a.opened ≡ b.opened → a.levels < b.levels

-- whether the first costs less than the second
abbrev pub is_cheaper : Cost → Cost → Bool
is_cheaper a b = nat_lt a.opened b.opened || (a.opened == b.opened && nat_lt a.levels b.levels)

-- how many steps of a path lead through the event's forks before a leaf is met
abbrev pub leaf_depth : Event → List Bool → ℕ
leaf_depth (leaf n) path = 0
leaf_depth (fork n l r) [] = 0
leaf_depth (fork n l r) (false ∷ path) = leaf_depth l path + 1
leaf_depth (fork n l r) (true ∷ path) = leaf_depth r path + 1

-- what it costs to grow at the end of a path: the steps to it, and those of them at which a leaf is opened
abbrev pub cost_at : Event → List Bool → Cost
cost_at e path = record { opened = length path - leaf_depth e path; levels = length path }

-- the cost one level up, where a step opened so many leaves
abbrev pub one_up : ℕ → Cost → Cost
one_up opened below = record { opened = below.opened + opened; levels = below.levels + 1 }
