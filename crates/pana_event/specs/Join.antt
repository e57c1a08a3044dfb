-- The join of two events.
use Rattle.std.specs.Prelude.{◌≡◌, ℕ, ◌+◌, ◌-◌, min, max}
use Rattle.pana_event.specs.Event.{Event, leaf, fork, norm, level, AtPoints}

-- the join of a leaf of level a with an event that is lifted by b: the leaf is taken as a fork of two leaves 0
abbrev pub raised : ℕ → ℕ → Event → Event
raised a b (leaf n) = leaf (max a (b + n))
raised a b (fork n l r) =
    let least = min a (b + n) in
    norm least (raised (a - least) (b + n - least) l) (raised (a - least) (b + n - least) r)

-- the join of two events, the first lifted by a and the second by b: of two forks the lesser own number
-- over the joins of the left and of the right halves, each lifted by what its own fork has above that
abbrev pub join_of : ℕ → Event → ℕ → Event → Event
join_of a (leaf m) b f = raised (a + m) b f
join_of a (fork m l r) b (leaf n) = raised (b + n) a (fork m l r)
join_of a (fork m l r) b (fork n c d) =
    let common = min (a + m) (b + n) in
    norm common (join_of (a + m - common) l (b + n - common) c) (join_of (a + m - common) r (b + n - common) d)

-- the join of two events
abbrev pub joined : Event → Event → Event
joined e f = join_of 0 e 0 f

-- at each point the level of the join is the greater of both
pub record IsJoin (e f join : Event) : Type 0 where
  pub levels : AtPoints (λ point. level join point ≡ max (level e point) (level f point))
