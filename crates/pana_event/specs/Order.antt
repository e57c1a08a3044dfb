-- One event below another.
use Rattle.std.specs.Prelude.{ℕ, ◌+◌, ◌≤◌, Bool, ◌&&◌, nat_le}
use Rattle.pana_event.specs.Event.{Event, leaf, fork, number, level, AtPoints}

-- whether the first event, lifted by a, is below the second, lifted by b: a leaf is compared with the
-- other's own number, which is its least level where it is normal
abbrev pub is_below : ℕ → Event → ℕ → Event → Bool
is_below a (leaf m) b f = nat_le (a + m) (b + number f)
is_below a (fork m l r) b (leaf n) = nat_le (a + m) (b + n) && (is_below (a + m) l b (leaf n) && is_below (a + m) r b (leaf n))
is_below a (fork m l r) b (fork n c d) = nat_le (a + m) (b + n) && (is_below (a + m) l (b + n) c && is_below (a + m) r (b + n) d)

-- whether the first event is below the second
abbrev pub is_leq : Event → Event → Bool
is_leq e f = is_below 0 e 0 f

-- at no point is the first event's level above the second's
pub record IsBelow (e f : Event) : Type 0 where
  pub levels : AtPoints (λ point. level e point ≤ level f point)
