-- Filling: raising points that an id owns as far as the event gets simpler and no higher.
use Rattle.std.specs.Prelude.{◌≡◌, ◌≤◌, max, false}
use Rattle.pana_id.specs.Id.{Id, zero_id, one_id, pair, has}
use Rattle.pana_event.specs.Event.{Event, leaf, fork, level, least, greatest, norm, AtPoints}

-- the event filled for an id: under a 1 all levels become the greatest, and beside a filled half a half
-- under a 1 becomes one leaf, which is raised to the other half's least level if it is below that
abbrev pub fill : Id → Event → Event
fill zero_id e = e
fill one_id e = leaf (greatest e)
fill (pair i j) (leaf n) = leaf n
fill (pair one_id i) (fork n l r) = norm n (leaf (max (greatest l) (least (fill i r)))) (fill i r)
fill (pair i one_id) (fork n l r) = norm n (fill i l) (leaf (max (greatest r) (least (fill i l))))
fill (pair i j) (fork n l r) = norm n (fill i l) (fill j r)

-- an event is filled for an id: no level is lowered, only owned points are changed, and no level is above
-- the greatest that there was
pub record IsFilled (i : Id) (old new : Event) : Type 0 where
  pub kept : AtPoints (λ point. level old point ≤ level new point)
  pub others : AtPoints (λ point. has i point ≡ false → level new point ≡ level old point)
  pub bound : AtPoints (λ point. level new point ≤ greatest old)
