-- An event after an update.
use Rattle.std.specs.Prelude.{◌≡◌, ◌+◌, ◌<◌, ◌≤◌, Bool, true, false, List, length}
use Rattle.pana_id.specs.Id.{Id, has}
use Rattle.pana_event.specs.Event.{Event, level, greatest, AtPoints}

-- an event is raised for an id: no level is lowered, only owned points are changed, a point that is owned
-- has a higher level, and the greatest level is at most one more
pub record IsRaised (i : Id) (old new : Event) : Type 0 where
  pub kept : AtPoints (λ point. level old point ≤ level new point)
  pub others : AtPoints (λ point. has i point ≡ false → level new point ≡ level old point)
  pub point : List Bool
  pub long : length point ≡ 256
  pub owned : has i point ≡ true
  pub higher : level old point < level new point
  pub bound : greatest new ≤ greatest old + 1
