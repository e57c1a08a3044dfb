use Rattle.std.proofs.Common.{◌≡◌, map, take}
use Rattle.pana_history.specs.Lanes.{made_by}
use Rattle.pana_history.specs.inner.Lanes.{empty_lane}
use Rattle.pana_history.proofs.lane.empty_lanes.Given as goal

abbrev pub invariant-loop-entry : goal.invariant-loop-entry
invariant-loop-entry l = l.lanes.items ≡ map empty_lane (made_by (take l.entry-index l.own))
