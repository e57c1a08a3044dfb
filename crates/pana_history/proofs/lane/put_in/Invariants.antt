use Rattle.std.proofs.Common.{◌≡◌, map, option_copied}
use Rattle.pana_history.specs.inner.Lanes.{put}
use Rattle.pana_history.proofs.lane.put_in.Given as goal

abbrev pub invariant-loop-lane : goal.invariant-loop-lane
invariant-loop-lane l = l.after.items ≡ map (put l.number (option_copied l.place)) l.yielded
