use Rattle.std.proofs.Common.{◌≡◌, ◌==◌, None, find, take}
use Rattle.pana_history.proofs.lane.place_at.Given as goal

abbrev pub invariant-loop-lane : goal.invariant-loop-lane
invariant-loop-lane l = find (λ lane. lane.copy == l.number) (take l.lane-index l.lanes) ≡ None
