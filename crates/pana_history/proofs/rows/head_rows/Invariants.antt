use Rattle.std.proofs.Common.{◌≡◌, map, take}
use Rattle.pana_history.specs.Rows.{head_row}
use Rattle.pana_history.proofs.rows.head_rows.Given as goal

abbrev pub invariant-loop-lane : goal.invariant-loop-lane
invariant-loop-lane l = l.rows.items ≡ map (head_row l.lanes) (take l.lane-index l.lanes)
