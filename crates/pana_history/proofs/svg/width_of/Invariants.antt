use Rattle.std.proofs.Common.{◌≡◌, take}
use Rattle.pana_history.specs.Svg.{width_of}
use Rattle.pana_history.proofs.svg.width_of.Given as goal

abbrev pub invariant-loop-row : goal.invariant-loop-row
invariant-loop-row l = l.width ≡ width_of (take l.row-index l.rows)
