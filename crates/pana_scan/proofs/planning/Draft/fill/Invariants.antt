use Rattle.std.proofs.Common.{◌≡◌, ◌++◌, length}
use Rattle.pana_scan.specs.Plan.{steps_for, rows_for}
use Rattle.pana_scan.specs.inner.Left.{AllRise, left}
use Rattle.pana_scan.proofs.planning.Draft.fill.Given as goal

-- what was added and what is left make all that is added
abbrev pub invariant-loop-spot : goal.invariant-loop-spot
invariant-loop-spot l =
    AllRise l.sources
    × (l.self.steps.items ++ steps_for l.device (left l.sources) ≡ l.fn.self.steps.items ++ steps_for l.device (left l.initial.sources))
    × (l.self.rows.items ++ rows_for l.device (left l.sources) ≡ l.fn.self.rows.items ++ rows_for l.device (left l.initial.sources))

abbrev pub decreases-loop-spot : goal.decreases-loop-spot
decreases-loop-spot l = length (left l.sources)
