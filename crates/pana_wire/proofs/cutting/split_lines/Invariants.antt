use Rattle.std.proofs.Common.{◌≡◌, ◌++◌, length, map}
use Rattle.pana_wire.specs.Lines.{lines_of}
use Rattle.pana_wire.proofs.cutting.split_lines.Given as goal

abbrev pub invariant-loop-line : goal.invariant-loop-line
invariant-loop-line l = lines_of l.text ≡ map (λ line. line.now) l.lines.items ++ lines_of l.rest

abbrev pub decreases-loop-line : goal.decreases-loop-line
decreases-loop-line l = length l.rest
