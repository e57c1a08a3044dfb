use Rattle.std.proofs.Common.{◌≡◌}
use Rattle.pana_ignore.specs.Pattern.{is_name_match}
use Rattle.pana_ignore.specs.inner.Runs.{outcome, left}
use Rattle.pana_ignore.proofs.name.matches_forward.Given as goal

abbrev pub invariant-loop-met : goal.invariant-loop-met
invariant-loop-met l = is_name_match l.pieces l.name ≡ outcome l.met

abbrev pub decreases-loop-met : goal.decreases-loop-met
decreases-loop-met l = left l.met
