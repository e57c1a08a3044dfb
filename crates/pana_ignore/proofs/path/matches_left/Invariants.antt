use Rattle.std.proofs.Common.{◌≡◌}
use Rattle.std.specs.Prelude.{option_copied}
use Rattle.pana_ignore.specs.Pattern.{is_path_match}
use Rattle.pana_ignore.specs.inner.Runs.{path_outcome, parts_left, names_left}
use Rattle.pana_ignore.proofs.path.matches_left.Given as goal

abbrev pub invariant-loop-met : goal.invariant-loop-met
invariant-loop-met l = is_path_match l.fn.parts (names_left (option_copied l.fn.path)) ≡ path_outcome l.met

abbrev pub decreases-loop-met : goal.decreases-loop-met
decreases-loop-met l = parts_left l.met
