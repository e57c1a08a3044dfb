use Rattle.std.proofs.Common.{◌≡◌, length}
use Rattle.std.specs.Prelude.{option_copied}
use Rattle.pana_ignore.specs.Match.{some_rest}
use Rattle.pana_ignore.specs.Pattern.{is_path_match}
use Rattle.pana_ignore.specs.inner.Runs.{names_left}
use Rattle.pana_ignore.proofs.path.find.Given as goal

abbrev pub invariant-loop-rest : goal.invariant-loop-rest
invariant-loop-rest l = some_rest (is_path_match l.parts) (names_left (option_copied l.fn.path)) ≡ some_rest (is_path_match l.parts) (names_left (option_copied l.rest))

abbrev pub decreases-loop-rest : goal.decreases-loop-rest
decreases-loop-rest l = length (names_left (option_copied l.rest))
