use Rattle.std.proofs.Common.{◌≡◌, true, ◌≤◌, length}
use Rattle.std.specs.Prelude.{option_copied}
use Rattle.pana_ignore.specs.Match.{some_rest}
use Rattle.pana_ignore.specs.Pattern.{is_path_match}
use Rattle.pana_ignore.specs.inner.Runs.{names_left}
use Rattle.pana_ignore.proofs.path.run.Given as goal

abbrev pub invariant-loop-part : goal.invariant-loop-part
invariant-loop-part l = record {
  same : is_path_match l.fn.parts (names_left (option_copied l.fn.path)) ≡ is_path_match l.ahead (names_left (option_copied l.rest));
  later : some_rest (is_path_match l.fn.parts) (names_left (option_copied l.fn.path)) ≡ true → some_rest (is_path_match l.ahead) (names_left (option_copied l.rest)) ≡ true;
  left : length l.ahead ≤ length l.fn.parts;
}

abbrev pub decreases-loop-part : goal.decreases-loop-part
decreases-loop-part l = length l.ahead
