use Rattle.std.proofs.Common.{◌≡◌, ◌++◌, length, Some}
use Rattle.std.specs.Prelude.{option_copied, flat_map, option_to_list}
use Rattle.pana_ignore.specs.Reading.{pattern_of_line}
use Rattle.pana_ignore.specs.inner.Splits.{splits}
use Rattle.pana_ignore.proofs.patterns.Patterns.of_lines.Given as goal

abbrev pub invariant-loop-rest : goal.invariant-loop-rest
invariant-loop-rest l =
    flat_map (λ line. option_to_list (pattern_of_line line)) (splits 10 (Some l.text))
    ≡ l.patterns ++ flat_map (λ line. option_to_list (pattern_of_line line)) (splits 10 (option_copied l.rest))

abbrev pub decreases-loop-rest : goal.decreases-loop-rest
decreases-loop-rest l = length (splits 10 (option_copied l.rest))
