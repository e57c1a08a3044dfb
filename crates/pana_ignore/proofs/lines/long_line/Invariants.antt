use Rattle.std.proofs.Common.{◌≡◌, ◌≤◌, ◌+◌, length, Some}
use Rattle.std.specs.Prelude.{option_copied}
use Rattle.pana_ignore.specs.Reading.{long_line}
use Rattle.pana_ignore.specs.inner.Splits.{splits}
use Rattle.pana_ignore.proofs.lines.long_line.Given as goal

abbrev pub invariant-loop-rest : goal.invariant-loop-rest
invariant-loop-rest l = record {
  read : long_line 1 (splits 10 (Some l.text)) ≡ long_line l.number (splits 10 (option_copied l.rest));
  below : l.number + length (splits 10 (option_copied l.rest)) ≤ length l.text + 2;
}

abbrev pub decreases-loop-rest : goal.decreases-loop-rest
decreases-loop-rest l = length (splits 10 (option_copied l.rest))
