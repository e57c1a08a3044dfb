use Rattle.std.proofs.Common.{◌≡◌, ◌+◌, ◌≤◌, length}
use Rattle.pana_log.specs.Lines.{recovered, text_of}
use Rattle.pana_log.proofs.lines.whole_length.Given as goal

abbrev pub invariant-loop-behind : goal.invariant-loop-behind
invariant-loop-behind l = record {
  within : length l.rest ≤ length l.file;
  read : length (text_of (recovered l.file)) + length l.rest ≡ length l.file + length (text_of (recovered l.rest));
}

abbrev pub decreases-loop-behind : goal.decreases-loop-behind
decreases-loop-behind l = length l.rest
