use Rattle.std.proofs.Common.{◌≡◌, ◌+◌, ◌*◌, take, string_bytes}
use Rattle.pana_history.specs.Svg.{line_paths}
use Rattle.pana_history.proofs.svg.line_paths.Given as goal

abbrev pub invariant-loop-mark : goal.invariant-loop-mark
invariant-loop-mark l = record {
  text : string_bytes l.text ≡ line_paths 16 (take l.mark-index l.marks);
  x : l.x ≡ 16 + 16 * l.mark-index;
}
