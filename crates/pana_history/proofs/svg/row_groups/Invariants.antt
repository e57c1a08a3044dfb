use Rattle.std.proofs.Common.{◌≡◌, ◌*◌, take, string_bytes}
use Rattle.pana_history.specs.Svg.{row_groups}
use Rattle.pana_history.proofs.svg.row_groups.Given as goal

abbrev pub invariant-loop-row : goal.invariant-loop-row
invariant-loop-row l = record {
  text : string_bytes l.text ≡ row_groups 0 (take l.row-index l.rows);
  y : l.y ≡ 20 * l.row-index;
}
