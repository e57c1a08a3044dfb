use Rattle.std.proofs.Common.{◌≡◌, take, string_bytes}
use Rattle.pana_history.specs.Text.{graph_text}
use Rattle.pana_history.proofs.text.graph_text.Given as goal

abbrev pub invariant-loop-row : goal.invariant-loop-row
invariant-loop-row l = string_bytes l.text ≡ graph_text (take l.row-index l.rows)
