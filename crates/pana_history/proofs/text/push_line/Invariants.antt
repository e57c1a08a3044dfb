use Rattle.std.proofs.Common.{◌≡◌, ◌++◌, flat_map, take, string_bytes}
use Rattle.pana_history.specs.Text.{mark_text}
use Rattle.pana_history.proofs.text.push_line.Given as goal

abbrev pub invariant-loop-mark : goal.invariant-loop-mark
invariant-loop-mark l = string_bytes l.text ≡ string_bytes l.fn.text ++ flat_map mark_text (take l.mark-index l.fn.row.marks)
