use Rattle.std.proofs.Common.{◌≡◌, take, string_bytes}
use Rattle.pana_watch.specs.Line.{entry_lines}
use Rattle.pana_watch.proofs.lines.entry_lines.Given as goal

abbrev pub invariant-loop-entry : goal.invariant-loop-entry
invariant-loop-entry l = string_bytes l.text ≡ entry_lines (take l.entry-index l.entries)
