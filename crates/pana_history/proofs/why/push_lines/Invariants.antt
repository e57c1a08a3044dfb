use Rattle.std.proofs.Common.{◌≡◌, ◌++◌, take, string_bytes}
use Rattle.pana_history.specs.Why.{has_lines}
use Rattle.pana_history.proofs.why.push_lines.Given as goal

abbrev pub invariant-loop-entry : goal.invariant-loop-entry
invariant-loop-entry l = string_bytes l.text ≡ string_bytes l.fn.text ++ has_lines l.name (take l.entry-index l.entries)
