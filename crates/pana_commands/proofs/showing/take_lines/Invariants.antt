use Rattle.std.proofs.Common.{take, string_bytes}
use Rattle.pana_wire.specs.Lines.{texts}
use Rattle.pana_commands.specs.Show.{TakesLines}
use Rattle.pana_commands.proofs.showing.take_lines.Given as goal

abbrev pub invariant-loop-index : goal.invariant-loop-index
invariant-loop-index l = TakesLines 1 l.fn.hall (texts (take l.index l.lines)) (string_bytes l.reports) l.hall
