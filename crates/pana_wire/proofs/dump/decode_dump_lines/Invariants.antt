use Rattle.std.proofs.Common.{take}
use Rattle.pana_wire.specs.DumpLines.{Say}
use Rattle.pana_wire.specs.Lines.{texts}
use Rattle.pana_wire.proofs.dump.decode_dump_lines.Given as goal

abbrev pub invariant-loop-index : goal.invariant-loop-index
invariant-loop-index l = Say (texts (take l.index l.lines)) l.entries
