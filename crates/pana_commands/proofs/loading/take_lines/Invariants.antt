use Rattle.std.proofs.Common.{List, take}
use Rattle.pana_journal.specs.declared.entry.Entry.{Entry}
use Rattle.pana_wire.specs.DumpLines.{Say}
use Rattle.pana_wire.specs.Lines.{texts}
use Rattle.pana_commands.specs.inner.Taken.{HasTaken}
use Rattle.pana_commands.proofs.loading.take_lines.Given as goal

abbrev pub invariant-loop-index : goal.invariant-loop-index
invariant-loop-index l = (entries : List Entry) × Say (texts (take l.index l.lines)) entries × HasTaken entries l.taken
