-- The entries are those of the objects so far.
use Rattle.std.proofs.Common.{length}
use Rattle.pana_wire.specs.inner.FlatEntries.{AreListed}
use Rattle.pana_wire.proofs.entry_reading.listed_in.Given as goal

abbrev pub invariant-loop-entries : goal.invariant-loop-entries
invariant-loop-entries l = AreListed l.initial.reader l.reader l.entries.items

abbrev pub decreases-loop-entries : goal.decreases-loop-entries
decreases-loop-entries l = length l.reader
