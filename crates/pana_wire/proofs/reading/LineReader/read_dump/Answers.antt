-- Flat entries are those that the line says.
use Rattle.std.proofs.Common.{◌≡◌, ℕ, List, Ok}
use Rattle.pana_journal.specs.declared.entry.Entry.{Entry}
use Rattle.pana_wire.specs.Line.{text_within}
use Rattle.pana_wire.specs.Dump.{dump_says}
use Rattle.pana_wire.specs.inner.FlatEntries.{text_says}
use Rattle.pana_wire.proofs.reading.LineReader.read_dump.Goals as goal

flat_says : (line text : List ℕ) (entries : List Entry) → text_within 1048576 line ≡ Ok text → text_says text ≡ Ok entries → dump_says line ≡ Ok entries
unfolding dump_says
flat_says line text entries within is = rw within is

pub returns-in-Some-clause-exact : goal.returns-in-Some-clause-exact
returns-in-Some-clause-exact c = flat_says _ _ c.in-Some.entries c.in_ok-text.ensures.exact c.in-Some.ensures
