use Rattle.std.proofs.Common.{◌≡◌, ◌++◌}
use Rattle.pana_history.specs.Lanes.{own_entries}
use Rattle.pana_history.proofs.Gathered.{AreFamilies}
use Rattle.pana_history.proofs.families.own_entries.Given as goal

abbrev pub invariant-loop-entry : goal.invariant-loop-entry
invariant-loop-entry l = record {
  whole : l.fn.journal ≡ l.yielded ++ l.entry-iterator.rest.items;
  families : AreFamilies l.table.families.items l.yielded;
  entries : l.entries.items ≡ own_entries l.yielded l.family;
}
