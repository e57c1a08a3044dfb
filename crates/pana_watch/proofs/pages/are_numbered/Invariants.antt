use Rattle.std.proofs.Common.{◌≡◌, ◌+◌, drop}
use Rattle.pana_watch.specs.Watch.{are_numbered}
use Rattle.pana_watch.proofs.pages.are_numbered.Given as goal

abbrev pub invariant-loop-entry : goal.invariant-loop-entry
invariant-loop-entry l = (are_numbered l.number l.entries ≡ are_numbered l.next (drop l.entry-index l.entries)) × (l.next ≡ l.number + l.entry-index)
