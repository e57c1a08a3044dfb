use Rattle.std.proofs.Common.{◌≡◌, ◌-◌, take, drop}
use Rattle.pana_journal.proofs.journal.Journal.slice.Given as goal

abbrev pub invariant-loop-index : goal.invariant-loop-index
invariant-loop-index l = l.copies.items ≡ take (l.index - l.first) (drop l.first l.self.entries)
