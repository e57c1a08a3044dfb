use Rattle.std.proofs.Common.{◌≡◌, None, replicate, take}
use Rattle.pana_history.specs.inner.Withdrawals.{behind_all}
use Rattle.pana_history.proofs.withdrawal.withdrawals_of.Given as goal

abbrev pub invariant-loop-entry : goal.invariant-loop-entry
invariant-loop-entry l = l.table.items ≡ behind_all (replicate l.last None) (take l.entry-index l.own)
