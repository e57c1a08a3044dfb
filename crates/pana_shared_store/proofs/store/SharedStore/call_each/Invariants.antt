use Rattle.std.proofs.Common.{◌+◌, ◌≤◌, length, vec_len, vec_capacity}
use Rattle.pana_calls.proofs.Calls.{Completes}
use Rattle.pana_shared_store.specs.Store.{Makes}
use Rattle.pana_shared_store.specs.inner.Groups.{FailsFor}
use Rattle.pana_shared_store.proofs.store.SharedStore.call_each.Given as goal

-- what the calls that are left do from here, all did from the beginning
abbrev pub invariant-loop-left : goal.invariant-loop-left
invariant-loop-left g l = record {
  far : Completes (Makes g.L.SharedLog.is_known) (FailsFor g.L.SharedLog.is_known) l.fn.self l.fn.calls l.fn.answers.items l.self l.left l.answers.items;
  room : vec_len l.answers + length l.left ≤ vec_capacity l.answers;
}

abbrev pub decreases-loop-left : goal.decreases-loop-left
decreases-loop-left g l = length l.left
