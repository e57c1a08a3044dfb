use Rattle.std.proofs.Common.{◌≡◌, ◌≤◌, ◌+◌, ◌-◌, take, length, vec_len, vec_capacity}
use Rattle.pana_shared_store.specs.inner.Groups.{Gathers}
use Rattle.pana_shared_store.proofs.gathering.gather.Given as goal

-- the first calls are gathered
abbrev pub invariant-loop-count : goal.invariant-loop-count
invariant-loop-count l = record {
  so_far : Gathers l.writer l.turn l.fn.hall l.fn.answers.items (take l.count l.calls) l.hall l.answers.items l.group.items;
  within : l.count ≤ length l.calls;
  room : vec_len l.answers + (length l.calls - l.count) ≤ vec_capacity l.answers;
  capacity : vec_capacity l.answers ≡ vec_capacity l.fn.answers;
}

abbrev pub decreases-loop-count : goal.decreases-loop-count
decreases-loop-count l = length l.calls - l.count
