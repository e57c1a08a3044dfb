use Rattle.pana_hall.proofs.Words.{◌≡◌, ℕ, ◌+◌, ◌≤◌, List, ◌++◌, length, Call, RunsTo, vec_capacity}
use Rattle.std.specs.VecDeque.{deque_len}
use Rattle.pana_hall.proofs.hall.Hall.apply_all.Given as goal

-- the calls so far have been answered; there is room for the replies to the rest
abbrev pub invariant-loop-by : goal.invariant-loop-by
invariant-loop-by l = record {
  answered : (done : List (List ℕ × Call)) × RunsTo l.fn.self done l.replies.items l.self × (done ++ l.calls.items ≡ l.fn.calls.items);
  room : length l.replies.items + length l.calls.items ≤ vec_capacity l.replies;
}

abbrev pub decreases-loop-by : goal.decreases-loop-by
decreases-loop-by l = deque_len l.calls
