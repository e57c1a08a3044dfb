use Rattle.std.proofs.Common.{◌≡◌, ◌+◌, ◌≤◌, ◌++◌, length, vec_len, vec_capacity}
use Rattle.pana_daemon.proofs.desk_session.add_all.Given as goal

-- the answers so far are added, and there is room for the rest
abbrev pub invariant-loop-answer : goal.invariant-loop-answer
invariant-loop-answer g l =
    (goal.iterator-loop-answer g).can_next l.answer-iterator
    × (goal.iterator-loop-answer g).is_finite l.answer-iterator
    × (l.answers.items ++ l.answer-iterator.rest.items ≡ l.fn.answers.items ++ l.fn.given.items)
    × (vec_len l.answers + length l.answer-iterator.rest.items ≤ vec_capacity l.answers)
