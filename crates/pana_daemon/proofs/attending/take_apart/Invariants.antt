use Rattle.std.proofs.Common.{◌≡◌, ◌≤◌, ◌+◌, ◌++◌, length, map, vec_capacity}
use Rattle.pana_daemon.specs.Session.{at_rest}
use Rattle.pana_daemon.proofs.attending.take_apart.Given as goal

-- the passes and the posts so far; there is room for the rest
abbrev pub invariant-loop-caller : goal.invariant-loop-caller
invariant-loop-caller g l =
    (goal.iterator-loop-caller g).can_next l.caller-iterator
    × (goal.iterator-loop-caller g).is_finite l.caller-iterator
    × (map at_rest l.passes.items ++ map (λ caller. caller.session) l.caller-iterator.rest.items ≡ map (λ caller. caller.session) l.fn.callers.items)
    × (l.posts.items ++ map (λ caller. caller.post) l.caller-iterator.rest.items ≡ map (λ caller. caller.post) l.fn.callers.items)
    × (length l.passes.items + length l.caller-iterator.rest.items ≤ vec_capacity l.passes)
    × (length l.posts.items + length l.caller-iterator.rest.items ≤ vec_capacity l.posts)
