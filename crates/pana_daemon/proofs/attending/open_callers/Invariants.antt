use Rattle.std.proofs.Common.{◌≡◌, ◌≤◌, ◌+◌, ◌++◌, length, map, vec_capacity}
use Rattle.pana_daemon.specs.Session.{at_rest}
use Rattle.pana_daemon.specs.inner.Passes.{AreOpen}
use Rattle.pana_daemon.proofs.attending.open_callers.Given as goal

-- a caller for each post so far, by the pass at its place; the passes that are left are of the desk, one for each post
-- that is left, and there is room for the rest
abbrev pub invariant-loop-post : goal.invariant-loop-post
invariant-loop-post g l =
    (goal.iterator-loop-post g).can_next l.post-iterator
    × (goal.iterator-loop-post g).is_finite l.post-iterator
    × AreOpen l.fn.desk.id l.passes.rest.items
    × (map (λ caller. caller.post) l.callers.items ++ l.post-iterator.rest.items ≡ l.fn.posts.items)
    × (map (λ caller. caller.session) l.callers.items ++ map at_rest l.passes.rest.items ≡ map at_rest l.fn.passes.items)
    × (length l.passes.rest.items ≡ length l.post-iterator.rest.items)
    × (length l.callers.items + length l.post-iterator.rest.items ≤ vec_capacity l.callers)
    × (length l.callers.items + length l.post-iterator.rest.items ≤ 64)
