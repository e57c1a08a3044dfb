use Rattle.std.proofs.Common.{◌≡◌, ◌<◌, ◌||◌}
use Rattle.pana_daemon.specs.Door.{is_one_closed}
use Rattle.pana_daemon.specs.Post.{doors_in, folders_in}
use Rattle.pana_daemon.specs.RootFolder.{HaveSeen}
use Rattle.pana_daemon.specs.inner.Doors.{AreOf, hands_in, joined_all}
use Rattle.pana_daemon.specs.inner.Folders.{HaveAsked}
use Rattle.pana_daemon.proofs.settling.take_in.Given as goal

-- the share so far, together with those to come, and whether one of the doors so far, or of those to come, has ended so;
-- and the folders have seen no more than was counted, where those to come haven't
abbrev pub invariant-loop-post : goal.invariant-loop-post
invariant-loop-post g l =
    (goal.iterator-loop-post g).can_next l.post-iterator
    × (goal.iterator-loop-post g).is_finite l.post-iterator
    × AreOf l.fn.tickets (doors_in l.post-iterator.rest.items)
    × (l.whole.id ≡ l.fn.tickets.id)
    × (0 < l.whole.hand.parts)
    × (joined_all l.whole.hand (hands_in l.post-iterator.rest.items) ≡ joined_all l.fn.whole.hand (hands_in l.fn.posts.items))
    × ((l.is_closed || is_one_closed (doors_in l.post-iterator.rest.items)) ≡ is_one_closed (doors_in l.fn.posts.items))
    × (l.counter ≡ l.fn.counter)
    × HaveAsked l.fn.ticks l.fn.verdict.of (folders_in l.post-iterator.rest.items)
    × (HaveSeen l.fn.verdict.begins l.fn.counter.count (folders_in l.post-iterator.rest.items) → HaveSeen l.fn.verdict.begins l.fn.counter.count (folders_in l.fn.posts.items))
