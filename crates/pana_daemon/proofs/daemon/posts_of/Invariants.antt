use Rattle.std.proofs.Common.{◌≡◌, ◌≤◌, ◌+◌, ◌-◌, [], length, replicate, take, vec_capacity}
use Rattle.pana_tickets.specs.Hands.{hand}
use Rattle.pana_daemon.specs.Door.{new_door}
use Rattle.pana_daemon.specs.Post.{doors_in, folders_in}
use Rattle.pana_roots.specs.Root.{folders_of}
use Rattle.pana_daemon.specs.RootFolder.{new_folders}
use Rattle.pana_daemon.proofs.daemon.posts_of.Given as goal

-- the posts of workers so far, each with a part of the whole; there is room for the rest, and for the roots'
abbrev pub invariant-loop-place : goal.invariant-loop-place
invariant-loop-place g l =
    (length l.posts.items ≡ l.place)
    × (doors_in l.posts.items ≡ replicate l.place (new_door l.fn.tickets))
    × (folders_in l.posts.items ≡ [])
    × (16 + length l.fn.roots ≤ vec_capacity l.posts)
    × (l.whole ≡ record { id = l.fn.tickets.id; hand = hand l.fn.tickets.most (64 - l.place) 0 0 })
    × (l.counter ≡ l.fn.counter)

-- all of these, and the posts of the roots so far
abbrev pub invariant-loop-root : goal.invariant-loop-root
invariant-loop-root g l =
    (length l.posts.items ≡ 16 + l.root-index)
    × (doors_in l.posts.items ≡ replicate 16 (new_door l.fn.tickets))
    × (folders_in l.posts.items ≡ new_folders l.fn.looks l.fn.signals.ticks l.fn.signals.start.all.id (folders_of l.fn.disks (take l.root-index l.fn.roots)))
    × (16 + length l.fn.roots ≤ vec_capacity l.posts)
    × (l.counter ≡ l.fn.counter)
