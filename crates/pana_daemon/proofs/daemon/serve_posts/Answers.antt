use Rattle.std.proofs.Common.{ℕ, Bool, List, not, ap, subst, sym, ◌∙◌}
use Rattle.pana_daemon.specs.Door.{DoorView}
use Rattle.pana_daemon.specs.Post.{doors_in, folders_in}
use Rattle.pana_roots.specs.Root.{folders_of}
use Rattle.pana_daemon.specs.RootFolder.{has_folders}
use Rattle.pana_daemon.specs.Serve.{fault_of}
use Rattle.pana_daemon.specs.inner.Doors.{AreEnded}
use Rattle.pana_daemon.specs.inner.Folders.{AreOf, HaveAsked}
use Rattle.pana_daemon.proofs.Counted.{counts_so}
use Rattle.pana_daemon.proofs.Doors.{all_end, all_left}
use Rattle.pana_daemon.proofs.Folders.{all_asked, new_of, new_some}
use Rattle.pana_daemon.proofs.daemon.serve_posts.Goals as goal

pub settle-is_closed-requires-clause-doors : goal.settle-is_closed-requires-clause-doors
settle-is_closed-requires-clause-doors g c =
    let left = doors_in c.in_ok-ended.ended.posts.items in
    (all_left c.args.tickets.now 16 left (subst (λ (doors : List DoorView). AreEnded doors left) c.in_ok-posts.ensures.workers (all_end _ _ _ _ _ _ _ _ _ _ _ c.in_ok-ended.ensures.ends))).0

pub settle-is_closed-requires-clause-count : goal.settle-is_closed-requires-clause-count
settle-is_closed-requires-clause-count g c =
    let left = doors_in c.in_ok-ended.ended.posts.items in
    (all_left c.args.tickets.now 16 left (subst (λ (doors : List DoorView). AreEnded doors left) c.in_ok-posts.ensures.workers (all_end _ _ _ _ _ _ _ _ _ _ _ c.in_ok-ended.ensures.ends))).1

pub settle-is_closed-requires-clause-folders : goal.settle-is_closed-requires-clause-folders
settle-is_closed-requires-clause-folders g c =
    let ticks = c.args.signals.now.ticks in
    let start = c.args.signals.now.start.all.id in
    subst (λ (of : ℕ). HaveAsked ticks of (folders_in c.in_ok-ended.ended.posts.items)) (sym c.decide-verdict.ensures)
    (all_asked _ _ _ _ _ g.K.Disks.gives g.K.Disks.passes _ _ _ _ _ ticks start _ _ _ _ _ _ c.in_ok-ended.ensures.ends
    (subst (λ folders. AreOf ticks start folders) (sym c.in_ok-posts.ensures.scanners) (new_of c.args.looks ticks start (folders_of c.args.disks.now c.args.roots.now))))

pub returns : goal.returns
returns g c =
    λ wanted most.
    let begins = c.decide-verdict.result.begins in
    let ticks = c.args.signals.now.ticks in
    let start = c.args.signals.now.start.all.id in
    let counted = c.in_ok-ended.counter.count in
    let settled = c.settle-is_closed.ensures in
    let roots = ap not c.is_empty-has_roots.ensures ∙ new_some c.args.disks.now c.args.looks ticks start c.args.roots.now ∙ ap has_folders (sym c.in_ok-posts.ensures.scanners) in
    record {
      tickets = c.args.tickets.now;
      posts = c.in_ok-posts.posts.items;
      most = most;
      workers = c.in_ok-posts.ensures.workers;
      ticks = ticks;
      start = start;
      scanners = c.in_ok-posts.ensures.scanners;
      ends = record {
        posts_left = c.in_ok-ended.ended.posts.items;
        unanswered = c.in_ok-ended.ended.unanswered;
        ends = c.in_ok-ended.ensures.ends;
        drawn = λ unclosed. settled.drawn (settled.closed ∙ unclosed);
        begins = begins;
        counted = counted;
        counts = counts_so _ (not c.is_empty-has_roots.result) _ begins c.in_ok-ended.asked counted roots c.in_ok-ended.ensures.counts.counts c.is_that_of.ensures;
        seen = settled.seen;
        fault_is = c.late_fault.ensures ∙ ap (λ (is_closed : Bool). fault_of c.in_ok-ended.ended.unanswered is_closed) settled.closed;
      };
    }
