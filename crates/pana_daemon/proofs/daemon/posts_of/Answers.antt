use Rattle.std.proofs.Common.{◌≡◌, ◌+◌, ◌-◌, ℕ, suc, List, [], ◌∷◌, ◌++◌, length, length-append, replicate, arith, sym, ap, ◌∙◌}
use Rattle.pana_tickets.specs.Hands.{ShareView, hand, kept}
use Rattle.pana_daemon.specs.Door.{DoorView, new_door}
use Rattle.pana_daemon.specs.Post.{folders_in}
use Rattle.pana_roots.specs.Root.{folder_at}
use Rattle.pana_daemon.specs.RootFolder.{FolderView, new_folder}
use Rattle.pana_daemon.proofs.Tasks.{door_more, folder_more, folders_more, replicate_more}
use Rattle.pana_daemon.proofs.daemon.posts_of.Goals as goal

pub loop-place-preserved : goal.loop-place-preserved
loop-place-preserved g c =
    let so = c.loop-place.invariant in
    let place = c.loop-place.place in
    let tickets = c.args.tickets.now in
    let more = door_more c.loop-place.posts.items c.push_reserved.new.self.items c.new.result c.push_reserved.ensures.items in
    let one : (64 - place) - 1 ≡ 64 - (place + 1) = omega arith in
    let next : suc place ≡ place + 1 = omega arith in (
      ap length c.push_reserved.ensures.items ∙ length-append c.loop-place.posts.items (_ ∷ []) ∙ ap (λ (k : ℕ). k + 1) so.0,
      more.0 ∙ ap (λ (doors : List DoorView). doors ++ c.new.result ∷ []) so.1 ∙ ap (λ (door : DoorView). replicate place (new_door tickets) ++ door ∷ []) c.new.ensures ∙ replicate_more place (new_door tickets) ∙ ap (λ (k : ℕ). replicate k (new_door tickets)) next,
      more.1 ∙ so.2,
      omega (arith, c.push_reserved.ensures.capacity, so.3),
      c.divide-share.ensures.left ∙ ap (λ (s : ShareView). record { id = s.id; hand = kept s.hand }) so.4 ∙ ap (λ (k : ℕ). record { id = tickets.id; hand = hand tickets.most k 0 0 }) one,
      so.5,
    )

pub loop-root-preserved : goal.loop-root-preserved
loop-root-preserved g c =
    let so = c.loop-root.invariant in
    let root = c.root-item.result in
    let ticks = c.args.signals.now.ticks in
    let start = c.args.signals.now.start.all.id in
    let new = c.push_reserved-in-loop-root.new.self.items in
    let long : length new ≡ length c.loop-root.posts.items + 1 = ap length c.push_reserved-in-loop-root.ensures.items ∙ length-append c.loop-root.posts.items (_ ∷ []) in
    let more = folder_more c.loop-root.posts.items new _ c.new-in-loop-root.result c.push_reserved-in-loop-root.ensures.items in (
      omega (arith, long, so.0),
      more.0 ∙ so.1,
      more.1 ∙ ap (λ (folder : FolderView g.row.K.Denot). folders_in c.loop-root.posts.items ++ (root.device, folder) ∷ []) c.new-in-loop-root.ensures
          ∙ ap (λ (folders : List (List ℕ × FolderView g.row.K.Denot)). folders ++ (root.device, new_folder c.args.looks ticks start (folder_at c.args.disks.now root)) ∷ []) so.2
          ∙ sym (folders_more c.args.disks.now c.args.looks ticks start c.args.roots.now c.loop-root.root-index root c.loop-root-test.true c.root-item.is),
      omega (arith, c.push_reserved-in-loop-root.ensures.capacity, so.3),
      c.watcher.ensures.same ∙ so.4,
    )
