-- Doors and folders among posts.
use Rattle.std.proofs.Common.{◌≡◌, ◌<◌, ◌+◌, ℕ, zero, suc, List, [], ◌∷◌, ◌++◌, length, take, get_or, replicate, refl, sym, ap, ◌∙◌, append-nil}
use Rattle.std.proofs.lemmas.List.{map-append}
use Rattle.std.proofs.lemmas.Grind.{take_at_read}
use Rattle.std.specs.Borrow.{Bor}
use Rattle.atomic_table.specs.Seated.{TableId}
use Rattle.pana_daemon.specs.declared.looks.Looks.{Looks}
use Rattle.pana_daemon.specs.declared.post.Post.{Post}
use Rattle.pana_daemon.specs.declared.post.Post.TheVariants.{Door, Folder}
use Rattle.pana_roots.specs.declared.root.Root.{Root}
use Rattle.pana_daemon.specs.Post.{doors_in, folders_in}
use Rattle.pana_roots.specs.Root.{folder_at, folders_of}
use Rattle.pana_daemon.specs.RootFolder.{new_folder, new_folders}

module _ {D F : Type 0} where
  doors_append : (posts more : List (Post D F)) → doors_in (posts ++ more) ≡ doors_in posts ++ doors_in more
  doors_append [] more = refl
  doors_append (Door door ∷ posts) more = ap (λ (ds : List D). door ∷ ds) (doors_append posts more)
  doors_append (Folder device folder ∷ posts) more = doors_append posts more

  folders_append : (posts more : List (Post D F)) → folders_in (posts ++ more) ≡ folders_in posts ++ folders_in more
  folders_append [] more = refl
  folders_append (Door door ∷ posts) more = folders_append posts more
  folders_append (Folder device folder ∷ posts) more = ap (λ (fs : List (List ℕ × F)). (device.now, folder) ∷ fs) (folders_append posts more)

  -- one door more
  pub door_more : (posts new : List (Post D F)) (door : D) → new ≡ posts ++ Door door ∷ [] → (doors_in new ≡ doors_in posts ++ door ∷ []) × (folders_in new ≡ folders_in posts)
  door_more posts new door is = (
    ap (λ (ps : List (Post D F)). doors_in ps) is ∙ doors_append posts (Door door ∷ []),
    ap (λ (ps : List (Post D F)). folders_in ps) is ∙ folders_append posts (Door door ∷ []) ∙ append-nil (folders_in posts),
  )

  -- one folder more
  pub folder_more : (posts new : List (Post D F)) (device : Bor (List ℕ)) (folder : F) → new ≡ posts ++ Folder device folder ∷ [] → (doors_in new ≡ doors_in posts) × (folders_in new ≡ folders_in posts ++ (device.now, folder) ∷ [])
  folder_more posts new device folder is = (
    ap (λ (ps : List (Post D F)). doors_in ps) is ∙ doors_append posts (Folder device folder ∷ []) ∙ append-nil (doors_in posts),
    ap (λ (ps : List (Post D F)). folders_in ps) is ∙ folders_append posts (Folder device folder ∷ []),
  )

-- the roots so far, and one more
pub folders_more : {K : Type 0} (disks : K) (looks : Looks) (ticks : TableId) (start : ℕ) (roots : List Root) (i : ℕ) (root : Root) → i < length roots → root ≡ get_or roots i root
    → new_folders looks ticks start (folders_of disks (take (i + 1) roots)) ≡ new_folders looks ticks start (folders_of disks (take i roots)) ++ (root.device, new_folder looks ticks start (folder_at disks root)) ∷ []
folders_more disks looks ticks start roots i root within here =
    ap (λ (rs : List Root). new_folders looks ticks start (folders_of disks rs)) ((take_at_read roots i root within).1)
    ∙ ap (new_folders looks ticks start) (map-append (λ r. folder_at disks r) (take i roots) (get_or roots i root ∷ []))
    ∙ map-append (λ r. (r.device, new_folder looks ticks start r)) (folders_of disks (take i roots)) (folder_at disks (get_or roots i root) ∷ [])
    ∙ ap (λ (r : Root). new_folders looks ticks start (folders_of disks (take i roots)) ++ (r.device, new_folder looks ticks start (folder_at disks r)) ∷ []) (sym here)

-- one more of the same
pub replicate_more : {X : Type 0} (n : ℕ) (x : X) → replicate n x ++ x ∷ [] ≡ replicate (suc n) x
replicate_more zero x = refl
replicate_more (suc n) x = ap (λ xs. x ∷ xs) (replicate_more n x)
