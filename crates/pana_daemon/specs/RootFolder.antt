-- A root's folder, as it is looked at again and again.
use Rattle.std.specs.Prelude.{◌≡◌, ◌≤◌, ℕ, Bool, true, false, ◌<◌, map, List, [], ◌∷◌, Option, Some, None}
use Rattle.atomic_table.specs.Seated.{TableId}
use Rattle.pana_scan.specs.Disk.{Tree}
use Rattle.pana_ticks.specs.declared.count.Count.{Count}
use Rattle.pana_ticks.specs.Hands.{HasSeen, count, none_yet}
use Rattle.pana_roots.specs.Disks.{IsReadOf, IsScanOf}
use Rattle.pana_roots.specs.Root.{RootView}
use Rattle.pana_daemon.specs.declared.folder.Look.{Look}
use Rattle.pana_daemon.specs.declared.folder.Look.TheVariants.{Scanned, Tracked}
use Rattle.pana_daemon.specs.declared.looks.Looks.{Looks}
use Rattle.pana_daemon.specs.Folder.{Deed, gives_look, gives_none, learns}

-- a root's folder, as it is looked at at the start and after ticks: how it is; the ticks, and the start; whether that has
-- come, which nobody knows before the folder has asked; and what it had seen of the ticks when its last scan began
pub record FolderView (K : Type 0) : Type 0 where
  pub root : RootView K
  pub looks : Looks
  pub ticks : TableId
  pub start : ℕ
  pub begins : Option Bool
  pub seen : Count

-- the folder of a root before its first scan
abbrev pub new_folder : {K : Type 0} → Looks → TableId → ℕ → RootView K → FolderView K
new_folder looks ticks start root = record { root = root; looks = looks; ticks = ticks; start = start; begins = None; seen = none_yet }

-- the folders of roots, each with its device
abbrev pub new_folders : {K : Type 0} → Looks → TableId → ℕ → List (RootView K) → List (List ℕ × FolderView K)
new_folders looks ticks start roots = map (λ root. (root.device, new_folder looks ticks start root)) roots

-- the folder, which knows whether the start has come, and has seen so many ticks
abbrev pub knowing : {K : Type 0} → FolderView K → Bool → Count → FolderView K
knowing folder begins seen = record { root = folder.root; looks = folder.looks; ticks = folder.ticks; start = folder.start; begins = Some begins; seen = seen }

-- a scan begins at the start, and then only once there are more ticks than were seen; where a folder is looked at each so
-- many seconds too, it may begin with none
abbrev pub IsMore : Option ℕ → Option Bool → Count → Count → Type 0
IsMore every None old new = Unit {0}
IsMore None (Some begins) old new = (begins ≡ true) × (old.ticks < new.ticks) × (old.is_over ≡ false)
IsMore (Some seconds) (Some begins) old new = (begins ≡ true) × (old.ticks ≤ new.ticks)

-- there is no scan: the start hasn't come and doesn't; or no more ticks come, and all that had come were seen
abbrev pub IsLast : {K : Type 0} → Option Bool → FolderView K → FolderView K → Type 0
IsLast None old new = new ≡ knowing old false old.seen
IsLast (Some true) old new = new ≡ knowing old true (count old.seen.ticks true)
IsLast (Some false) old new = new ≡ old

-- the folder waits until there is a scan, or there is none
abbrev pub AwaitsScan : {K : Type 0} → FolderView K → Bool → FolderView K → Type 0
AwaitsScan old true new = (seen : Count) × (new ≡ knowing old true seen) × IsMore old.looks.every old.begins old.seen seen
AwaitsScan old false new = IsLast old.begins old new

module _ {K D : Type 0} (has : K → D → Type 0) (passes : K → List ℕ → List (List ℕ)) (is_known : Bool) (tree : D → Tree) (has_failed : D → Bool) (entries faults : D → ℕ) where
  -- one look at a folder, by whether it is tracked
  abbrev pub IsLookOf : Bool → RootView K → Look → Type 0
  IsLookOf false folder (Scanned given) = IsScanOf has passes is_known tree has_failed entries faults folder given
  IsLookOf false folder (Tracked given) = ⊥
  IsLookOf true folder (Scanned given) = ⊥
  IsLookOf true folder (Tracked given) = IsReadOf has passes is_known tree has_failed entries faults folder given

  -- Each look at a root is one of its folder, and none is given but at the start, after further ticks, and after a time. What
  -- became of a look is printed, and changes none of the later ones.
  abbrev pub ScansRoot : FolderView K → Deed → FolderView K → Type 0
  ScansRoot old gives_none new = AwaitsScan old false new
  ScansRoot old (gives_look look) new = AwaitsScan old true new × IsLookOf old.looks.is_tracked old.root look
  ScansRoot old (learns end) new = new ≡ old

-- each folder has asked whether the start has come, and this was the answer; where so many ticks were counted it has seen no
-- more, and just these where it has seen that no more come
abbrev pub HaveSeen : {K : Type 0} → Bool → Count → List (List ℕ × FolderView K) → Type 0
HaveSeen begins counted [] = Unit {0}
HaveSeen begins counted (folder ∷ folders) = (folder.1.begins ≡ Some begins) × HasSeen counted folder.1.seen × HaveSeen begins counted folders

abbrev pub has_folders : {K : Type 0} → List (List ℕ × FolderView K) → Bool
has_folders [] = false
has_folders (folder ∷ folders) = true
