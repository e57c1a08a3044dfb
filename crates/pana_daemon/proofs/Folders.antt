-- Folders, and the ticks and the start that they wait for.
use Rattle.std.proofs.Common.{◌≡◌, ◌<◌, ⊎_elim, ℕ, Bool, true, false, not, ◌==◌, is_some, IsSome, MatchOption, arith, length, List, [], ◌∷◌, Option, Some, None, Result, refl, sym, ap, subst, ◌∙◌}
use Rattle.std.proofs.lemmas.Bool.{ne_eqb}
use Rattle.atomic_table.specs.Seated.{TableId}
use Rattle.pana_scan.specs.Disk.{Tree}
use Rattle.pana_ticks.specs.declared.count.Count.{Count}
use Rattle.pana_ticks.specs.Hands.{count}
use Rattle.pana_track.specs.declared.read_fault.ReadFault.{ReadFault}
use Rattle.pana_track.specs.declared.reading.TrackedListing.{TrackedListing}
use Rattle.pana_track.specs.declared.folder_end.FolderEnd.{FolderEnd}
use Rattle.pana_daemon.specs.Folder.{Deed, Gives, LearnsEnd, Taken, gives_look}
use Rattle.pana_daemon.specs.declared.folder.Look.TheVariants.{Tracked}
use Rattle.pana_daemon.specs.declared.connection.Connection.{Connection}
use Rattle.pana_daemon.specs.declared.post.Post.{Post}
use Rattle.pana_daemon.specs.declared.post.Post.TheVariants.{Door, Folder}
use Rattle.pana_roots.specs.declared.root.Root.{Root}
use Rattle.pana_daemon.specs.declared.looks.Looks.{Looks}
use Rattle.pana_daemon.specs.declared.request.Request.{Request}
use Rattle.pana_daemon.specs.declared.request.Response.{Response}
use Rattle.pana_daemon.specs.Post.{HaveDone, folders_in, posts_of}
use Rattle.pana_roots.specs.Root.{RootView, folders_of}
use Rattle.pana_roots.specs.Disks.{IsReadOf}
use Rattle.pana_daemon.specs.RootFolder.{AwaitsScan, FolderView, IsLast, IsLookOf, IsMore, ScansRoot, knowing, has_folders, new_folders}
use Rattle.pana_daemon.specs.Scan.{Scans}
use Rattle.pana_daemon.specs.Serve.{Ends}
use Rattle.pana_daemon.specs.Session.{BreaksOff, GetNone, MakesCall, MayRecover, SessionView, Settles}
use Rattle.pana_daemon.specs.inner.Folders.{AreOf, HaveAsked, IsTimed}

module _ {K : Type 0} where
  pub new_of : (looks : Looks) (ticks : TableId) (start : ℕ) (roots : List (RootView K)) → AreOf ticks start (new_folders looks ticks start roots)
  new_of looks ticks start [] = tt
  new_of looks ticks start (root ∷ roots) = (refl, refl, new_of looks ticks start roots)

  pub new_some : (disks : K) (looks : Looks) (ticks : TableId) (start : ℕ) (roots : List Root) → not (length roots == 0) ≡ has_folders (new_folders looks ticks start (folders_of disks roots))
  new_some disks looks ticks start [] = refl
  new_some disks looks ticks start (root ∷ roots) = let some : length (root ∷ roots) ≡ 0 → ⊥ = λ none. absurd (omega arith) in ap not (ne_eqb (length (root ∷ roots)) 0 some)

  -- the folder waits no more
  pub awaits_none : (old : FolderView K) (begins : Bool) → Some begins ≡ old.begins → begins ≡ false → AwaitsScan old false old
  awaits_none old true is unbegun = absurd (cc)
  awaits_none old false is unbegun = subst (λ (asked : Option Bool). IsLast asked old old) is refl

  module _ (root : RootView K) (looks : Looks) (ticks : TableId) (start : ℕ) where
    abbrev so : Option Bool → Count → FolderView K
    so asked seen = record { root = root; looks = looks; ticks = ticks; start = start; begins = asked; seen = seen }

    -- the ticks that were waited for are news, or there are none
    waited : looks.every ≡ None → (before after : Count) (given : Option ℕ) → MatchOption given (after ≡ count before.ticks true) (λ n. (n ≡ after.ticks) × (before.ticks < n) × (before.is_over ≡ false))
        → AwaitsScan (so (Some true) before) (is_some given) (so (Some true) after)
    waited untimed before after None is = ap (λ (c : Count). so (Some true) c) is
    waited untimed before after (Some n) is = (after, refl, subst (λ (e : Option ℕ). IsMore e (Some true) before after) (sym untimed) (refl, (let same = is.0 in let more = is.1 in omega (arith, same, more)), is.2))

    pub awaits_next : (old : FolderView K) (asked : Option Bool) (before after : Count) (given : Option ℕ) (more begins : Bool)
        → looks.every ≡ None → so asked before ≡ old → Some begins ≡ old.begins → begins ≡ true
        → MatchOption given (after ≡ count before.ticks true) (λ n. (n ≡ after.ticks) × (before.ticks < n) × (before.is_over ≡ false)) → more ≡ is_some given
        → AwaitsScan old more (so asked after)
    awaits_next old asked before after given more begins untimed view is begun waits given_so =
        let known : Some true ≡ asked = ap (λ (b : Bool). Some b) (sym begun) ∙ is ∙ ap (λ (f : FolderView K). f.begins) (sym view) in
        subst (λ (o : FolderView K). AwaitsScan o more (so asked after)) view
        (subst (λ (a : Option Bool). AwaitsScan (so a before) more (so a after)) known
        (subst (λ (b : Bool). AwaitsScan (so (Some true) before) b (so (Some true) after)) (sym given_so) (waited untimed before after given waits)))

    -- the time that was waited for has passed, or there are more ticks; or no more come
    timed : (seconds : ℕ) → looks.every ≡ Some seconds → (before after : Count) (more : Bool) → IsTimed more before after → AwaitsScan (so (Some true) before) more (so (Some true) after)
    timed seconds is_timed before after true is = (after, refl, subst (λ (e : Option ℕ). IsMore e (Some true) before after) (sym is_timed) (refl, is))
    timed seconds is_timed before after false is = ap (λ (c : Count). so (Some true) c) is

    pub awaits_timed : (seconds : ℕ) (old : FolderView K) (asked : Option Bool) (before after : Count) (more begins : Bool)
        → looks.every ≡ Some seconds → so asked before ≡ old → Some begins ≡ old.begins → begins ≡ true → IsTimed more before after
        → AwaitsScan old more (so asked after)
    awaits_timed seconds old asked before after more begins is_timed view is begun waits =
        let known : Some true ≡ asked = ap (λ (b : Bool). Some b) (sym begun) ∙ is ∙ ap (λ (f : FolderView K). f.begins) (sym view) in
        subst (λ (o : FolderView K). AwaitsScan o more (so asked after)) view
        (subst (λ (a : Option Bool). AwaitsScan (so a before) more (so a after)) known (timed seconds is_timed before after more waits))

    first_of : (every : Option ℕ) (before after : Count) → IsMore every None before after
    first_of None before after = tt
    first_of (Some seconds) before after = tt

    -- the first scan, if the start has come
    pub awaits_first : (old : FolderView K) (asked : Option Bool) (before after : Count) (begins : Bool) → so asked before ≡ old → old.begins ≡ None → begins ≡ true
        → AwaitsScan old true (so (Some begins) after)
    awaits_first old asked before after begins view none begun =
        let unasked : None ≡ asked = sym none ∙ ap (λ (f : FolderView K). f.begins) (sym view) in
        subst (λ (o : FolderView K). AwaitsScan o true (so (Some begins) after)) view
        (subst (λ (a : Option Bool). AwaitsScan (so a before) true (so (Some begins) after)) unasked
        (after, ap (λ (b : Bool). so (Some b) after) begun, first_of looks.every before after))

    pub awaits_refused : (old : FolderView K) (asked : Option Bool) (before : Count) (begins : Bool) → so asked before ≡ old → old.begins ≡ None → begins ≡ false
        → AwaitsScan old false (so (Some begins) before)
    awaits_refused old asked before begins view none unbegun =
        let unasked : None ≡ asked = sym none ∙ ap (λ (f : FolderView K). f.begins) (sym view) in
        subst (λ (o : FolderView K). AwaitsScan o false (so (Some begins) before)) view
        (subst (λ (a : Option Bool). AwaitsScan (so a before) false (so (Some begins) before)) unasked
        (ap (λ (b : Bool). so (Some b) before) unbegun))

  -- a folder that has ended waits for the same, and has asked
  last_asked : (asked : Option Bool) (old new : FolderView K) → old.begins ≡ asked → IsLast asked old new → (new.ticks ≡ old.ticks) × (new.start ≡ old.start) × IsSome new.begins
  last_asked None old new was is = (ap (λ (f : FolderView K). f.ticks) is, ap (λ (f : FolderView K). f.start) is, ap (λ (f : FolderView K). is_some f.begins) is)
  last_asked (Some true) old new was is = (ap (λ (f : FolderView K). f.ticks) is, ap (λ (f : FolderView K). f.start) is, ap (λ (f : FolderView K). is_some f.begins) is)
  last_asked (Some false) old new was is = (ap (λ (f : FolderView K). f.ticks) is, ap (λ (f : FolderView K). f.start) is, ap (λ (f : FolderView K). is_some f.begins) is ∙ ap is_some was)

module _ {K D : Type 0} (has : K → D → Type 0) (passes : K → List ℕ → List (List ℕ)) (is_known : Bool) (tree : D → Tree) (has_failed : D → Bool) (entries faults : D → ℕ) where
  -- a folder that is tracked was waited for, and read
  pub looks_so : (old mid view : FolderView K) (more : Bool) (given : Result TrackedListing ReadFault) → AwaitsScan old more mid → more ≡ true → view ≡ mid → view.looks.is_tracked ≡ true
      → IsReadOf has passes is_known tree has_failed entries faults view.root given → ScansRoot has passes is_known tree has_failed entries faults old (gives_look (Tracked given)) view
  looks_so old mid view more given awaits waited is tracked reads =
      let (seen, same, begins) = subst (λ (b : Bool). AwaitsScan old b mid) waited awaits in
      let so : view ≡ knowing old true seen = is ∙ same in
      let is_tracked : true ≡ old.looks.is_tracked = sym tracked ∙ ap (λ (f : FolderView K). f.looks.is_tracked) so in (
        (seen, so, begins),
        subst (λ (b : Bool). IsLookOf has passes is_known tree has_failed entries faults b old.root (Tracked given)) is_tracked
            (subst (λ (r : RootView K). IsReadOf has passes is_known tree has_failed entries faults r given) (ap (λ (f : FolderView K). f.root) so) reads),
      )

module _ {S D R W K : Type 0} (steps : S → Request → Response → S → Type 0) (together : Bool)
    (gives : D → Option (Connection R W) → D → Type 0) (remaining : R → Option (List ℕ)) (contents : W → Option (List ℕ))
    {G : Type 0} (has : K → G → Type 0) (passes : K → List ℕ → List (List ℕ)) (is_known : Bool) (tree : G → Tree) (has_failed : G → Bool) (entries faults : G → ℕ) where
  abbrev Does : FolderView K → Deed → FolderView K → Type 0
  Does = ScansRoot has passes is_known tree has_failed entries faults

  -- what it learns changes nothing
  learnt_same : (end : Option FolderEnd) (old new : FolderView K) → LearnsEnd Does old end new → new ≡ old
  learnt_same None old new is = is
  learnt_same (Some end) old new is = is

  giving_same : (old new : FolderView K) (given : List Taken) → Gives Does old given new → (new.ticks ≡ old.ticks) × (new.start ≡ old.start)
  giving_same old new [] is = (ap (λ (f : FolderView K). f.ticks) is, ap (λ (f : FolderView K). f.start) is)
  giving_same old new (one ∷ more) (given, mid, gave, learnt, others) =
      let rest = giving_same mid new more others in
      let same = learnt_same one.end given mid learnt ∙ gave.0.1 in
      (rest.0 ∙ ap (λ (f : FolderView K). f.ticks) same, rest.1 ∙ ap (λ (f : FolderView K). f.start) same)

  -- a folder waits for the same after it was scanned, and has asked whether the start has come
  scanning_same : (device : List ℕ) (folder_old folder_new : FolderView K) (old new : SessionView S)
      → Scans Does (MakesCall steps together) together (GetNone steps together) (Settles steps) (BreaksOff steps) MayRecover device folder_old folder_new old new → (folder_new.ticks ≡ folder_old.ticks) × (folder_new.start ≡ folder_old.start) × IsSome folder_new.begins
  scanning_same device folder_old folder_new old new s =
      let first = giving_same folder_old s.folder_mid s.given s.folder in
      ⊎_elim (λ t. let last = last_asked s.folder_mid.begins s.folder_mid folder_new refl t.0 in (last.0 ∙ first.0, last.1 ∙ first.1, last.2))
      (λ t. let gave = t.2.0.1 in (ap (λ (f : FolderView K). f.ticks) gave ∙ first.0, ap (λ (f : FolderView K). f.start) gave ∙ first.1, ap (λ (f : FolderView K). is_some f.begins) gave)) s.ends

  done_same : (ticks : TableId) (start : ℕ) (olds news : List (Post D (FolderView K) × SessionView S)) → HaveDone steps together gives remaining contents Does olds news
      → AreOf ticks start (folders_in (posts_of olds)) → HaveAsked ticks start (folders_in (posts_of news))
  done_same ticks start [] [] done are = tt
  done_same ticks start [] (new ∷ news) done are = absurd done
  done_same ticks start (old ∷ olds) [] done are = absurd done
  done_same ticks start ((Door door_old, old) ∷ olds) ((Door door_new, new) ∷ news) done are = done_same ticks start olds news done.1 are
  done_same ticks start ((Folder device_old folder_old, old) ∷ olds) ((Folder device_new folder_new, new) ∷ news) done are =
      let one = scanning_same device_old.now folder_old folder_new old new done.0.1 in
      (one.0 ∙ are.0, one.1 ∙ are.1, one.2, done_same ticks start olds news done.1 are.2)
  done_same ticks start ((Door door, old) ∷ olds) ((Folder device folder, new) ∷ news) done are = absurd done.0
  done_same ticks start ((Folder device folder, old) ∷ olds) ((Door door, new) ∷ news) done are = absurd done.0

  -- so have all
  pub all_asked : (ticks : TableId) (start : ℕ) (begun : S) (posts : List (Post D (FolderView K))) (left : S) (posts_left : List (Post D (FolderView K))) (requests : ℕ) (unanswered : Bool)
      → Ends steps together gives remaining contents Does begun posts left posts_left requests unanswered → AreOf ticks start (folders_in posts) → HaveAsked ticks start (folders_in posts_left)
  all_asked ticks start begun posts left posts_left requests unanswered e are =
      subst (λ (ps : List (Post D (FolderView K))). HaveAsked ticks start (folders_in ps)) e.posts_left_are
      (done_same ticks start e.olds e.news e.done (subst (λ (ps : List (Post D (FolderView K))). AreOf ticks start (folders_in ps)) (sym e.posts_are) are))
