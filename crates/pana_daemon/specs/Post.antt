-- Callers before and after their work.
use Rattle.std.specs.Prelude.{◌≡◌, ℕ, Bool, List, [], ◌∷◌, Option, map}
use Rattle.pana_daemon.specs.Folder.{Deed}
use Rattle.pana_daemon.specs.declared.connection.Connection.{Connection}
use Rattle.pana_daemon.specs.declared.post.Caller.{Caller}
use Rattle.pana_daemon.specs.declared.post.Post.{Post}
use Rattle.pana_daemon.specs.declared.post.Post.TheVariants.{Door, Folder}
use Rattle.pana_daemon.specs.declared.request.Request.{Request}
use Rattle.pana_daemon.specs.declared.request.Response.{Response}
use Rattle.pana_daemon.specs.Connection.{Works}
use Rattle.pana_daemon.specs.Desk.{PassView}
use Rattle.pana_daemon.specs.Scan.{Scans}
use Rattle.pana_daemon.specs.Session.{BreaksOff, GetNone, MakesCall, MayRecover, SessionView, Settles, at_rest}

module _ {S D R W F : Type 0} (steps : S → Request → Response → S → Type 0) (together : Bool)
    (gives : D → Option (Connection R W) → D → Type 0) (remaining : R → Option (List ℕ)) (contents : W → Option (List ℕ)) (does : F → Deed → F → Type 0) where
  -- a caller has done what it was to do, by its pass: it has served the connections of its door, or scanned its folder
  abbrev pub HasDone : Post D F → Post D F → SessionView S → SessionView S → Type 0
  HasDone (Door door_old) (Door door_new) old new = Works steps together gives remaining contents door_old door_new old new
  HasDone (Folder device_old folder_old) (Folder device_new folder_new) old new =
      (device_new ≡ device_old) × Scans does (MakesCall steps together) together (GetNone steps together) (Settles steps) (BreaksOff steps) MayRecover device_old.now folder_old folder_new old new
  HasDone (Door door) (Folder device folder) old new = ⊥
  HasDone (Folder device folder) (Door door) old new = ⊥

  -- each of the callers has, and they are in the order in which they were
  abbrev pub HaveDone : List (Post D F × SessionView S) → List (Post D F × SessionView S) → Type 0
  HaveDone [] [] = Unit {0}
  HaveDone [] (new ∷ news) = ⊥
  HaveDone (old ∷ olds) [] = ⊥
  HaveDone (old ∷ olds) (new ∷ news) = HasDone old.0 new.0 old.1 new.1 × HaveDone olds news

-- what a caller is to do, and its session
abbrev pub posted : {S T G D F : Type 0} → Caller S T G D F → Post D F × SessionView S
posted caller = (caller.post, caller.session)

-- the passes of callers
abbrev pub passes_of : {S D F : Type 0} → List (Post D F × SessionView S) → List (PassView S)
passes_of callers = map (λ caller. caller.1.pass) callers

-- no call of a list is yet to be shown in one of their sessions
abbrev pub AreAtRest : {S D F : Type 0} → List (Post D F × SessionView S) → Type 0
AreAtRest callers = map (λ caller. caller.1) callers ≡ map at_rest (passes_of callers)

-- what callers are to do
abbrev pub posts_of : {S D F : Type 0} → List (Post D F × SessionView S) → List (Post D F)
posts_of callers = map (λ caller. caller.0) callers

-- the doors among posts, in order
abbrev pub doors_in : {D F : Type 0} → List (Post D F) → List D
doors_in [] = []
doors_in (Door door ∷ posts) = door ∷ doors_in posts
doors_in (Folder device folder ∷ posts) = doors_in posts

-- the folders among posts, in order, each with its device
abbrev pub folders_in : {D F : Type 0} → List (Post D F) → List (List ℕ × F)
folders_in [] = []
folders_in (Door door ∷ posts) = folders_in posts
folders_in (Folder device folder ∷ posts) = (device.now, folder) ∷ folders_in posts
