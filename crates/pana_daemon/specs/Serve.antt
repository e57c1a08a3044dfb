-- What callers leave of the session that all share.
use Rattle.std.specs.Prelude.{◌≡◌, ◌&&◌, ℕ, Bool, true, false, List, length, replicate, Option, Some, None}
use Rattle.std.specs.List.{list_any}
use Rattle.pana_turn.specs.Closing.{Closes}
use Rattle.pana_turn.specs.Passes.{DeskId, new_passes}
use Rattle.pana_daemon.specs.Folder.{Deed}
use Rattle.pana_daemon.specs.declared.looks.Looks.{Looks}
use Rattle.pana_daemon.specs.Post.{AreAtRest, HaveDone, doors_in, folders_in, passes_of, posts_of}
use Rattle.pana_daemon.specs.Session.{SessionView, lacks_answer}
use Rattle.pana_daemon.specs.declared.connection.Connection.{Connection}
use Rattle.pana_daemon.specs.declared.daemon_fault.LateFault.{LateFault}
use Rattle.pana_daemon.specs.declared.daemon_fault.LateFault.TheVariants.{NoThreads, Unanswered}
use Rattle.pana_daemon.specs.declared.post.Post.{Post}
use Rattle.pana_daemon.specs.declared.request.Request.{Request}
use Rattle.pana_daemon.specs.declared.request.Response.{Response}
use Rattle.pana_daemon.specs.Door.{DoorView, GivesDrawn, drawn_by, is_one_closed, limit_of, new_door}
use Rattle.pana_daemon.specs.Newlines.{IsCounted}
use Rattle.pana_roots.specs.Root.{RootView}
use Rattle.pana_daemon.specs.RootFolder.{FolderView, HaveSeen, has_folders, new_folders}
use Rattle.pana_tickets.specs.Hands.{TicketsView}
use Rattle.pana_ticks.specs.declared.count.Count.{Count}
use Rattle.atomic_table.specs.Seated.{TableId}

-- All share one desk, which was opened with the session that they began with: each post was done by a caller with a new
-- pass of its own, and the desk was closed with their passes. So there is one history of requests: it begins with what each
-- pass has seen, those in it with a pass's number are just those that this caller made, and it has no others; and the
-- session and the number of requests are those that it leaves. Each call of a list was shown in the end. Nothing is said to have
-- come of a request, or not all, just where it has.
pub record Ends {S D R W F : Type 0} (steps : S → Request → Response → S → Type 0) (together : Bool)
    (gives : D → Option (Connection R W) → D → Type 0) (remaining : R → Option (List ℕ)) (contents : W → Option (List ℕ)) (does : F → Deed → F → Type 0)
    (begun : S) (posts : List (Post D F)) (left : S) (posts_left : List (Post D F)) (requests : ℕ) (unanswered : Bool) : Type 0 where
  pub desk : DeskId S
  pub opened : desk.begun ≡ begun
  pub olds : List (Post D F × SessionView S)
  pub news : List (Post D F × SessionView S)
  pub posts_are : posts_of olds ≡ posts
  pub posts_left_are : posts_of news ≡ posts_left
  pub rest_first : AreAtRest olds
  pub rest_last : AreAtRest news
  pub are_new : passes_of olds ≡ new_passes desk (length posts)
  pub done : HaveDone steps together gives remaining contents does olds news
  pub closed : Closes steps (length posts) begun (passes_of news) left requests
  pub lack : list_any lacks_answer (passes_of news) ≡ unanswered

-- what has gone wrong, by whether nothing has come of a request, and whether connections are no longer taken though more are wanted
abbrev pub fault_of : Bool → Bool → Option LateFault
fault_of true is_closed = Some Unanswered
fault_of false true = Some NoThreads
fault_of false false = None

-- The callers have done so, with these posts, whose doors draw tickets and whose folders watch ticks. That nothing
-- has come of a request is reported just where it has. Where it hasn't, and nothing else is reported, all tickets were drawn.
-- Each tick is a newline of an input, which is counted where the start comes and there are folders. Each folder has seen
-- whether it comes, and so was scanned where it does; it has seen no more ticks than were counted, and one that ended since
-- no more come has seen all.
pub record EndsDrawn {S R W I K : Type 0} (steps : S → Request → Response → S → Type 0) (together : Bool)
    (remaining : R → Option (List ℕ)) (contents : W → Option (List ℕ)) (inputs : I → Option (List ℕ)) (does : FolderView K → Deed → FolderView K → Type 0)
    (begun : S) (tickets : TicketsView) (posts : List (Post DoorView (FolderView K))) (left : S) (requests : ℕ) (fault : Option LateFault) : Type 0 where
  pub posts_left : List (Post DoorView (FolderView K))
  pub unanswered : Bool
  pub ends : Ends steps together GivesDrawn remaining contents does begun posts left posts_left requests unanswered
  pub drawn : is_one_closed (doors_in posts_left) ≡ false → drawn_by (doors_in posts_left) ≡ tickets.most
  pub begins : Bool
  pub counted : Count
  pub counts : IsCounted inputs (has_folders (folders_in posts) && begins) counted
  pub seen : HaveSeen begins counted (folders_in posts_left)
  pub fault_is : fault ≡ fault_of unanswered (is_one_closed (doors_in posts_left))

-- The daemon's callers have done so: 16 that serve connections, each of which draws a ticket, of as many as connections are
-- wanted, and one for each root that looks so at its folder, by its device, at the start and after ticks.
pub record EndsDaemon {S R W I K : Type 0} (steps : S → Request → Response → S → Type 0) (together : Bool)
    (remaining : R → Option (List ℕ)) (contents : W → Option (List ℕ)) (inputs : I → Option (List ℕ)) (does : FolderView K → Deed → FolderView K → Type 0)
    (begun : S) (wanted : Option ℕ) (looks : Looks) (roots : List (RootView K)) (left : S) (requests : ℕ) (fault : Option LateFault) : Type 0 where
  pub tickets : TicketsView
  pub posts : List (Post DoorView (FolderView K))
  pub most : tickets.most ≡ limit_of wanted
  pub workers : doors_in posts ≡ replicate 16 (new_door tickets)
  pub ticks : TableId
  pub start : ℕ
  pub scanners : folders_in posts ≡ new_folders looks ticks start roots
  pub ends : EndsDrawn steps together remaining contents inputs does begun tickets posts left requests fault
