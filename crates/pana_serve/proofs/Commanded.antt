-- What comes of the words where the daemon was begun.
use Rattle.std.proofs.Common.{◌≡◌, ℕ, Bool, true, false, List, [], Option, Some, None, Result, Ok, Err, IfOk, IfErr, refl, sym, subst}
use Rattle.std.specs.Borrow.{Bor}
use Rattle.pana_journal.specs.declared.entry.Entry.{Entry}
use Rattle.pana_hall.specs.Step.{Replies}
use Rattle.pana_daemon.specs.Desk.{AnsweredSteps}
use Rattle.pana_daemon.specs.Folder.{Deed}
use Rattle.pana_daemon.specs.declared.request.Request.{Request}
use Rattle.pana_daemon.specs.declared.request.Response.{Response}
use Rattle.pana_daemon.specs.declared.daemon.DaemonEnd.{DaemonEnd}
use Rattle.pana_daemon.specs.declared.daemon_fault.DaemonFault.{DaemonFault}
use Rattle.pana_serve.specs.declared.serving.Outcome.{Outcome}
use Rattle.pana_serve.specs.declared.serving.Outcome.TheVariants.{NotBegun, Ended}
use Rattle.pana_serve.specs.declared.serving.Wishes.{Wishes}
use Rattle.pana_serve.specs.Program.{Comes, Serves, loopback}
use Rattle.pana_roots.specs.Root.{RootView, first_bad, folders_named, texts}
use Rattle.pana_daemon.specs.RootFolder.{FolderView}
use Rattle.pana_daemon.specs.Serve.{EndsDaemon}

module _ {D Y E R W I K : Type 0} (steps : D → Request → Response → D → Type 0) (together : Bool)
    (binds : Y → List ℕ → ℕ → Bool → Y → Type 0) (opens : Y → List ℕ → Result D E → Y → Type 0)
    (remaining : R → Option (List ℕ)) (contents : W → Option (List ℕ)) (inputs : I → Option (List ℕ)) (does : FolderView K → Deed → FolderView K → Type 0) (disks : K)
    (wishes : Wishes) (old mid : Y) (good : first_bad [] (texts wishes.roots.now) ≡ None) (bound : binds old loopback wishes.port true mid)
    (folders : List (RootView K)) (named : folders ≡ folders_named disks (texts wishes.roots.now)) (outcome : Outcome E) where
  abbrev Come : Outcome E → Y → Type 0
  Come = Comes steps together binds opens remaining contents inputs does disks wishes old

  pub hall_comes : wishes.journal ≡ None → (begun : List Entry) → begun ≡ [] → (served : Result (DaemonEnd (List Entry)) DaemonFault)
      → IfOk served (λ ended. EndsDaemon (AnsweredSteps Replies) false remaining contents inputs does begun wishes.wanted wishes.looks folders ended.session ended.requests ended.fault)
      → IfOk served (λ ended. outcome ≡ Ended ended.fault) → IfErr served (λ fault. outcome ≡ NotBegun fault) → Come outcome mid
  hall_comes none begun new (Err fault) ends ok err = subst (λ (o : Outcome E). Come o mid) (sym err) tt
  hall_comes none begun new (Ok ended) ends ok err =
      let whole = subst (λ (j : List Entry). EndsDaemon (AnsweredSteps Replies) false remaining contents inputs does j wishes.wanted wishes.looks (folders_named disks (texts wishes.roots.now)) ended.session ended.requests ended.fault) new
      (subst (λ (fs : List (RootView K)). EndsDaemon (AnsweredSteps Replies) false remaining contents inputs does begun wishes.wanted wishes.looks fs ended.session ended.requests ended.fault) named ends) in
      subst (λ (o : Outcome E). Come o mid) (sym ok)
      (good, (mid, bound, subst (λ (j : Option (Bor (List ℕ))). Serves steps together binds opens remaining contents inputs does disks j (texts wishes.roots.now) wishes.wanted wishes.looks mid ended.fault mid) (sym none) (refl, (ended.session, ended.requests, whole))))

  pub store_comes : (name : Bor (List ℕ)) → wishes.journal ≡ Some name → (begun : D) (new : Y) → opens mid name.now (Ok begun) new → (served : Result (DaemonEnd D) DaemonFault)
      → IfOk served (λ ended. EndsDaemon steps together remaining contents inputs does begun wishes.wanted wishes.looks folders ended.session ended.requests ended.fault)
      → IfOk served (λ ended. outcome ≡ Ended ended.fault) → IfErr served (λ fault. outcome ≡ NotBegun fault) → Come outcome new
  store_comes name some begun new opened (Err fault) ends ok err = subst (λ (o : Outcome E). Come o new) (sym err) tt
  store_comes name some begun new opened (Ok ended) ends ok err =
      let whole = subst (λ (fs : List (RootView K)). EndsDaemon steps together remaining contents inputs does begun wishes.wanted wishes.looks fs ended.session ended.requests ended.fault) named ends in
      subst (λ (o : Outcome E). Come o new) (sym ok) (
        good,
        (
          mid,
          bound,
          subst (λ (j : Option (Bor (List ℕ))). Serves steps together binds opens remaining contents inputs does disks j (texts wishes.roots.now) wishes.wanted wishes.looks mid ended.fault new) (sym some)
              (begun, ended.session, ended.requests, opened, whole),
        ),
      )
