-- What the words of `serve` make the daemon do, and what the program says at the end.
use Rattle.std.specs.Prelude.{◌≡◌, ℕ, Bool, true, false, List, [], ◌∷◌, ◌++◌, codes, decimal, Option, Some, None, Result, Ok, Err}
use Rattle.std.specs.Borrow.{Bor}
use Rattle.pana_journal.specs.declared.entry.Entry.{Entry}
use Rattle.pana_hall.specs.Step.{Replies}
use Rattle.pana_daemon.specs.Desk.{AnsweredSteps}
use Rattle.pana_daemon.specs.Folder.{Deed}
use Rattle.pana_daemon.specs.declared.request.Request.{Request}
use Rattle.pana_daemon.specs.declared.request.Response.{Response}
use Rattle.pana_daemon.specs.declared.looks.Looks.{Looks}
use Rattle.pana_daemon.specs.declared.daemon_fault.DaemonFault.{DaemonFault}
use Rattle.pana_daemon.specs.declared.daemon_fault.DaemonFault.TheVariants as faults
use Rattle.pana_daemon.specs.declared.daemon_fault.LateFault.{LateFault}
use Rattle.pana_daemon.specs.declared.daemon_fault.LateFault.TheVariants.{NoThreads, Unanswered}
use Rattle.pana_serve.specs.declared.serving.Outcome.{Outcome}
use Rattle.pana_serve.specs.declared.serving.Outcome.TheVariants.{BadRoot, CannotListen, NoStore, NotBegun, Ended}
use Rattle.pana_serve.specs.declared.serving.Wishes.{Wishes}
use Rattle.pana_roots.specs.Root.{first_bad, folders_named, texts}
use Rattle.pana_daemon.specs.RootFolder.{FolderView}
use Rattle.pana_daemon.specs.Serve.{EndsDaemon}

-- 127.0.0.1
abbrev pub loopback : List ℕ
loopback = 127 ∷ 0 ∷ 0 ∷ 1 ∷ []

module _ {D Y E R W I K : Type 0} (steps : D → Request → Response → D → Type 0) (together : Bool)
    (binds : Y → List ℕ → ℕ → Bool → Y → Type 0) (opens : Y → List ℕ → Result D E → Y → Type 0)
    (remaining : R → Option (List ℕ)) (contents : W → Option (List ℕ)) (inputs : I → Option (List ℕ)) (does : FolderView K → Deed → FolderView K → Type 0) (disks : K) where
  -- the daemon has served a new hall, where no journal is named, or else the store of the journal with this name, and
  -- looked so at the folders that the words name; this has gone wrong
  abbrev pub Serves : Option (Bor (List ℕ)) → List (List ℕ) → Option ℕ → Looks → Y → Option LateFault → Y → Type 0
  Serves None words wanted looks old fault new = (new ≡ old)
      × ((left : List Entry) × (requests : ℕ) × EndsDaemon (AnsweredSteps Replies) false remaining contents inputs does [] wanted looks (folders_named disks words) left requests fault)
  Serves (Some name) words wanted looks old fault new =
      (begun : D) × (left : D) × (requests : ℕ) × opens old name.now (Ok begun) new × EndsDaemon steps together remaining contents inputs does begun wanted looks (folders_named disks words) left requests fault

  -- the journal that is named can't be used
  abbrev pub Refuses : Option (Bor (List ℕ)) → Y → E → Y → Type 0
  Refuses None old refusal new = ⊥
  Refuses (Some name) old refusal new = opens old name.now (Err refusal) new

  -- What comes of the words. The first word that names no root is reported, and nothing else is done. Else the port of
  -- 127.0.0.1 is bound, where it can be, then the journal is opened, where one is named, and the daemon serves.
  abbrev pub Comes : Wishes → Y → Outcome E → Y → Type 0
  Comes wishes old (BadRoot word) new = (first_bad [] (texts wishes.roots.now) ≡ Some word.now) × (new ≡ old)
  Comes wishes old CannotListen new = (first_bad [] (texts wishes.roots.now) ≡ None) × binds old loopback wishes.port false new
  Comes wishes old (NoStore refusal) new =
      (first_bad [] (texts wishes.roots.now) ≡ None) × ((mid : Y) × binds old loopback wishes.port true mid × Refuses wishes.journal mid refusal new)
  Comes wishes old (NotBegun fault) new = Unit {0}
  Comes wishes old (Ended fault) new =
      (first_bad [] (texts wishes.roots.now) ≡ None) × ((mid : Y) × binds old loopback wishes.port true mid × Serves wishes.journal (texts wishes.roots.now) wishes.wanted wishes.looks mid fault new)

-- the exit status
abbrev pub status_of : {E : Type 0} → Outcome E → ℕ
status_of (BadRoot word) = 1
status_of CannotListen = 1
status_of (NoStore refusal) = 1
status_of (NotBegun fault) = 1
status_of (Ended None) = 0
status_of (Ended (Some fault)) = 1

-- the line that the program reports this by
abbrev pub report_line : List ℕ → List ℕ
report_line text = codes "panad: " ++ text ++ 10 ∷ []

abbrev pub cannot_listen : ℕ → List ℕ
cannot_listen port = report_line (codes "cannot listen on port " ++ decimal port)

-- why the daemon hasn't begun, as a line
abbrev pub fault_line : ℕ → DaemonFault → List ℕ
fault_line port faults.OutOfMemory = report_line (codes "out of memory")
fault_line port faults.Write = report_line (codes "write failed")
fault_line port faults.NoDescriptor = cannot_listen port
fault_line port faults.NoThreads = report_line (codes "cannot make threads")

-- The line for standard error. That a call has no answer was printed when it had none.
abbrev pub Says : {E : Type 0} → (E → Option (List ℕ)) → ℕ → Outcome E → List ℕ → Type 0
Says output port (BadRoot word) line = line ≡ report_line (codes "bad root " ++ word.now)
Says output port CannotListen line = line ≡ cannot_listen port
Says output port (NoStore refusal) line = (text : List ℕ) → output refusal ≡ Some text → line ≡ report_line text
Says output port (NotBegun fault) line = line ≡ fault_line port fault
Says output port (Ended None) line = line ≡ []
Says output port (Ended (Some Unanswered)) line = line ≡ []
Says output port (Ended (Some NoThreads)) line = line ≡ report_line (codes "cannot make threads")
