-- Parts of a scanner's work.
use Rattle.std.specs.Prelude.{◌≡◌, ◌≢◌, ◌⊎◌, ℕ, Bool, true, false, List, [], ◌∷◌, ◌++◌, length, Option, Some, None, Result, Ok, Err, IfOk}
use Rattle.pana_calls.specs.Session.{one}
use Rattle.pana_calls.specs.declared.call.Call.{Call}
use Rattle.pana_calls.specs.declared.message.Message.{Message}
use Rattle.pana_calls.specs.declared.call.Call.TheVariants as calls
use Rattle.pana_calls.specs.declared.call.Query.TheVariants as queries
use Rattle.pana_calls.specs.declared.holding.Holding.{Holding}
use Rattle.pana_calls.specs.declared.reply.Reply.TheVariants.{Holdings}
use Rattle.pana_calls.specs.declared.answer.Answer.{Answer}
use Rattle.pana_calls.specs.declared.answer.Answer.TheVariants.{Given}
use Rattle.pana_scan.specs.declared.baseline.BaselineRow.{BaselineRow}
use Rattle.pana_scan.specs.declared.scan_fault.ScanFault.{ScanFault}
use Rattle.pana_scan.specs.declared.step.Step.{Step}
use Rattle.pana_scan.specs.Listing.{Contents}
use Rattle.pana_track.specs.Calls.{Asked, Makes, asked}
use Rattle.pana_track.specs.declared.folder_end.FolderEnd.{FolderEnd}
use Rattle.pana_track.specs.declared.read_fault.ReadFault.{ReadFault}
use Rattle.pana_track.specs.declared.reading.TrackedListing.{TrackedListing}
use Rattle.pana_daemon.specs.Scan.{EndsTracking, IsScan, IsTracking, Reports, done_as, left_by_scan, settled_all, settled_as}

-- the device's report of the step, with its answer
abbrev pub reporting : List ℕ → Step → Answer → Asked
reporting device s answer = record { by = device; call = calls.Report s.report; answer = answer }

-- the session makes the report of the step, and it is settled where it was done; no more is to be made only where a fault
-- comes before that
pub record MakesReport {S : Type 0} (step : S → List ℕ → Call → Answer → S → Type 0) (device : List ℕ) (s : Step) (old new : S) (more : Bool) (marks_old marks_new : List BaselineRow) : Type 0 where
  pub answer : Answer
  pub call : step old device (calls.Report s.report) answer new
  pub faults : ℕ
  pub ends : ((more ≡ true) × (faults ≡ 0) × (marks_new ≡ settled_as marks_old s answer)) ⊎ ((more ≡ false) × (faults ≡ 1) × (marks_new ≡ marks_old) × (done_as answer ≡ 1))

-- the session makes the report of the step; or it makes none, and that is a fault
abbrev pub ReportsOne : {S : Type 0} → (S → List ℕ → Call → Answer → S → Type 0) → List ℕ → Step → S → S → Bool → List BaselineRow → List BaselineRow → Type 0
ReportsOne step device s old new more marks_old marks_new =
    MakesReport step device s old new more marks_old marks_new ⊎ ((more ≡ false) × (new ≡ old) × (marks_new ≡ marks_old))

-- the session makes reports of the steps
pub record ReportsSteps {S : Type 0} (step : S → List ℕ → Call → Answer → S → Type 0) (device : List ℕ) (steps : List Step) (old new : S) (marks_old marks_new : List BaselineRow) : Type 0 where
  pub made : List Asked
  pub faults : ℕ
  pub calls : Makes step old made new
  pub are : Reports device marks_old steps made faults marks_new

-- the session makes reports of the first steps, and then one has no answer
pub record StopsReporting {S : Type 0} (step : S → List ℕ → Call → Answer → S → Type 0) (fails : S → List ℕ → Call → S → Type 0) (device : List ℕ) (steps : List Step) (old new : S) (marks_old marks_new : List BaselineRow) : Type 0 where
  pub mid : S
  pub made : List Asked
  pub calls : Makes step old made mid
  pub call : Call
  pub are : (answer : Answer) → (faults : ℕ) × (left : List BaselineRow) × Reports device marks_old steps (made ++ record { by = device; call = call; answer = answer } ∷ []) faults left
  pub ends : fails mid device call new
  pub left : marks_new ≡ settled_all marks_old steps made

-- the session asks for the device's holdings, and gets them or another answer
abbrev pub Asks : {S : Type 0} → (S → List ℕ → Call → Answer → S → Type 0) → List ℕ → S → S → Option (List Holding) → Type 0
Asks step device old new (Some holdings) = step old device (calls.Query (queries.Holdings device None)) (Given (Holdings holdings)) new
Asks step device old new None = (answer : Answer) × step old device (calls.Query (queries.Holdings device None)) answer new

-- the session makes the calls of a scan
pub record ScansOnce {S : Type 0} (step : S → List ℕ → Call → Answer → S → Type 0) (device : List ℕ) (given : Result Contents ScanFault) (old new : S) (marks_old marks_new : List BaselineRow) : Type 0 where
  pub made : List Asked
  pub faults : ℕ
  pub calls : Makes step old made new
  pub is : IsScan device given marks_old made faults marks_new

-- the call, whatever its answer is, is the next of the scan's calls, after these
abbrev pub IsNextScan : List ℕ → Result Contents ScanFault → List BaselineRow → List Asked → Call → Type 0
IsNextScan device given old made call = (answer : Answer) → (faults : ℕ) × (new : List BaselineRow) × IsScan device given old (made ++ record { by = device; call = call; answer = answer } ∷ []) faults new

-- the session makes the first calls of a scan, and then one has no answer
pub record StopsScan {S : Type 0} (step : S → List ℕ → Call → Answer → S → Type 0) (fails : S → List ℕ → Call → S → Type 0) (device : List ℕ) (given : Result Contents ScanFault) (old new : S) (marks_old marks_new : List BaselineRow) : Type 0 where
  pub mid : S
  pub made : List Asked
  pub calls : Makes step old made mid
  pub call : Call
  pub is : IsNextScan device given marks_old made call
  pub ends : fails mid device call new
  pub left : marks_new ≡ left_by_scan given marks_old made

-- what was read to be tracked is the device's, or nothing could be read; or it isn't
abbrev pub IsOwn : Bool → List ℕ → Result TrackedListing ReadFault → Type 0
IsOwn true device given = IfOk given (λ found. found.listing.device ≡ device)
IsOwn false device (Ok found) = found.listing.device ≢ device
IsOwn false device (Err fault) = ⊥

-- the session makes the calls of tracking what the folder gave, and this becomes of it
pub record TracksOnce {S : Type 0} (step : S → List ℕ → Call → Answer → S → Type 0) (together : Bool) (device : List ℕ) (given : Result TrackedListing ReadFault) (old new : S) (end : Option FolderEnd) : Type 0 where
  pub made : List Asked
  pub calls : Makes step old made new
  pub is : IsTracking together device given made
  pub ends : EndsTracking step together device given old new end

-- the session makes the first of these calls, and then one has no answer
pub record TrackingStopsAtOne {S : Type 0} (step : S → List ℕ → Call → Answer → S → Type 0) (fails : S → List ℕ → Call → S → Type 0) (device : List ℕ) (given : Result TrackedListing ReadFault) (old new : S) : Type 0 where
  pub mid : S
  pub made : List Asked
  pub calls : Makes step old made mid
  pub call : Call
  pub is : (answer : Answer) → IsTracking false device given (made ++ record { by = device; call = call; answer = answer } ∷ [])
  pub ends : fails mid device call new

-- the same where calls may be made together
pub record TrackingStopsAtSome {S : Type 0} (step : S → List ℕ → Call → Answer → S → Type 0) (fails : S → List Message → S → Type 0) (device : List ℕ) (given : Result TrackedListing ReadFault) (old new : S) : Type 0 where
  pub mid : S
  pub made : List Asked
  pub calls : Makes step old made mid
  pub messages : List Message
  pub is : (answers : List Answer) → length answers ≡ length messages → (others : List Asked) × IsTracking true device given (made ++ (asked messages answers ++ others))
  pub ends : fails mid messages new

abbrev pub StopsTracking : {S : Type 0} → (S → List ℕ → Call → Answer → S → Type 0) → Bool → (S → List Message → S → Type 0) → List ℕ → Result TrackedListing ReadFault → S → S → Type 0
StopsTracking step false fails device given old new = TrackingStopsAtOne step (one fails) device given old new
StopsTracking step true fails device given old new = TrackingStopsAtSome step fails device given old new
