-- What a scanner asks and reports.
use Rattle.std.specs.Prelude.{◌≡◌, ◌≢◌, ◌⊎◌, ℕ, Bool, true, false, List, [], ◌∷◌, ◌++◌, length, Option, Some, None, Result, Ok, Err, IfOk}
use Rattle.pana_calls.specs.Session.{one}
use Rattle.pana_calls.specs.declared.call.Call.{Call}
use Rattle.pana_calls.specs.declared.message.Message.{Message}
use Rattle.pana_calls.specs.declared.call.Call.TheVariants as calls
use Rattle.pana_calls.specs.declared.call.Query.TheVariants as queries
use Rattle.pana_calls.specs.declared.reply.Reply.TheVariants.{Done, Holdings}
use Rattle.pana_calls.specs.declared.answer.Answer.{Answer}
use Rattle.pana_calls.specs.declared.answer.Answer.TheVariants.{Given}
use Rattle.pana_scan.specs.declared.baseline.BaselineRow.{BaselineRow}
use Rattle.pana_scan.specs.declared.scan_fault.ScanFault.{ScanFault}
use Rattle.pana_scan.specs.declared.step.Step.{Step}
use Rattle.pana_scan.specs.Listing.{Contents}
use Rattle.pana_scan.specs.Baseline.{settled}
use Rattle.pana_scan.specs.Plan.{plan_of}
use Rattle.pana_track.specs.Calls.{Asked, Makes, asked}
use Rattle.pana_track.specs.Folder.{TracksFolder}
use Rattle.pana_track.specs.Track.{IsTrack}
use Rattle.pana_track.specs.declared.fault.TrackFault.{TrackFault}
use Rattle.pana_track.specs.declared.folder_end.FolderEnd.{FolderEnd}
use Rattle.pana_track.specs.declared.read_fault.ReadFault.{ReadFault}
use Rattle.pana_track.specs.declared.reading.TrackedListing.{TrackedListing}
use Rattle.pana_daemon.specs.declared.folder.Look.{Look}
use Rattle.pana_daemon.specs.declared.folder.Look.TheVariants.{Scanned, Tracked}
use Rattle.pana_daemon.specs.Folder.{Deed, Gives, Taken, gives_look, gives_none}

-- ---- a folder that is scanned

-- 1 where a report was done, and else 0
abbrev pub done_as : Answer → ℕ
done_as (Given (Done entry)) = 1
done_as answer = 0

-- what an answer to a step's report makes of the baseline: an entry is settled there
abbrev pub settled_as : List BaselineRow → Step → Answer → List BaselineRow
settled_as baseline step (Given (Done entry)) = settled baseline step entry
settled_as baseline step answer = baseline

-- the device makes the reports of these steps, in order, and each that is done is settled in the baseline. A fault comes
-- before the report of a step, or before one that was done is settled, and then no further one is made.
abbrev pub Reports : List ℕ → List BaselineRow → List Step → List Asked → ℕ → List BaselineRow → Type 0
Reports device old [] [] faults new = (faults ≡ 0) × (new ≡ old)
Reports device old [] (made ∷ more) faults new = ⊥
Reports device old (step ∷ steps) [] faults new = (faults ≡ 1) × (new ≡ old)
Reports device old (step ∷ steps) (made ∷ more) faults new = (made.by ≡ device) × (made.call ≡ calls.Report step.report)
    × (Reports device (settled_as old step made.answer) steps more faults new ⊎ ((done_as made.answer ≡ 1) × (more ≡ []) × (faults ≡ 1) × (new ≡ old)))

-- the baseline once the first of these steps were reported with these answers: each that was done is settled in it
abbrev pub settled_all : List BaselineRow → List Step → List Asked → List BaselineRow
settled_all baseline steps [] = baseline
settled_all baseline [] (made ∷ more) = baseline
settled_all baseline (step ∷ steps) (made ∷ more) = settled_all (settled_as baseline step made.answer) steps more

-- nothing is reported, and that is a fault
abbrev pub NoReports : List BaselineRow → List Asked → ℕ → List BaselineRow → Type 0
NoReports old reports faults new = (reports ≡ []) × (faults ≡ 1) × (new ≡ old)

-- once the device's holdings are known, the reports are the steps of the plan for the baseline, them and the listing, and
-- they are settled in the plan's baseline; where they aren't known, or there is no plan, nothing is reported
abbrev pub Follow : List ℕ → Contents → List BaselineRow → Answer → List Asked → ℕ → List BaselineRow → Type 0
Follow device listing old (Given (Holdings holdings)) reports faults new =
    Reports device (plan_of old holdings listing).baseline (plan_of old holdings listing).steps reports faults new ⊎ NoReports old reports faults new
Follow device listing old answer reports faults new = NoReports old reports faults new

-- there is no listing of the device: it failed, or is of another one
abbrev pub IsForeign : List ℕ → Result Contents ScanFault → Type 0
IsForeign device (Err fault) = Unit {0}
IsForeign device (Ok listing) = listing.device ≢ device

-- the calls of one scan: the device asks for its holdings, and reports what follows from the answer; or there is no listing
-- of the device, and then there are none, and that is a fault
abbrev pub IsScan : List ℕ → Result Contents ScanFault → List BaselineRow → List Asked → ℕ → List BaselineRow → Type 0
IsScan device given old [] faults new = IsForeign device given × (faults ≡ 1) × (new ≡ old)
IsScan device (Err fault) old (asked ∷ reports) faults new = ⊥
IsScan device (Ok listing) old (asked ∷ reports) faults new =
    (listing.device ≡ device) × (asked.by ≡ device) × (asked.call ≡ calls.Query (queries.Holdings device None)) × Follow device listing old asked.answer reports faults new

-- what is left of the plan's baseline, where the holdings are known and a report has no answer
abbrev pub left_by_plan : Contents → List BaselineRow → Answer → List Asked → List BaselineRow
left_by_plan listing old (Given (Holdings holdings)) reports = settled_all (plan_of old holdings listing).baseline (plan_of old holdings listing).steps reports
left_by_plan listing old answer reports = old

-- The baseline that a scan leaves where the call after these has no answer. It is as it was where that is the question for the
-- holdings. Else it is the plan's, in which each report is settled that was done, so that none of them is made again, and no other
-- one is settled.
abbrev pub left_by_scan : Result Contents ScanFault → List BaselineRow → List Asked → List BaselineRow
left_by_scan given old [] = old
left_by_scan (Err fault) old (asked ∷ reports) = old
left_by_scan (Ok listing) old (asked ∷ reports) = left_by_plan listing old asked.answer reports

-- ---- a folder that is tracked

-- the calls of tracking what was read, by its device, where an empty folder is a fault; none where it couldn't be read, or is
-- another device's
abbrev pub IsTracking : Bool → List ℕ → Result TrackedListing ReadFault → List Asked → Type 0
IsTracking together device (Err fault) made = made ≡ []
IsTracking together device (Ok found) made = ((found.listing.device ≢ device) × (made ≡ [])) ⊎ ((found.listing.device ≡ device) × ((stop : Option TrackFault) × IsTrack together false found made stop))

-- What becomes of what was read: where it is the device's, or nothing could be read, what tracking it comes to. Of another device's
-- nothing is said, and nothing was done.
abbrev pub EndsTracking : {S : Type 0} → (S → List ℕ → Call → Answer → S → Type 0) → Bool → List ℕ → Result TrackedListing ReadFault → S → S → Option FolderEnd → Type 0
EndsTracking step together device (Ok found) old new (Some end) = (found.listing.device ≡ device) × TracksFolder step together false (Ok found) old new end
EndsTracking step together device (Ok found) old new None = (found.listing.device ≢ device) × (new ≡ old)
EndsTracking step together device (Err fault) old new (Some end) = TracksFolder step together false (Err fault) old new end
EndsTracking step together device (Err fault) old new None = ⊥

-- ---- both

-- what becomes of a look: something is said of one that is tracked alone
abbrev pub EndsLook : {S : Type 0} → (S → List ℕ → Call → Answer → S → Type 0) → Bool → List ℕ → Look → S → S → Option FolderEnd → Type 0
EndsLook step together device (Scanned given) old new end = end ≡ None
EndsLook step together device (Tracked given) old new end = EndsTracking step together device given old new end

-- the calls of one look, where calls may be made together or not
abbrev pub IsLook : Bool → List ℕ → Look → List BaselineRow → List Asked → List BaselineRow → Type 0
IsLook together device (Scanned given) old made new = (faults : ℕ) × IsScan device given old made faults new
IsLook together device (Tracked given) old made new = IsTracking together device given made × (new ≡ old)

-- the call, whatever its answer is, is the next of the look's calls, after these
abbrev pub IsNext : List ℕ → Look → List BaselineRow → List Asked → Call → Type 0
IsNext device look old made call = (answer : Answer) → (new : List BaselineRow) × IsLook false device look old (made ++ record { by = device; call = call; answer = answer } ∷ []) new

-- calls that are made together, whatever their answers are, are the next of the look's calls, after these; others may follow
abbrev pub AreNext : List ℕ → Look → List BaselineRow → List Asked → List Message → Type 0
AreNext device look old made messages =
    (answers : List Answer) → length answers ≡ length messages → (others : List Asked) × (new : List BaselineRow) × IsLook true device look old (made ++ (asked messages answers ++ others)) new

-- the baseline that a look leaves where the call after these has no answer
abbrev pub left_by_look : Look → List BaselineRow → List Asked → List BaselineRow
left_by_look (Scanned given) old made = left_by_scan given old made
left_by_look (Tracked given) old made = old

-- ---- a session

module _ {S : Type 0} (step : S → List ℕ → Call → Answer → S → Type 0) (device : List ℕ) where
  -- the session makes the first calls of a look, and then one has no answer
  pub record StopsAtOne (fails : S → List ℕ → Call → S → Type 0) (look : Look) (old new : S) (marks_old marks_new : List BaselineRow) : Type 0 where
    pub mid : S
    pub made : List Asked
    pub calls : Makes step old made mid
    pub call : Call
    pub is : IsNext device look marks_old made call
    pub ends : fails mid device call new
    pub left : marks_new ≡ left_by_look look marks_old made

  -- the same where calls may be made together: the next ones, one or more, have no answers
  pub record StopsAtSome (fails : S → List Message → S → Type 0) (look : Look) (old new : S) (marks_old marks_new : List BaselineRow) : Type 0 where
    pub mid : S
    pub made : List Asked
    pub calls : Makes step old made mid
    pub messages : List Message
    pub is : AreNext device look marks_old made messages
    pub ends : fails mid messages new
    pub left : marks_new ≡ left_by_look look marks_old made

  -- whether calls may be made together says which of them it is
  abbrev pub StopsLook : Bool → (S → List Message → S → Type 0) → Look → S → S → List BaselineRow → List BaselineRow → Type 0
  StopsLook false fails look old new marks_old marks_new = StopsAtOne (one fails) look old new marks_old marks_new
  StopsLook true fails look old new marks_old marks_new = StopsAtSome fails look old new marks_old marks_new

module _ {S : Type 0} (step : S → List ℕ → Call → Answer → S → Type 0) (device : List ℕ) (together : Bool) where
  -- the session makes the calls of a look, and this becomes of it
  pub record LooksOnce (look : Look) (end : Option FolderEnd) (old new : S) (marks_old marks_new : List BaselineRow) : Type 0 where
    pub made : List Asked
    pub calls : Makes step old made new
    pub is : IsLook together device look marks_old made marks_new
    pub ends : EndsLook step together device look old new end

  -- a look is kept: the session makes its calls, and settles behind them
  pub record KeepsLook (settles : S → S → Type 0) (look : Look) (end : Option FolderEnd) (old new : S) (marks_old marks_new : List BaselineRow) : Type 0 where
    pub mid : S
    pub looks : LooksOnce look end old mid marks_old marks_new
    pub settled : settles mid new

  -- a look is cut short: one of its calls has no answer, or all were made, and the session couldn't settle behind them
  abbrev pub BreaksLook : (S → List Message → S → Type 0) → (S → S → Type 0) → Look → S → S → List BaselineRow → List BaselineRow → Type 0
  BreaksLook fails breaks_off look old new marks_old marks_new =
      StopsLook step device together fails look old new marks_old marks_new ⊎ ((made : S) × (end : Option FolderEnd) × LooksOnce look end old made marks_old marks_new × breaks_off made new)

  module _ (fails : S → List Message → S → Type 0) (settles breaks_off : S → S → Type 0) (may_recover : S → Type 0) where
    -- a look is kept, and this becomes of it; or it is cut short, so that nothing is said of it, and later calls may have answers
    abbrev pub TakesLook : Taken → S → S → List BaselineRow → List BaselineRow → Type 0
    TakesLook taken old new marks_old marks_new =
        KeepsLook settles taken.look taken.end old new marks_old marks_new ⊎ ((taken.end ≡ None) × BreaksLook fails breaks_off taken.look old new marks_old marks_new × may_recover new)

    -- looks are taken so, one after another, each of which begins with the baseline that the one before has left
    abbrev pub TakesLooks : List Taken → S → S → List BaselineRow → List BaselineRow → Type 0
    TakesLooks [] old new marks_old marks_new = (new ≡ old) × (marks_new ≡ marks_old)
    TakesLooks (taken ∷ more) old new marks_old marks_new =
        (mid : S) × (marks : List BaselineRow) × TakesLook taken old mid marks_old marks × TakesLooks more mid new marks marks_new

-- A scanner's work: it takes what the folder gives until that gives no more, or a look is cut short, from an empty baseline on.
-- It goes on behind a look that was cut short only where later calls may have answers. The folder learns what became of each look
-- that was kept, and is tracked.
pub record Scans {F S : Type 0} (does : F → Deed → F → Type 0) (step : S → List ℕ → Call → Answer → S → Type 0) (together : Bool) (fails : S → List Message → S → Type 0) (settles breaks_off : S → S → Type 0) (may_recover : S → Type 0)
    (device : List ℕ) (folder_old folder_new : F) (old new : S) : Type 0 where
  pub given : List Taken
  pub baseline : List BaselineRow
  pub folder_mid : F
  pub mid : S
  pub folder : Gives does folder_old given folder_mid
  pub takes : TakesLooks step device together fails settles breaks_off may_recover given old mid [] baseline
  pub ends : (does folder_mid gives_none folder_new × (new ≡ mid))
      ⊎ ((next : Look) × (left : List BaselineRow) × does folder_mid (gives_look next) folder_new × BreaksLook step device together fails breaks_off next mid new baseline left)
