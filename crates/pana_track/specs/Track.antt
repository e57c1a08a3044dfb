-- What a device asks and reports of a folder that is tracked.
use Rattle.std.specs.Prelude.{◌≡◌, ◌⊎◌, ℕ, ◌==◌, Bool, true, false, not, ◌&&◌, List, [], ◌∷◌, ◌++◌, length, Option, Some, None}
use Rattle.std.specs.List.{list_any}
use Rattle.pana_calls.specs.declared.call.Call.{Call}
use Rattle.pana_calls.specs.declared.call.Call.TheVariants as calls
use Rattle.pana_calls.specs.declared.call.Query.TheVariants as queries
use Rattle.pana_calls.specs.declared.holding.Holding.{Holding}
use Rattle.pana_calls.specs.declared.message.Message.{Message}
use Rattle.pana_calls.specs.declared.answer.Answer.{Answer}
use Rattle.pana_scan.specs.declared.notices.Notice.{Notice}
use Rattle.pana_scan.specs.Notice.{notices_of}
use Rattle.pana_track.specs.declared.fault.TrackFault.{TrackFault}
use Rattle.pana_track.specs.declared.fault.TrackFault.TheVariants.{Empty, OutOfMemory}
use Rattle.pana_track.specs.declared.reading.TrackedListing.{TrackedListing}
use Rattle.pana_track.specs.declared.tally.TrackTally.{TrackTally}
use Rattle.pana_track.specs.Ignored.{is_tracked, tracked}
use Rattle.pana_calls.specs.Parts.{holdings_in}
use Rattle.pana_calls.specs.Session.{one}
use Rattle.pana_track.specs.Calls.{Asked, Makes, asked}
use Rattle.pana_track.specs.Reports.{ReportsBy}
use Rattle.pana_track.specs.Tally.{noted_all}

-- ---- tracking a folder

-- whether the folder has no file, and its device has copies that are tracked
abbrev pub is_lost : TrackedListing → List Holding → Bool
is_lost found holdings = length found.listing.rows == 0 && list_any (is_tracked found.patterns) holdings

-- what is noticed, of the copies that are tracked
abbrev pub noticed_in : TrackedListing → List Holding → List Notice
noticed_in found holdings = notices_of (tracked found.patterns holdings) found.listing

-- no more is reported, since memory ran out
abbrev pub RunsShort : List Asked → Option TrackFault → Type 0
RunsShort reported stop = (reported ≡ []) × (stop ≡ Some OutOfMemory)

module _ (together may_be_empty : Bool) (found : TrackedListing) where
  -- what is reported once the device's holdings are known: nothing of a folder without a file whose device has copies, where it may
  -- not be empty; else what is noticed. Where they aren't known, or what is noticed isn't, nothing is reported.
  abbrev pub Follows : Option (List Holding) → List Asked → Option TrackFault → Type 0
  Follows None reported stop = RunsShort reported stop
  Follows (Some holdings) reported stop =
      ((is_lost found holdings && not may_be_empty ≡ true) × (reported ≡ []) × (stop ≡ Some Empty))
      ⊎ ((is_lost found holdings && not may_be_empty ≡ false) × (ReportsBy together found.listing.device (noticed_in found holdings) reported stop ⊎ RunsShort reported stop))

  -- the calls of tracking a folder: its device asks for its holdings, and reports what follows from the answer
  abbrev pub IsTrack : List Asked → Option TrackFault → Type 0
  IsTrack [] stop = ⊥
  IsTrack (asked ∷ reported) stop = (asked.by ≡ found.listing.device) × (asked.call ≡ calls.Query (queries.Holdings found.listing.device None)) × Follows (holdings_in asked.answer) reported stop

-- the call, whatever its answer is, is the next of the folder's calls, after these
abbrev pub IsNext : Bool → TrackedListing → List Asked → Call → Type 0
IsNext may_be_empty found made call =
    (answer : Answer) → (stop : Option TrackFault) × IsTrack false may_be_empty found (made ++ record { by = found.listing.device; call = call; answer = answer } ∷ []) stop

-- calls that are made together, whatever their answers are, are the next of the folder's calls, after these; others may follow
abbrev pub AreNext : Bool → TrackedListing → List Asked → List Message → Type 0
AreNext may_be_empty found made messages =
    (answers : List Answer) → length answers ≡ length messages → (others : List Asked) × (stop : Option TrackFault) × IsTrack true may_be_empty found (made ++ (asked messages answers ++ others)) stop

-- the session makes the calls of tracking a folder, and the tally is of them
pub record Tracks {S : Type 0} (step : S → List ℕ → Call → Answer → S → Type 0) (together may_be_empty : Bool) (found : TrackedListing) (old new : S) (tally_old tally_new : TrackTally) (stop : Option TrackFault) : Type 0 where
  pub made : List Asked
  pub calls : Makes step old made new
  pub are : IsTrack together may_be_empty found made stop
  pub tally : tally_new ≡ noted_all tally_old made

-- the session makes the first of these calls, and the next has no answer
pub record BreaksAtOne {S : Type 0} (step : S → List ℕ → Call → Answer → S → Type 0) (fails : S → List ℕ → Call → S → Type 0) (may_be_empty : Bool) (found : TrackedListing) (old new : S) (tally_old tally_new : TrackTally) : Type 0 where
  pub made : List Asked
  pub mid : S
  pub call : Call
  pub calls : Makes step old made mid
  pub next : IsNext may_be_empty found made call
  pub failed : fails mid found.listing.device call new
  pub tally : tally_new ≡ noted_all tally_old made

-- the same where calls may be made together: the next ones, one or more, have no answers
pub record BreaksAtSome {S : Type 0} (step : S → List ℕ → Call → Answer → S → Type 0) (fails : S → List Message → S → Type 0) (may_be_empty : Bool) (found : TrackedListing) (old new : S) (tally_old tally_new : TrackTally) : Type 0 where
  pub made : List Asked
  pub mid : S
  pub messages : List Message
  pub calls : Makes step old made mid
  pub next : AreNext may_be_empty found made messages
  pub failed : fails mid messages new
  pub tally : tally_new ≡ noted_all tally_old made

-- whether calls may be made together says which of them it is
abbrev pub Breaks : {S : Type 0} → (S → List ℕ → Call → Answer → S → Type 0) → Bool → (S → List Message → S → Type 0) → Bool → TrackedListing → S → S → TrackTally → TrackTally → Type 0
Breaks step false fails may_be_empty found old new tally_old tally_new = BreaksAtOne step (one fails) may_be_empty found old new tally_old tally_new
Breaks step true fails may_be_empty found old new tally_old tally_new = BreaksAtSome step fails may_be_empty found old new tally_old tally_new
