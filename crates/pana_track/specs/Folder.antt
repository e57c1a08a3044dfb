-- What becomes of folders that are tracked, and the lines about them for standard error.
use Rattle.std.specs.Prelude.{◌≡◌, ℕ, ◌==◌, not, ◌||◌, Bool, true, List, [], ◌++◌, codes, decimal, if◌then◌else◌, Option, Some, None, is_some, Result, Ok, Err}
use Rattle.pana_calls.specs.Cause.{shown_cause}
use Rattle.pana_calls.specs.declared.call.Call.{Call}
use Rattle.pana_calls.specs.declared.cause.Cause.{Cause}
use Rattle.pana_calls.specs.declared.message.Message.{Message}
use Rattle.pana_scan.specs.Scan.{unreadable_count}
use Rattle.pana_track.specs.Fault.{shown_read_fault}
use Rattle.pana_track.specs.Tally.{nothing}
use Rattle.pana_track.specs.Track.{Breaks, Tracks}
use Rattle.pana_track.specs.declared.fault.TrackFault.{TrackFault}
use Rattle.pana_track.specs.declared.fault.TrackFault.TheVariants.{Empty, NotKept, OutOfMemory}
use Rattle.pana_track.specs.declared.folder_end.FolderEnd.{FolderEnd}
use Rattle.pana_track.specs.declared.folder_end.FolderEnd.TheVariants.{Unread, Tracked}
use Rattle.pana_track.specs.declared.folder_end.FolderTally.{FolderTally}
use Rattle.pana_track.specs.declared.read_fault.ReadFault.{ReadFault}
use Rattle.pana_track.specs.declared.reading.TrackedListing.{TrackedListing}
use Rattle.pana_track.specs.declared.tally.TrackTally.{TrackTally}
use Rattle.pana_calls.specs.declared.answer.Answer.{Answer}

-- ---- lines for standard error

-- a line about so many things of a device, where there are some
abbrev pub counted_line : List ℕ → ℕ → List ℕ → List ℕ
counted_line device count what = if count == 0 then [] else codes "panad: " ++ (device ++ (codes ": " ++ (decimal count ++ (codes " " ++ (what ++ (codes "\n"))))))

-- the line about reports that were refused, where some were
abbrev pub refused_as : List ℕ → ℕ → Option Cause → List ℕ
refused_as device count None = []
refused_as device count (Some cause) =
    codes "panad: " ++ (device ++ (codes ": " ++ (decimal count ++ (codes " reports refused, the first " ++ (shown_cause cause ++ (codes "\n"))))))

abbrev pub refused_line : List ℕ → TrackTally → List ℕ
refused_line device calls = refused_as device calls.refused calls.cause

-- the line that says why no more was reported
abbrev pub stop_line : List ℕ → Option TrackFault → List ℕ
stop_line device None = []
stop_line device (Some Empty) = codes "panad: " ++ (device ++ codes ": folder is empty, nothing reported; --empty if it is meant\n")
stop_line device (Some NotKept) = codes "panad: " ++ (device ++ codes ": report not kept, nothing more reported\n")
stop_line device (Some OutOfMemory) = codes "panad: " ++ (device ++ codes ": out of memory, nothing more reported\n")

-- the lines about a folder that was tracked
abbrev pub tracked_lines : List ℕ → FolderTally → List ℕ
tracked_lines device tally =
    counted_line device tally.skipped (codes "names skipped")
    ++ (counted_line device tally.unreadable (codes "files cannot be read") ++ (refused_line device tally.calls ++ stop_line device tally.stop))

-- the lines about a folder
abbrev pub end_lines : List ℕ → FolderEnd → List ℕ
end_lines device (Unread fault) = codes "panad: " ++ (device ++ (codes ": " ++ (shown_read_fault fault ++ (codes ", nothing reported\n"))))
end_lines device (Tracked tally) = tracked_lines device tally

-- whether something wasn't reported that should have been
abbrev pub is_fault : FolderEnd → Bool
is_fault (Unread fault) = true
is_fault (Tracked tally) = is_some tally.stop || not (tally.calls.refused == 0)

-- ---- a folder

module _ {S : Type 0} (step : S → List ℕ → Call → Answer → S → Type 0) (together may_be_empty : Bool) where
  -- what becomes of what reading a folder gave: of a fault nothing is reported, and a listing is tracked
  abbrev pub TracksFolder : Result TrackedListing ReadFault → S → S → FolderEnd → Type 0
  TracksFolder (Err fault) old new end = (new ≡ old) × (end ≡ Unread fault)
  TracksFolder (Ok found) old new end = (calls : TrackTally) × (stop : Option TrackFault) × Tracks step together may_be_empty found old new nothing calls stop
      × (end ≡ Tracked (record { calls = calls; stop = stop; skipped = found.listing.skipped; unreadable = unreadable_count found.listing.rows }))

-- the first calls of tracking a folder were made, and the next has no answer; or, where calls may be made together, the next ones
abbrev pub BreaksFolder : {S : Type 0} → (S → List ℕ → Call → Answer → S → Type 0) → Bool → (S → List Message → S → Type 0) → Bool → Result TrackedListing ReadFault → S → S → Type 0
BreaksFolder step together fails may_be_empty (Err fault) old new = ⊥
BreaksFolder step together fails may_be_empty (Ok found) old new = (calls : TrackTally) × Breaks step together fails may_be_empty found old new nothing calls
