-- What `track` answers, once folders are read.
use Rattle.std.specs.Prelude.{◌≡◌, ◌⊎◌, ℕ, not, ◌&&◌, ◌||◌, Bool, true, false, List, [], ◌∷◌, ◌++◌, codes, string_bytes, filter, Result, Ok, Err}
use Rattle.std.specs.List.{flat_map, list_all}
use Rattle.std.specs.Str.{bytes_eq}
use Rattle.pana_calls.specs.Session.{one}
use Rattle.pana_calls.specs.declared.call.Call.{Call}
use Rattle.pana_calls.specs.declared.message.Message.{Message}
use Rattle.pana_calls.specs.declared.reply.Reply.TheVariants.{Status}
use Rattle.pana_calls.specs.declared.standing.PlacedCopy.{PlacedCopy}
use Rattle.pana_calls.specs.declared.standing.StatusRow.{StatusRow}
use Rattle.pana_report.specs.Status.{status_text}
use Rattle.pana_ignore.specs.Pattern.{is_ignored}
use Rattle.pana_track.specs.Calls.{Asked, Makes}
use Rattle.pana_track.specs.Folder.{TracksFolder, end_lines, is_fault}
use Rattle.pana_track.specs.Status.{HasAll}
use Rattle.pana_track.specs.declared.folder_end.FolderEnd.{FolderEnd}
use Rattle.pana_track.specs.declared.read_fault.ReadFault.{ReadFault}
use Rattle.pana_track.specs.declared.reading.TrackedListing.{TrackedListing}
use Rattle.pana_wire.specs.Reply.{reply_text}
use Rattle.pana_calls.specs.declared.answer.Answer.{Answer}
use Rattle.pana_commands.specs.declared.printout.Printout.{Printout}
use Rattle.pana_track.specs.declared.read_folder.ReadFolder.{ReadFolder}
use Rattle.pana_commands.specs.declared.tracking.StatusForm.{StatusForm}
use Rattle.pana_commands.specs.declared.tracking.StatusForm.TheVariants.{Table, Json, Nothing}
use Rattle.pana_commands.specs.declared.untracked.Untracked.{Untracked}
use Rattle.pana_commands.specs.declared.untracked.Untracked.TheVariants as untracked

-- ---- the folders

module _ {S : Type 0} (step : S → List ℕ → Call → Answer → S → Type 0) (together may_be_empty : Bool) where
  -- the folders are tracked, one after another: the lines about them, and whether something wasn't reported of one
  abbrev pub TracksAll : List ReadFolder → S → S → List ℕ → Bool → Type 0
  TracksAll [] old new lines has_fault = (new ≡ old) × (lines ≡ []) × (has_fault ≡ false)
  TracksAll (folder ∷ folders) old new lines has_fault =
      (mid : S) × (end : FolderEnd) × (more : List ℕ) × (is_more : Bool) × TracksFolder step together may_be_empty folder.given old mid end × TracksAll folders mid new more is_more
      × (lines ≡ end_lines folder.device end ++ more) × (has_fault ≡ is_fault end || is_more)

-- ---- what is printed

-- whether a row is shown, by what was read of a device's folder: not where the copy is on that device and its path is ignored
abbrev pub shows_by : StatusRow → List ℕ → Result TrackedListing ReadFault → Bool
shows_by row device (Err fault) = true
shows_by row device (Ok found) = not (bytes_eq device row.place.device && is_ignored found.patterns row.place.path false)

abbrev pub shows : StatusRow → ReadFolder → Bool
shows row folder = shows_by row folder.device folder.given

-- the rows that all folders show
abbrev pub shown_of : List ReadFolder → List StatusRow → List StatusRow
shown_of folders rows = filter (λ row. list_all (shows row) folders) rows

-- the line that answers a question for a copy that is obsolete or in conflict, where there is no other
abbrev pub row_line : StatusRow → List ℕ
row_line row = reply_text (Status (row ∷ [])) ++ codes "\n"

-- a line for each, in order
abbrev pub row_lines : List StatusRow → List ℕ
row_lines rows = flat_map row_line rows

-- the copies that are obsolete or in conflict: as a table with newest ones behind them, or as a line for each of the former, or not
-- at all
abbrev pub shown_rows : StatusForm → List StatusRow → List PlacedCopy → List ℕ
shown_rows (Table terminal) [] [] = codes "nothing is obsolete or in conflict\n"
shown_rows (Table terminal) [] (copy ∷ newest) = status_text terminal [] (copy ∷ newest)
shown_rows (Table terminal) (row ∷ rows) newest = status_text terminal (row ∷ rows) newest
shown_rows Json rows newest = row_lines rows
shown_rows Nothing rows newest = []

-- 3 where something wasn't reported; else 1 where a copy is obsolete or in conflict; else 0
abbrev pub status_by : Bool → List StatusRow → ℕ
status_by true rows = 3
status_by false [] = 0
status_by false (row ∷ rows) = 1

-- what is answered: the folders are tracked, what was reported is kept, and then all copies that are obsolete or in conflict are asked
-- for, and those whose paths aren't ignored are shown
pub record AnswersTrack {S : Type 0} (step : S → List ℕ → Call → Answer → S → Type 0) (settles : S → S → Type 0) (together may_be_empty : Bool) (form : StatusForm) (by : List ℕ) (folders : List ReadFolder) (old new : S) (answer : Printout) : Type 0 where
  pub mid : S
  pub kept : S
  pub rows : List StatusRow
  pub has_fault : Bool
  pub tracks : TracksAll step together may_be_empty folders old mid (string_bytes answer.err) has_fault
  pub keeps : settles mid kept
  pub has : HasAll step by kept new rows
  pub out : string_bytes answer.out ≡ shown_rows form (shown_of folders rows) []
  pub status : answer.status ≡ status_by has_fault (shown_of folders rows)

-- some calls were made, and the next has no answer
pub record IsCut {S : Type 0} (step : S → List ℕ → Call → Answer → S → Type 0) (fails : S → List ℕ → Call → S → Type 0) (old new : S) : Type 0 where
  pub made : List Asked
  pub mid : S
  pub by : List ℕ
  pub call : Call
  pub calls : Makes step old made mid
  pub failed : fails mid by call new

-- some calls were made, and the next ones, which are made together, have no answers
pub record IsCutAtSome {S : Type 0} (step : S → List ℕ → Call → Answer → S → Type 0) (fails : S → List Message → S → Type 0) (old new : S) : Type 0 where
  pub made : List Asked
  pub mid : S
  pub messages : List Message
  pub calls : Makes step old made mid
  pub failed : fails mid messages new

-- whether calls may be made together says which of them it is
abbrev pub IsCutBy : {S : Type 0} → (S → List ℕ → Call → Answer → S → Type 0) → Bool → (S → List Message → S → Type 0) → S → S → Type 0
IsCutBy step false fails old new = IsCut step (one fails) old new
IsCutBy step true fails old new = IsCutAtSome step fails old new

-- some calls were made, and what they have made can't be kept
pub record IsUnkept {S : Type 0} (step : S → List ℕ → Call → Answer → S → Type 0) (breaks_off : S → S → Type 0) (old new : S) : Type 0 where
  pub made : List Asked
  pub mid : S
  pub calls : Makes step old made mid
  pub broken : breaks_off mid new

-- some calls were made, what they have made is kept, and a call after that has no answer
pub record IsCutLate {S : Type 0} (step : S → List ℕ → Call → Answer → S → Type 0) (fails : S → List ℕ → Call → S → Type 0) (settles : S → S → Type 0) (old new : S) : Type 0 where
  pub made : List Asked
  pub mid : S
  pub kept : S
  pub calls : Makes step old made mid
  pub keeps : settles mid kept
  pub cut : IsCut step fails kept new

-- why there is no answer
abbrev pub HasNoAnswer : {S : Type 0} → (S → List ℕ → Call → Answer → S → Type 0) → Bool → (S → List Message → S → Type 0) → (S → S → Type 0) → (S → S → Type 0) → S → S → Type 0
HasNoAnswer step together fails settles breaks_off old new = IsCutBy step together fails old new ⊎ IsUnkept step breaks_off old new ⊎ IsCutLate step (one fails) settles old new

abbrev pub shown_untracked : Untracked → List ℕ
shown_untracked untracked.NoAnswer = codes "journal failed"
shown_untracked untracked.OutOfMemory = codes "out of memory"
