-- Where calls of folders that are tracked have no answer.
use Rattle.std.specs.Prelude.{ℕ, Bool, true, false, List, [], ◌∷◌, ◌++◌, Result, Ok, Err}
use Rattle.pana_calls.specs.Session.{one}
use Rattle.pana_calls.specs.declared.call.Call.{Call}
use Rattle.pana_calls.specs.declared.message.Message.{Message}
use Rattle.pana_calls.specs.declared.call.Call.TheVariants as questions
use Rattle.pana_calls.specs.declared.call.Query.TheVariants as queries
use Rattle.std.specs.Prelude.{Option, None, Some}
use Rattle.std.proofs.Common.{inl, inr}
use Rattle.pana_track.specs.Calls.{Asked, Makes}
use Rattle.pana_track.specs.declared.read_fault.ReadFault.{ReadFault}
use Rattle.pana_track.specs.declared.reading.TrackedListing.{TrackedListing}
use Rattle.pana_track.specs.Folder.{TracksFolder}
use Rattle.pana_track.specs.declared.folder_end.FolderEnd.{FolderEnd}
use Rattle.pana_track.specs.inner.Pages.{Stops}
use Rattle.pana_track.proofs.Reported.{makes_on}
use Rattle.pana_calls.specs.declared.answer.Answer.{Answer}
use Rattle.pana_calls.specs.declared.answer.Answer.TheVariants.{Given}
use Rattle.pana_calls.specs.declared.reply.Reply.TheVariants.{Status}
use Rattle.pana_calls.specs.declared.standing.StatusRow.{StatusRow}
use Rattle.pana_track.specs.Status.{Pages, next_after}
use Rattle.pana_track.specs.declared.read_folder.ReadFolder.{ReadFolder}
use Rattle.pana_commands.specs.Track.{HasNoAnswer, IsCut, IsCutBy, TracksAll}

module _ {S : Type 0} (step : S → List ℕ → Call → Answer → S → Type 0) (fails : S → List ℕ → Call → S → Type 0) where
  -- calls, and then such a call behind them
  pub cut_on : (old mid new : S) (made : List Asked) → Makes step old made mid → IsCut step fails mid new → IsCut step fails old new
  cut_on old mid new made makes cut = record {
    made = made ++ cut.made;
    mid = cut.mid;
    by = cut.by;
    call = cut.call;
    calls = makes_on step old mid cut.mid made cut.made makes cut.calls;
    failed = cut.failed;
  }

  -- pages that were asked for, and one has no answer
  pub cut_in_pages : (by : List ℕ) (old new : S) → Stops step fails by old new → IsCut step fails old new
  cut_in_pages by old new stops = record { made = stops.made; mid = stops.mid; by = by; call = questions.Query (queries.Status None stops.from); calls = stops.calls; failed = stops.failed }

  -- pages that were asked for are calls that were made
  pub pages_made : (by : List ℕ) (next : Option ℕ) (old : S) (pages : List (List StatusRow)) (new : S) → Pages step by next old pages new → (made : List Asked) × Makes step old made new
  pages_made by None old [] new is = ([], is)
  pages_made by None old (page ∷ pages) new is = absurd is
  pages_made by (Some from) old [] new is = absurd is
  pages_made by (Some from) old (page ∷ pages) new is =
      let more = pages_made by (next_after page) is.0 pages new is.2 in
      (record { by = by; call = questions.Query (queries.Status None from); answer = Given (Status page) } ∷ more.0, (is.0, is.1, more.1))

-- calls, and then such calls behind them
cut_then : {S : Type 0} (step : S → List ℕ → Call → Answer → S → Type 0) (together : Bool) (fails : S → List Message → S → Type 0) (old mid new : S) (made : List Asked) → Makes step old made mid → IsCutBy step together fails mid new
    → IsCutBy step together fails old new
cut_then step false fails old mid new made makes cut = cut_on step (one fails) old mid new made makes cut
cut_then step true fails old mid new made makes cut = record { made = made ++ cut.made; mid = cut.mid; messages = cut.messages; calls = makes_on step old mid cut.mid made cut.made makes cut.calls; failed = cut.failed }

module _ {S : Type 0} (step : S → List ℕ → Call → Answer → S → Type 0) (together : Bool) (fails : S → List Message → S → Type 0) (may_be_empty : Bool) where
  -- a folder's calls
  calls_of : (given : Result TrackedListing ReadFault) (old mid : S) (end : FolderEnd) → TracksFolder step together may_be_empty given old mid end → (made : List Asked) × Makes step old made mid
  calls_of (Err fault) old mid end is = ([], is.0)
  calls_of (Ok found) old mid end is = (is.2.made, is.2.calls)

  -- those of all folders
  all_calls : (folders : List ReadFolder) (old mid : S) (lines : List ℕ) (has_fault : Bool) → TracksAll step together may_be_empty folders old mid lines has_fault → (made : List Asked) × Makes step old made mid
  all_calls [] old mid lines has_fault is = ([], is.0)
  all_calls (folder ∷ folders) old mid lines has_fault is =
      let first = calls_of folder.given old is.0 is.1 is.4 in
      let more = all_calls folders is.0 mid is.2 is.3 is.5 in
      (first.0 ++ more.0, makes_on step old is.0 mid first.0 more.0 first.1 more.1)

  pub cut_behind : (given : Result TrackedListing ReadFault) (old mid new : S) (end : FolderEnd) → TracksFolder step together may_be_empty given old mid end → IsCutBy step together fails mid new → IsCutBy step together fails old new
  cut_behind given old mid new end is cut = let first = calls_of given old mid end is in cut_then step together fails old mid new first.0 first.1 cut

  pub cut_after_all : (settles : S → S → Type 0) (breaks_off : S → S → Type 0) (by : List ℕ) (folders : List ReadFolder) (old mid kept new : S) (lines : List ℕ) (has_fault : Bool)
      → TracksAll step together may_be_empty folders old mid lines has_fault → settles mid kept → Stops step (one fails) by kept new → HasNoAnswer step together fails settles breaks_off old new
  cut_after_all settles breaks_off by folders old mid kept new lines has_fault is settled stops =
      let all = all_calls folders old mid lines has_fault is in
      inr (inr (record {
        made = all.0;
        mid = mid;
        kept = kept;
        calls = all.1;
        keeps = settled;
        cut = cut_in_pages step (one fails) by kept new stops;
      }))

  pub unkept_after_all : (settles : S → S → Type 0) (breaks_off : S → S → Type 0) (folders : List ReadFolder) (old mid new : S) (lines : List ℕ) (has_fault : Bool)
      → TracksAll step together may_be_empty folders old mid lines has_fault → breaks_off mid new → HasNoAnswer step together fails settles breaks_off old new
  unkept_after_all settles breaks_off folders old mid new lines has_fault is broken =
      let all = all_calls folders old mid lines has_fault is in
      inr (inl (record { made = all.0; mid = mid; calls = all.1; broken = broken }))
