-- The questions of `status`, one after another.
use Rattle.std.proofs.Common.{ℕ, Bool, true, false, List, Some, subst}
use Rattle.pana_calls.specs.declared.answer.Answer.{Answer}
use Rattle.pana_calls.specs.declared.call.Call.{Call}
use Rattle.pana_calls.specs.declared.standing.PlacedCopy.{PlacedCopy}
use Rattle.pana_calls.specs.declared.standing.StatusRow.{StatusRow}
use Rattle.pana_track.specs.Status.{HasAll}
use Rattle.pana_commands.specs.Boards.{shown_families}
use Rattle.pana_commands.specs.Newest.{HasNewest}
use Rattle.pana_commands.specs.Track.{IsCut}
use Rattle.pana_commands.proofs.Boarded.{boards_made, cut_behind_families}
use Rattle.pana_commands.proofs.Cut.{cut_on, pages_made}

module _ {S : Type 0} (step : S → List ℕ → Call → Answer → S → Type 0) (fails : S → List ℕ → Call → S → Type 0) (by : List ℕ) (old mid new : S) where
  -- a question behind all pages has no answer
  pub cut_behind_rows : (rows : List StatusRow) → HasAll step by old mid rows → IsCut step fails mid new → IsCut step fails old new
  cut_behind_rows rows has cut = let made = pages_made step fails by (Some 1) old has.0 mid has.1 in cut_on step fails old mid new made.0 made.1 cut

  -- one behind all boards has none
  pub cut_behind_newest : (is_listed : Bool) (newest : List PlacedCopy) → HasNewest step by is_listed old mid newest → IsCut step fails mid new → IsCut step fails old new
  cut_behind_newest false newest has cut = subst (λ (s : S). IsCut step fails s new) has.0 cut
  cut_behind_newest true newest has cut =
      let made = boards_made step by (shown_families false has.rows) has.mid has.has.0 mid has.has.1 in
      cut_behind_families step by fails old has.mid new has.rows has.asked (cut_on step fails has.mid mid new made.0 made.1 cut)
