-- The newest copies of all files, by their boards.
use Rattle.std.specs.Prelude.{◌≡◌, ℕ, Bool, true, false, List, [], map, filter}
use Rattle.std.specs.List.{flat_map}
use Rattle.pana_calls.specs.declared.answer.Answer.{Answer}
use Rattle.pana_calls.specs.declared.answer.Answer.TheVariants.{Given}
use Rattle.pana_calls.specs.declared.board.BoardRow.{BoardRow}
use Rattle.pana_calls.specs.declared.board.BoardView.{BoardView}
use Rattle.pana_calls.specs.declared.call.Call.{Call}
use Rattle.pana_calls.specs.declared.family_row.FamilyRow.{FamilyRow}
use Rattle.pana_calls.specs.declared.reply.Reply.TheVariants as replies
use Rattle.pana_calls.specs.declared.standing.CopyState.{CopyState}
use Rattle.pana_calls.specs.declared.standing.CopyState.TheVariants.{Newest, Obsolete, Conflict}
use Rattle.pana_calls.specs.declared.standing.PlacedCopy.{PlacedCopy}
use Rattle.pana_report.specs.Table.{state_of}
use Rattle.pana_commands.specs.Boards.{AsksBoards, families, shown_families}

abbrev pub is_newest : CopyState → Bool
is_newest Newest = true
is_newest Obsolete = false
is_newest Conflict = false

-- the copy of a row, and its place
abbrev pub placed : BoardRow → PlacedCopy
placed row = record { copy = row.copy; place = row.place }

-- the newest copies of a board, by rising number
abbrev pub newest_in : BoardView → List PlacedCopy
newest_in view = map placed (filter (λ row. is_newest (state_of row)) view.rows)

-- a device asks for the boards of these families, one after another, and these are their newest copies
abbrev pub HasNewestOf : {S : Type 0} → (S → List ℕ → Call → Answer → S → Type 0) → List ℕ → List ℕ → S → S → List PlacedCopy → Type 0
HasNewestOf step by numbers old new newest = (views : List BoardView) × AsksBoards step by numbers old views new × (newest ≡ flat_map newest_in views)

-- it asks for the families and then for the board of each, and these are their newest copies, by rising number of the family
pub record AsksNewest {S : Type 0} (step : S → List ℕ → Call → Answer → S → Type 0) (by : List ℕ) (old new : S) (newest : List PlacedCopy) : Type 0 where
  pub rows : List FamilyRow
  pub mid : S
  pub asked : step old by families (Given (replies.Families rows)) mid
  pub has : HasNewestOf step by (shown_families false rows) mid new newest

-- it does so where they are to be listed, and else there are none
abbrev pub HasNewest : {S : Type 0} → (S → List ℕ → Call → Answer → S → Type 0) → List ℕ → Bool → S → S → List PlacedCopy → Type 0
HasNewest step by false old new newest = (new ≡ old) × (newest ≡ [])
HasNewest step by true old new newest = AsksNewest step by old new newest
