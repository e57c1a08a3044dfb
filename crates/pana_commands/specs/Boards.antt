-- What `show` answers of the families of a session.
use Rattle.std.specs.Prelude.{◌≡◌, ◌⊎◌, ◌||◌, ℕ, Bool, not, List, [], ◌∷◌, map, filter, Option}
use Rattle.std.specs.List.{join_by}
use Rattle.pana_calls.specs.Cause.{shown_cause}
use Rattle.pana_calls.specs.declared.answer.Answer.{Answer}
use Rattle.pana_calls.specs.declared.answer.Answer.TheVariants.{Given}
use Rattle.pana_calls.specs.declared.board.BoardView.{BoardView}
use Rattle.pana_calls.specs.declared.call.Call.{Call}
use Rattle.pana_calls.specs.declared.call.Call.TheVariants as calls
use Rattle.pana_calls.specs.declared.call.Query.TheVariants as queries
use Rattle.pana_calls.specs.declared.cause.Cause.{Cause}
use Rattle.pana_calls.specs.declared.family_row.FamilyRow.{FamilyRow}
use Rattle.pana_calls.specs.declared.reply.Reply.TheVariants as replies
use Rattle.pana_report.specs.Table.{table_text}
use Rattle.pana_commands.specs.Answered.{Prints, Reports}
use Rattle.pana_commands.specs.declared.printout.Printout.{Printout}

-- the numbers of these families: of all, or of those of which two newest copies are in conflict
abbrev pub shown_families : Bool → List FamilyRow → List ℕ
shown_families only_split rows = map (λ row. row.family) (filter (λ row. not only_split || row.split) rows)

-- the questions for all families, and for the board of one
abbrev pub families : Call
families = calls.Query queries.Families

abbrev pub board : ℕ → Call
board family = calls.Query (queries.Board family)

module _ {S : Type 0} (step : S → List ℕ → Call → Answer → S → Type 0) (by : List ℕ) where
  -- a device asks for the boards of these families, one after another, and these are the boards
  abbrev pub AsksBoards : List ℕ → S → List BoardView → S → Type 0
  AsksBoards [] old [] new = new ≡ old
  AsksBoards [] old (view ∷ views) new = ⊥
  AsksBoards (family ∷ families) old [] new = ⊥
  AsksBoards (family ∷ families) old (view ∷ views) new = (mid : S) × step old by (board family) (Given (replies.Board view)) mid × AsksBoards families mid views new

  -- these are the tables of such boards, in a terminal of this width, or of any where none is given
  abbrev pub HasTables : Option ℕ → List ℕ → S → S → List (List ℕ) → Type 0
  HasTables terminal families old new tables = (views : List BoardView) × AsksBoards families old views new × (tables ≡ map (table_text terminal) views)

  -- it asks for the families and then for the boards of those that are shown, and their tables are printed, with an empty line
  -- between two
  pub record PrintsFamilies (terminal : Option ℕ) (only_split : Bool) (old new : S) (answer : Printout) : Type 0 where
    pub rows : List FamilyRow
    pub mid : S
    pub tables : List (List ℕ)
    pub asked : step old by families (Given (replies.Families rows)) mid
    pub has : HasTables terminal (shown_families only_split rows) mid new tables
    pub prints : Prints (join_by (λ table. table) (10 ∷ []) tables) answer

  -- it asks for the board of a family, and its table is printed, or why there is none is reported
  abbrev pub PrintsFamily : Option ℕ → ℕ → S → S → Printout → Type 0
  PrintsFamily terminal family old new answer =
      ((view : BoardView) × step old by (board family) (Given (replies.Board view)) new × Prints (table_text terminal view) answer)
      ⊎ ((cause : Cause) × step old by (board family) (Given (replies.Refused cause)) new × Reports (shown_cause cause) answer)
