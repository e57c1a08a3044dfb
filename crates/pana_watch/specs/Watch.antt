-- What a watch asks, and what it knows then.
use Rattle.std.specs.Prelude.{◌≡◌, ◌⊎◌, ℕ, max, ◌+◌, ◌^◌, ◌==◌, ◌&&◌, nat_eq, nat_lt, Bool, true, false, List, [], ◌∷◌, length, Option, Some, None, unwrap_or, if◌then◌else◌}
use Rattle.std.specs.List.{list_any}
use Rattle.indexmap.specs.IndexMap.{get}
use Rattle.pana_journal.specs.declared.entry.Entry.{Entry}
use Rattle.pana_journal.specs.Reports.{subject}
use Rattle.pana_calls.specs.declared.board.BoardView.{BoardView}
use Rattle.pana_calls.specs.declared.family_row.FamilyRow.{FamilyRow}
use Rattle.pana_calls.specs.declared.call.Call.{Call}
use Rattle.pana_calls.specs.declared.call.Call.TheVariants as calls
use Rattle.pana_calls.specs.declared.call.Query.TheVariants as queries
use Rattle.pana_calls.specs.declared.reply.Reply.TheVariants.{Board, Families, Journal}
use Rattle.pana_calls.specs.Parts.{board_in, journal_in}
use Rattle.pana_calls.specs.declared.answer.Answer.{Answer}
use Rattle.pana_calls.specs.declared.answer.Answer.TheVariants.{Given}
use Rattle.pana_watch.specs.declared.family_change.FamilyChange.{FamilyChange}
use Rattle.pana_watch.specs.declared.watch.Watch.{Watch}
use Rattle.pana_watch.specs.Line.{change_lines}

-- whether the entries have this number, the next one, and so on
abbrev pub are_numbered : ℕ → List Entry → Bool
are_numbered number [] = true
are_numbered number (entry ∷ entries) = (entry.number == number) && are_numbered (number + 1) entries

-- whether these are the entries with this number and the next ones, all of which have 64 bits
abbrev pub are_next : ℕ → Option (List Entry) → Bool
are_next number None = false
are_next number (Some entries) = nat_lt (number + length entries) (2 ^ 64) && are_numbered number entries

-- the question for the entries from this number on, whose answer may wait for 30 seconds
abbrev pub awaited : ℕ → Call
awaited number = calls.Query (queries.JournalAwaited number 30)

-- whether a family is known as split
abbrev pub is_split : Watch → ℕ → Bool
is_split watch family = unwrap_or (get nat_eq watch.known family) false

-- whether one of the rows says that the family is split
abbrev pub splits : List FamilyRow → ℕ → Bool
splits rows family = list_any (λ row. (row.family == family) && row.split) rows

-- what has become of a family that was split or not, and is now or isn't
abbrev pub change_of : ℕ → (was is : Bool) → Option FamilyChange
change_of family true false = Some (record { family = family; split = false })
change_of family false true = Some (record { family = family; split = true })
change_of family was is = None

module _ {S : Type 0} (step : S → List ℕ → Call → Answer → S → Type 0) (by : List ℕ) where
  -- these are the entries that were asked for, from the watch's next one on, and none of them is left out
  pub record Takes (before : Watch) (old : S) (entries : List Entry) (after : Watch) (new : S) : Type 0 where
    pub asked : step old by (awaited before.next) (Given (Journal entries)) new
    pub numbered : are_numbered before.next entries ≡ true
    pub next : after.next ≡ before.next + length entries
    pub known : after.known ≡ before.known

  -- the question has no answer, or one that isn't the next entries
  abbrev pub TakesNone : (S → List ℕ → Call → S → Type 0) → ℕ → S → S → Type 0
  TakesNone fails number old new = fails old by (awaited number) new ⊎ ((answer : Answer) × step old by (awaited number) answer new × (are_next number (journal_in answer) ≡ false))

  -- the question for the board has no answer, or none that is a board
  abbrev pub LooksInVain : (S → List ℕ → Call → S → Type 0) → ℕ → S → S → Type 0
  LooksInVain fails family old new = fails old by (calls.Query (queries.Board family)) new ⊎ ((answer : Answer) × step old by (calls.Query (queries.Board family)) answer new × (board_in answer ≡ None))

  -- the family's board was asked for, and the change is that of the family since the watch last knew of it
  pub record Looks (before : Watch) (old : S) (family : ℕ) (change : Option FamilyChange) (after : Watch) (new : S) : Type 0 where
    pub board : BoardView
    pub asked : step old by (calls.Query (queries.Board family)) (Given (Board board)) new
    pub change_is : change ≡ change_of family (is_split before family) board.split
    pub next : after.next ≡ before.next
    pub known : (other : ℕ) → is_split after other ≡ (if other == family then board.split else is_split before other)

  -- the families were asked for, and the watch knows which of them are split
  pub record Begins (old : S) (watch : Watch) : Type 0 where
    pub rows : List FamilyRow
    pub mid : S
    pub asked : step old by (calls.Query queries.Families) (Given (Families rows)) mid
    pub known : (family : ℕ) → is_split watch family ≡ splits rows family

  -- there was no entry with this number when it was asked for, or no journal has one
  abbrev pub IsBehind : ℕ → Type 0
  IsBehind number = (number ≡ 1000001) ⊎ ((old : S) × (new : S) × step old by (calls.Query (queries.JournalFrom number)) (Given (Journal [])) new)

  -- the first entry that is shown: the one that is wanted, or else one that there wasn't
  abbrev pub StartsAt : Option ℕ → ℕ → Type 0
  StartsAt (Some from) next = next ≡ max from 1
  StartsAt None next = IsBehind next

  -- From an entry to what it names, and on from that entry, one is asked for after another, up to one that begins a family.
  abbrev pub Leads : S → ℕ → Option ℕ → List Entry → ℕ → S → Type 0
  Leads old here None [] family new = (family ≡ here) × (new ≡ old)
  Leads old here None (entry ∷ path) family new = ⊥
  Leads old here (Some number) [] family new = ⊥
  Leads old here (Some number) (entry ∷ path) family new = (mid : S) × (rest : List Entry) × step old by (calls.Query (queries.JournalFrom number)) (Given (Journal (entry ∷ rest))) mid
      × (entry.number ≡ number) × Leads mid number (subject entry.report) path family new

  -- what has become of the family of each entry, one after another
  abbrev pub Follows : Watch → S → List Entry → List (Option FamilyChange) → Watch → S → Type 0
  Follows before old [] [] after new = (after ≡ before) × (new ≡ old)
  Follows before old [] (change ∷ changes) after new = ⊥
  Follows before old (entry ∷ entries) [] after new = ⊥
  Follows before old (entry ∷ entries) (change ∷ changes) after new = (path : List Entry) × (family : ℕ) × (mid : S) × (later : Watch) × (behind : S)
      × Leads old entry.number (subject entry.report) path family mid × Looks before mid family change later behind × Follows later behind entries changes after new

  -- the text has a line for each change of these
  pub record Says (before : Watch) (old : S) (entries : List Entry) (text : List ℕ) (after : Watch) (new : S) : Type 0 where
    pub changes : List (Option FamilyChange)
    pub follows : Follows before old entries changes after new
    pub text_is : text ≡ change_lines changes
