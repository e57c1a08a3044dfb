-- What `status` answers.
use Rattle.std.specs.Prelude.{◌≡◌, ℕ, ◌==◌, ◌&&◌, ◌||◌, Bool, true, false, nat_eq, List, [], ◌++◌, length, codes, string_bytes, filter, if◌then◌else◌, Option, Some, None}
use Rattle.std.specs.List.{list_any, starts_with, ends_with}
use Rattle.std.specs.Str.{bytes_eq}
use Rattle.std.specs.Borrow.{Bor}
use Rattle.pana_copies.specs.declared.place.Place.{Place}
use Rattle.pana_calls.specs.declared.call.Call.{Call}
use Rattle.pana_calls.specs.declared.call.Call.TheVariants as calls
use Rattle.pana_calls.specs.declared.call.Query.TheVariants as queries
use Rattle.pana_calls.specs.declared.answer.Answer.{Answer}
use Rattle.pana_calls.specs.declared.answer.Answer.TheVariants.{Given}
use Rattle.pana_calls.specs.declared.hall_counts.HallCounts.{HallCounts}
use Rattle.pana_calls.specs.declared.reply.Reply.TheVariants as replies
use Rattle.pana_calls.specs.declared.standing.PlacedCopy.{PlacedCopy}
use Rattle.pana_calls.specs.declared.standing.StatusRow.{StatusRow}
use Rattle.pana_track.specs.Status.{HasAll}
use Rattle.pana_commands.specs.Counts.{counts_line}
use Rattle.pana_commands.specs.Newest.{HasNewest}
use Rattle.pana_commands.specs.Track.{shown_rows, status_by}
use Rattle.pana_commands.specs.declared.printout.Printout.{Printout}
use Rattle.pana_commands.specs.declared.tracking.StatusForm.{StatusForm}
use Rattle.pana_commands.specs.declared.tracking.StatusForm.TheVariants.{Table, Json, Nothing}

-- ---- the places that are meant

-- a place as it is named: its device, a colon, its path
abbrev pub place_name : Place → List ℕ
place_name place = place.device ++ (codes ":" ++ place.path)

-- whether a name is of all places that begin with it: those of a device, or of a folder
abbrev pub is_of_many : List ℕ → Bool
is_of_many name = ends_with nat_eq name (codes ":") || ends_with nat_eq name (codes "/")

-- whether a name is that of a place, or of many that it is one of
abbrev pub names : List ℕ → List ℕ → Bool
names name place = if is_of_many name then starts_with nat_eq place name else bytes_eq name place

-- whether one of the names is of the place; without names each place is meant
abbrev pub is_meant : List (Bor (List ℕ)) → Place → Bool
is_meant places place = length places == 0 || list_any (λ one. names one.now (place_name place)) places

-- the rows of copies at these places
abbrev pub rows_at : List (Bor (List ℕ)) → List StatusRow → List StatusRow
rows_at places rows = filter (λ row. is_meant places row.place) rows

-- the copies at these places
abbrev pub copies_at : List (Bor (List ℕ)) → List PlacedCopy → List PlacedCopy
copies_at places copies = filter (λ copy. is_meant places copy.place) copies

-- ---- what is asked for

-- whether a table is shown
abbrev pub is_table : StatusForm → Bool
is_table (Table terminal) = true
is_table Json = false
is_table Nothing = false

-- the newest copies are asked for where they are to be listed in a table
abbrev pub asks_newest : Bool → StatusForm → Bool
asks_newest lists_newest form = lists_newest && is_table form

-- all copies are counted below a table for which no place is named
abbrev pub asks_total : List (Bor (List ℕ)) → StatusForm → Bool
asks_total places form = is_table form && (length places == 0)

-- the question how many copies there are, where that is wanted
abbrev pub HasTotal : {S : Type 0} → (S → List ℕ → Call → Answer → S → Type 0) → List ℕ → Bool → S → S → Option HallCounts → Type 0
HasTotal step by false old new total = (new ≡ old) × (total ≡ None)
HasTotal step by true old new total = (counts : HallCounts) × step old by (calls.Query queries.Counts) (Given (replies.Counts counts)) new × (total ≡ Some counts)

-- ---- what is printed

-- the rows, and below a table the line of counts
abbrev pub shown_status : StatusForm → Option HallCounts → List StatusRow → List PlacedCopy → List ℕ
shown_status form total rows newest = shown_rows form rows newest ++ (if is_table form then counts_line total rows else [])

-- all copies that are obsolete or in conflict are asked for, and those at the places that are named are shown; below a table stands how
-- many they are, and where no place is named how many copies there are in all; a table may have newest copies too
pub record AnswersStatus {S : Type 0} (step : S → List ℕ → Call → Answer → S → Type 0) (places : List (Bor (List ℕ))) (lists_newest : Bool) (form : StatusForm) (by : List ℕ) (old new : S) (answer : Printout) : Type 0 where
  pub rows : List StatusRow
  pub newest : List PlacedCopy
  pub total : Option HallCounts
  pub asked : S
  pub listed : S
  pub has : HasAll step by old asked rows
  pub lists : HasNewest step by (asks_newest lists_newest form) asked listed newest
  pub counts : HasTotal step by (asks_total places form) listed new total
  pub out : string_bytes answer.out ≡ shown_status form total (rows_at places rows) (copies_at places newest)
  pub err : string_bytes answer.err ≡ []
  pub status : answer.status ≡ status_by false (rows_at places rows)
