-- The history of the file whose copy is at a place.
use Rattle.std.specs.Prelude.{◌≡◌, ℕ, List, Option, Some, None, is_some, string_bytes}
use Rattle.pana_copies.specs.declared.place.Place.{Place}
use Rattle.pana_journal.specs.declared.entry.Entry.{Entry}
use Rattle.pana_calls.specs.declared.call.Call.{Call}
use Rattle.pana_calls.specs.declared.answer.Answer.{Answer}
use Rattle.pana_ask.specs.Place.{unknown_line}
use Rattle.pana_hall.specs.Living.{Copy, living}
use Rattle.pana_history.specs.Pages.{HasJournal}
use Rattle.pana_history.specs.Row.{Drawn}
use Rattle.pana_history.specs.Rows.{rows_of}
use Rattle.pana_history.specs.Svg.{svg_text}
use Rattle.pana_history.specs.Text.{graph_text}
use Rattle.pana_history.specs.Why.{copy_at}
use Rattle.pana_history.specs.declared.history.Form.{Form}
use Rattle.pana_history.specs.declared.history.Form.TheVariants.{Svg, Text}
use Rattle.pana_history.specs.declared.history.History.{History}

-- rows in one of the two forms
abbrev pub drawn_in : Form → List Drawn → List ℕ
drawn_in Text rows = graph_text rows
drawn_in Svg rows = svg_text rows

-- what is said of a place, by the copy that is there
abbrev pub history_by : List Entry → Place → Form → Option Copy → List ℕ
history_by journal place form None = unknown_line place
history_by journal place form (Some copy) = drawn_in form (rows_of journal copy.family)

abbrev pub history_text : List Entry → Place → Form → List ℕ
history_text journal place form = history_by journal place form (copy_at (living journal) place)

-- what is said of a place by a journal
pub record IsDrawn (journal : List Entry) (place : Place) (form : Form) (history : History) : Type 0 where
  pub text : string_bytes history.text ≡ history_text journal place form
  pub known : history.is_known ≡ is_some (copy_at (living journal) place)

-- the device asks for the journal, and this is said by it
pub record Draws {S : Type 0} (step : S → List ℕ → Call → Answer → S → Type 0) (by : List ℕ) (place : Place) (form : Form) (old new : S) (history : History) : Type 0 where
  pub journal : List Entry
  pub has : HasJournal step by old new journal
  pub drawn : IsDrawn journal place form history
