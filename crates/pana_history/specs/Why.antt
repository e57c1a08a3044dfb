-- What is said of two places: what each of their copies knows that the other lacks.
use Rattle.std.specs.Prelude.{◌≡◌, ℕ, Bool, false, ◌==◌, List, [], ◌∷◌, ◌++◌, find, codes, decimal, string_bytes, Option, Some, None, if◌then◌else◌}
use Rattle.std.specs.List.{flat_map}
use Rattle.pana_copies.specs.declared.place.Place.{Place}
use Rattle.pana_copies.specs.Places.{same_place}
use Rattle.pana_journal.specs.declared.entry.Entry.{Entry}
use Rattle.pana_journal.specs.Reports.{kind_name, kind_of}
use Rattle.pana_calls.specs.declared.call.Call.{Call}
use Rattle.pana_calls.specs.declared.answer.Answer.{Answer}
use Rattle.pana_ask.specs.Place.{place_name, unknown_line}
use Rattle.pana_ask.specs.Verdict.{verdict_line}
use Rattle.pana_ask.specs.declared.verdict.Verdict.TheVariants.{Unrelated}
use Rattle.pana_hall.specs.Living.{Copy, living, number_of}
use Rattle.pana_history.specs.Lacking.{lacking}
use Rattle.pana_history.specs.Pages.{HasJournal, Stops}
use Rattle.pana_hall.specs.Load.{StopsAt}
use Rattle.pana_history.specs.declared.why.Explanation.{Explanation}
use Rattle.pana_history.specs.declared.why.Unexplained.{Unexplained}
use Rattle.pana_history.specs.declared.why.Unexplained.TheVariants.{Damaged, NoAnswer, OutOfMemory}

-- the living copy at a place
abbrev pub copy_at : List Copy → Place → Option Copy
copy_at copies place = find (λ copy. same_place copy.place place) copies

-- the line that says that the copy with this name has an entry
abbrev pub has_line : List ℕ → Entry → List ℕ
has_line name entry = name ++ (codes " has " ++ (decimal entry.number ++ (codes " " ++ (kind_name (kind_of entry.report) ++ (codes " by " ++ (entry.by ++ 10 ∷ []))))))

abbrev pub has_lines : List ℕ → List Entry → List ℕ
has_lines name entries = flat_map (has_line name) entries

-- what is said of two copies, by what the first knows and the second lacks, and the other way round
abbrev pub difference_text : List ℕ → List ℕ → List Entry → List Entry → List ℕ
difference_text first second [] [] = first ++ (codes " and " ++ (second ++ codes " are equal\n"))
difference_text first second ours theirs = has_lines first ours ++ has_lines second theirs

-- what is said of the copies at two places of a journal, if they are there
abbrev pub text_of : List Entry → Place → Place → Option Copy → Option Copy → List ℕ
text_of journal first second None other = unknown_line first
text_of journal first second (Some a) None = unknown_line second
text_of journal first second (Some a) (Some b) =
    if a.family == b.family then difference_text (place_name first) (place_name second) (lacking journal a.family (number_of a) (number_of b)) (lacking journal a.family (number_of b) (number_of a))
    else verdict_line Unrelated first second

abbrev pub why_text : List Entry → Place → Place → List ℕ
why_text journal first second = text_of journal first second (copy_at (living journal) first) (copy_at (living journal) second)

-- whether both are there, and of one file
abbrev pub are_related : Option Copy → Option Copy → Bool
are_related (Some a) (Some b) = a.family == b.family
are_related a b = false

-- what is said of two places by a journal
pub record IsExplained (journal : List Entry) (first second : Place) (explanation : Explanation) : Type 0 where
  pub text : string_bytes explanation.text ≡ why_text journal first second
  pub related : explanation.is_of_one_file ≡ are_related (copy_at (living journal) first) (copy_at (living journal) second)

-- an entry that doesn't follow from those before it is the cause, where one is said to be
abbrev pub IsDamage : List Entry → Unexplained → Type 0
IsDamage journal (Damaged fault) = StopsAt journal fault
IsDamage journal OutOfMemory = Unit {0}
IsDamage journal NoAnswer = ⊥

-- the device asks for the journal, and this is said by it
pub record Explains {S : Type 0} (step : S → List ℕ → Call → Answer → S → Type 0) (by : List ℕ) (first second : Place) (old new : S) (explanation : Explanation) : Type 0 where
  pub journal : List Entry
  pub has : HasJournal step by old new journal
  pub explained : IsExplained journal first second explanation

-- why nothing is said: a question has no answer; the journal that was answered is none; or memory ran out
abbrev pub SaysNothing : {S : Type 0} → (S → List ℕ → Call → Answer → S → Type 0) → (S → List ℕ → Call → S → Type 0) → List ℕ → S → S → Unexplained → Type 0
SaysNothing step fails by old new NoAnswer = Stops step fails by old new
SaysNothing step fails by old new (Damaged fault) = (journal : List Entry) × HasJournal step by old new journal × StopsAt journal fault
SaysNothing step fails by old new OutOfMemory = Unit {0}
