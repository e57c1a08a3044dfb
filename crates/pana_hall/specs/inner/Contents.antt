-- What the copies hold, as the hall keeps it: for each copy the entry that says so.
use Rattle.std.specs.Prelude.{◌≡◌, ℕ, ◌-◌, ◌==◌, List, length, Option, Some, None, slice_get, option_and_then, option_map, if◌then◌else◌}
use Rattle.pana_journal.specs.declared.report.Report.{Report}
use Rattle.pana_journal.specs.declared.report.Report.TheVariants.{Register, Duplicate, Edit, Reconcile, Merge, Remove, Note}
use Rattle.pana_journal.specs.declared.entry.Entry.{Entry}
use Rattle.pana_journal.specs.Reports.{given_sum}
use Rattle.pana_hall.specs.Living.{Content, Copy, content_in, living}
use Rattle.pana_hall.specs.declared.contents.Saying.{Saying}
use Rattle.pana_hall.specs.declared.contents.Sayings.{Sayings}

-- the entry that a number in the list is, where 0 is none
abbrev pub some_entry : ℕ → Option ℕ
some_entry n = if n == 0 then None else Some n

-- the entry as the list keeps it
abbrev pub listed_entry : Option ℕ → Option ℕ
listed_entry entry = option_and_then some_entry entry

-- the entry that is kept for the copy with this number
abbrev pub content_at : List ℕ → ℕ → Option ℕ
content_at entries number = if number == 0 then None else option_and_then some_entry (slice_get entries (number - 1))

-- the entry that says so
abbrev pub entry_of : Option Content → Option ℕ
entry_of content = option_map (λ c. c.entry) content

-- the entry that says what the copy with this number holds
abbrev pub said_in : List Copy → ℕ → Option ℕ
said_in copies number = entry_of (content_in copies number)

-- for each entry of the journal one is kept, if any, and for a copy that lives it is the one that says what it holds
pub record AreContents (journal : List Entry) (entries : List ℕ) : Type 0 where
  pub count : length entries ≡ length journal
  pub at : (number : ℕ) → content_at entries number ≡ said_in (living journal) number

-- the copies of whose content entry n's report says something
abbrev pub first_said : ℕ → Report → Option ℕ
first_said n (Register place sum) = Some n
first_said n (Duplicate copy place sum) = Some n
first_said n (Edit copy sum) = Some copy
first_said n (Reconcile a b sum) = Some a
first_said n (Merge a b sum) = Some a
first_said n (Remove copy heir) = Some copy
first_said n (Note copy sum) = Some copy
first_said n _ = None

abbrev pub second_said : Report → Option ℕ
second_said (Reconcile a b sum) = Some b
second_said (Merge a b sum) = Some b
second_said _ = None

-- the entries, with another one for this number, if there is one
abbrev pub say : Option ℕ → Option ℕ → (ℕ → Option ℕ) → ℕ → Option ℕ
say None entry entries number = entries number
say (Some copy) entry entries number = if number == copy then entry else entries number

-- what is kept once it is written
abbrev pub written : Option Saying → (ℕ → Option ℕ) → ℕ → Option ℕ
written None entries number = entries number
written (Some saying) entries number = if number == saying.copy then saying.entry else entries number

abbrev pub all_written : Sayings → (ℕ → Option ℕ) → ℕ → Option ℕ
all_written sayings entries = written sayings.second (written sayings.first entries)

-- the entries once entry n's report, which gives a sum or leaves it unknown, says so of the copies of whose content it says something
abbrev pub said_by_sum : ℕ → Report → (ℕ → Option ℕ) → ℕ → Option ℕ
said_by_sum n report entries =
    let entry = option_map (λ sum. n) (given_sum report) in
    say (second_said report) entry (say (first_said n report) entry entries)
