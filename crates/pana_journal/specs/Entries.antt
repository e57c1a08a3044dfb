-- The journal as a list of entries.
use Rattle.std.specs.Prelude.{◌≡◌, ◌==◌, ℕ, ◌+◌, ◌-◌, List, if◌then◌else◌, take, drop, Option, Some, None, slice_get}
use Rattle.pana_journal.specs.declared.entry.Entry.{Entry}

-- what contracts see of a journal: its entries, and for how many more room is reserved
pub record Contents : Type 0 where
  pub entries : List Entry
  pub room : ℕ

-- the nth entry has number n, from 1
abbrev pub IsNumbered : List Entry → Type 0
IsNumbered entries = (i : ℕ) (entry : Entry) → slice_get entries i ≡ Some entry → entry.number ≡ i + 1

-- the entry with this number
abbrev pub entry_at : List Entry → ℕ → Option Entry
entry_at entries number = if number == 0 then None else slice_get entries (number - 1)

-- the entries from a number on, at most 100; 0 counts as 1
abbrev pub page : List Entry → ℕ → List Entry
page entries from = take 100 (drop (from - 1) entries)
