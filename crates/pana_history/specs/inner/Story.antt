-- A file's rows by its own entries.
use Rattle.std.specs.Prelude.{ℕ, ◌≤◌, nat_lt, List, filter, map}
use Rattle.std.specs.List.{AllByRecursion}
use Rattle.pana_journal.specs.declared.entry.Entry.{Entry}
use Rattle.pana_hall.specs.Living.{Copy, copies_of}
use Rattle.pana_hall.specs.laws.Layers.{AreRising}
use Rattle.pana_history.specs.declared.lane.Lane.{Lane}
use Rattle.pana_history.specs.Lanes.{lanes_in, withdrawal_of}
use Rattle.pana_history.specs.Row.{Drawn}
use Rattle.pana_history.specs.Rows.{entry_row}
use Rattle.pana_history.specs.inner.Alone.{IsFit}
use Rattle.pana_history.specs.inner.Withdrawals.{counts}

-- those of a file's entries that count
abbrev pub counted : List Entry → List Entry
counted own = filter (counts own) own

-- the copies before entry n
abbrev pub counted_before : List Entry → ℕ → List Copy
counted_before own n = copies_of (filter (λ entry. nat_lt entry.number n) (counted own))

abbrev pub story_row : List Entry → Entry → Drawn
story_row own entry = entry_row (lanes_in (counted_before own entry.number) own) (withdrawal_of own entry.number) entry

abbrev pub story_rows : List Entry → List Drawn
story_rows own = map (story_row own) own

-- the lanes at the end
abbrev pub last_lanes : List Entry → List Lane
last_lanes own = lanes_in (copies_of (counted own)) own

-- the numbers of a file's entries rise up to this one, and those that count are about copies that live
pub record IsStory (last : ℕ) (own : List Entry) : Type 0 where
  pub rising : AreRising (λ entry. entry.number) 0 own
  pub within : AllByRecursion (λ entry. entry.number ≤ last) own
  pub fit : IsFit (counted own)
