-- What shares in ticks know.
use Rattle.std.specs.Prelude.{◌≡◌, ◌≤◌, ℕ, Bool, true, false, []}
use Rattle.atomic_table.specs.Seated.{TableId}
use Rattle.atomic_table.specs.Table.{Me}
use Rattle.pana_ticks.specs.declared.count.Count.{Count}
use Rattle.pana_ticks.specs.declared.hand.Hand.{Hand}
use Rattle.pana_ticks.specs.declared.hand.Hand.TheVariants.{Both, Counter, Spent, Watcher}

-- a share: of which ticks, and how many it has counted, or seen last, and whether no more come
pub record ShareView : Type 0 where
  pub id : TableId
  pub count : Count

abbrev pub count : ℕ → Bool → Count
count ticks is_over = record { ticks = ticks; is_over = is_over }

-- no tick so far
abbrev pub none_yet : Count
none_yet = count 0 false

-- where so many were counted one has seen this: no more than were counted, and just these where it has seen that no more come
pub record HasSeen (counted seen : Count) : Type 0 where
  pub within : seen.ticks ≤ counted.ticks
  pub all : seen.is_over ≡ true → seen ≡ counted

-- the share that counts, at first
abbrev pub first : Hand
first = Counter none_yet

-- one that watches, at first
abbrev pub watcher : Hand
watcher = Watcher none_yet

-- the one that counts has met one that watches
abbrev pub both : Hand → Hand → Hand
both (Counter counted) (Watcher seen) = Both counted seen
both hand other = Spent

-- one that was met
abbrev pub spent : Hand
spent = Spent

-- what a share has counted or seen
abbrev pub count_of : Hand → Count
count_of (Counter counted) = counted
count_of (Watcher seen) = seen
count_of (Both counted seen) = counted
count_of Spent = none_yet

-- what the one that counts has met
abbrev pub met_by : Hand → Count
met_by (Counter counted) = none_yet
met_by (Watcher seen) = none_yet
met_by (Both counted seen) = seen
met_by Spent = none_yet

abbrev pub IsCounter : {S : Type 0} → Me S Hand → Type 0
IsCounter me = me ≡ (Counter (count_of me.0), [])

abbrev pub IsWatcher : {S : Type 0} → Me S Hand → Type 0
IsWatcher me = me ≡ (Watcher (count_of me.0), [])
