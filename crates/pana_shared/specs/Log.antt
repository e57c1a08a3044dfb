-- A log that several writers append to, as one of them sees it.
use Rattle.std.specs.Prelude.{◌≡◌, ◌≢◌, ◌⊎◌, ◌<◌, ◌≤◌, ℕ, ◌==◌, List, [], ◌∷◌, ◌++◌, length, filter}
use Rattle.std.specs.List.{AllByRecursion}
use Rattle.pana_shared.specs.declared.read_fault.ReadFault.{ReadFault}
use Rattle.pana_shared.specs.declared.read_fault.ReadFault.TheVariants.{NoAnswer, Foreign, OutOfMemory}
use Rattle.pana_shared.specs.declared.record.Record.{Record}
use Rattle.pana_shared.specs.declared.shared_log.Appended.{Appended}
use Rattle.pana_shared.specs.declared.shared_log.Appended.TheVariants.{Put, Taken, Full, Unknown}

-- the records of a writer
abbrev pub ours : ℕ → List Record → List Record
ours writer records = filter (λ r. r.writer == writer) records

-- the records stand there, behind so many others
pub record IsAt (at : ℕ) (group records : List Record) : Type 0 where
  pub before : List Record
  pub after : List Record
  pub whole : records ≡ before ++ (group ++ after)
  pub behind : length before ≡ at

-- what the writer's handle stands for: the log's records; the writer; and the groups of which it isn't known whether they were
-- put, each of which would come behind so many records, or never
pub record LogView : Type 0 where
  pub records : List Record
  pub writer : ℕ
  pub at : ℕ
  pub loose : List (List Record)

-- the group is one of these
abbrev pub IsOneOf : List Record → List (List Record) → Type 0
IsOneOf group [] = ⊥
IsOneOf group (other ∷ others) = (group ≡ other) ⊎ IsOneOf group others

-- These records of the writer have come meanwhile: none, or one of the groups that were loose, at its place, which was free.
abbrev pub Lands : LogView → List Record → List Record → Type 0
Lands old landed records = (landed ≡ []) ⊎ (IsOneOf landed old.loose × (length old.records ≤ old.at) × IsAt old.at landed records)

-- The log has grown meanwhile, by records of others, by what has landed of the writer, and behind that by what it has made.
pub record Grows (old : LogView) (made records : List Record) : Type 0 where
  pub more : List Record
  pub longer : records ≡ old.records ++ more
  pub landed : List Record
  pub lands : Lands old landed records
  pub own : ours old.writer more ≡ landed ++ made

-- A later view of the log, in which no group is loose that wasn't, but where there is no room for it any more.
abbrev pub Follows : LogView → LogView → Type 0
Follows old new = (new.writer ≡ old.writer) × ((new.at < length new.records) ⊎ ((new.at ≡ old.at) × ((group : List Record) → IsOneOf group new.loose → IsOneOf group old.loose)))

-- none of the groups is empty
abbrev pub HaveSome : List (List Record) → Type 0
HaveSome groups = (group : List Record) → IsOneOf group groups → group ≢ []

-- a group of the writer may be appended there: it has a record at least; and no other group of it is loose, but at the same place
pub record MayAppend (old : LogView) (at : ℕ) (group : List Record) : Type 0 where
  pub some : group ≢ []
  pub own : AllByRecursion (λ r. r.writer ≡ old.writer) group
  pub only : (old.at ≡ at) ⊎ (old.at < length old.records) ⊎ (old.loose ≡ [])

-- the groups that are loose there
abbrev pub loose_at : ℕ → LogView → List (List Record)
loose_at at view = filter (λ group. view.at == at) view.loose

-- the same, once the group is asked for
abbrev pub asked : LogView → ℕ → List Record → LogView
asked old at group = record { records = old.records; writer = old.writer; at = at; loose = group ∷ loose_at at old }

-- The writer has looked.
pub record Reads (old new : LogView) : Type 0 where
  pub grows : Grows old [] new.records
  pub same : new ≡ record { records = new.records; writer = old.writer; at = old.at; loose = old.loose }

-- The writer has asked for a group to be appended there.
pub record Asks (old : LogView) (at : ℕ) (group : List Record) (new : LogView) : Type 0 where
  pub grows : Grows (asked old at group) [] new.records
  pub same : new ≡ record { records = new.records; writer = old.writer; at = at; loose = group ∷ loose_at at old }

-- what has come of it: the group stands there; or a page of what does; or there is no room for more, and it never will; or nothing is
-- known
abbrev pub Appends : LogView → ℕ → List Record → Appended → LogView → Type 0
Appends old at group Put new = Asks old at group new × IsAt at group new.records × (length old.records ≤ at)
Appends old at group (Taken page) new = Asks old at group new × IsAt at page.items new.records
Appends old at group Full new = Reads old new
Appends old at group Unknown new = Asks old at group new

-- a page that is returned has a record
abbrev pub HasSome : Appended → Type 0
HasSome (Taken page) = page.items ≢ []
HasSome Put = Unit {0}
HasSome Full = Unit {0}
HasSome Unknown = Unit {0}

-- an append has an answer, or one of the times is over at which there may be none
abbrev pub IsHeard : Appended → ℕ → ℕ → Type 0
IsHeard Unknown old new = new < old
IsHeard Put old new = new ≤ old
IsHeard (Taken page) old new = new ≤ old
IsHeard Full old new = new ≤ old

-- the same of a read that fails
abbrev pub IsUnread : ReadFault → ℕ → ℕ → Type 0
IsUnread NoAnswer old new = new < old
IsUnread (Foreign number) old new = ⊥
IsUnread OutOfMemory old new = new ≤ old
