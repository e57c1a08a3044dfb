-- A log in memory.
use Rattle.std.specs.Prelude.{◌≡◌, ◌≢◌, ◌⊎◌, ◌<◌, ◌≤◌, ℕ, Bool, true, false, IsTrue, List, [], ◌∷◌, ◌++◌, filter, length, map, Option, Some, None}
use Rattle.std.specs.Global.{Vec}
use Rattle.pana_shared.specs.declared.record.Record.{Record}
use Rattle.pana_shared.specs.declared.shared_log.Appended.{Appended}
use Rattle.pana_shared.specs.declared.shared_log.Appended.TheVariants as comes
use Rattle.pana_shared.specs.Log.{IsAt, IsOneOf, LogView, asked, loose_at, ours}
use Rattle.pana_shared_tests.specs.declared.memory.Fate.{Fate}
use Rattle.pana_shared_tests.specs.declared.memory.Fate.TheVariants.{Answered, PutUnanswered, PutTwice, NotPut, Full}
use Rattle.pana_shared_tests.specs.declared.memory.MemoryShared.{MemoryShared}

-- what its writer sees
abbrev pub seen_of : MemoryShared → LogView
seen_of log = record { records = log.records.items; writer = log.writer; at = log.at; loose = map (λ g. g.items) log.loose.items }

-- others' records have come
abbrev pub ComeOf : ℕ → List Record → List Record → Type 0
ComeOf writer old new = (more : List Record) × (new ≡ old ++ more) × (ours writer more ≡ [])

-- one of the groups has landed at its place, which was free, or none has
abbrev pub LandsOf : ℕ → ℕ → List (List Record) → List Record → List Record → Type 0
LandsOf writer at loose old new = (new ≡ old) ⊎ ((group : List Record) × IsOneOf group loose × (length old ≡ at) × (ours writer group ≡ group) × (new ≡ old ++ group))

-- whether no answer comes of an append that has this fate, where its place is free
abbrev pub is_silent : Fate → Bool
is_silent Answered = false
is_silent PutUnanswered = true
is_silent PutTwice = false
is_silent NotPut = true
is_silent Full = false

-- how many such fates are left in the plan
abbrev pub silences_of : MemoryShared → ℕ
silences_of log = length (filter is_silent log.fates.items)

-- one fate less is left, if it is such a one
abbrev pub IsFate : Bool → ℕ → ℕ → Type 0
IsFate true old new = new < old
IsFate false old new = new ≤ old

-- the group was asked for there, and is put
abbrev pub put_at : LogView → ℕ → List Record → LogView
put_at old at group = record { records = old.records ++ group; writer = old.writer; at = at; loose = group ∷ loose_at at old }

-- the group was asked for there, and a page of what stands there is returned; or neither
abbrev pub IsFound : LogView → ℕ → List Record → Option (Vec Record) → LogView → Type 0
IsFound old at group (Some page) new = (page.items ≢ []) × IsAt at page.items old.records × (new ≡ asked old at group)
IsFound old at group None new = new ≡ old

-- what comes of an append with this fate, whose place is free: the group is put, or was asked for alone, with an answer or without; or
-- nothing has changed
abbrev pub ComesTo : Fate → LogView → ℕ → List Record → Appended → LogView → Type 0
ComesTo fate old at group comes.Put new = new ≡ put_at old at group
ComesTo fate old at group (comes.Taken page) new = (new ≡ put_at old at group) × (page.items ≡ group)
ComesTo fate old at group comes.Full new = new ≡ old
ComesTo fate old at group comes.Unknown new = IsTrue (is_silent fate) × ((new ≡ put_at old at group) ⊎ (new ≡ asked old at group))
