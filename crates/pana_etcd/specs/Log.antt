-- What a log in etcd returns.
use Rattle.std.specs.Prelude.{◌≡◌, ◌≢◌, ℕ, List, true, false, [], Option, Some, Ok, option_and_then}
use Rattle.serde_json.specs.Data.{Data}
use Rattle.pana_shared.specs.Log.{LogView}
use Rattle.pana_shared.specs.declared.shared_log.Appended.{Appended}
use Rattle.pana_shared.specs.declared.shared_log.Appended.TheVariants.{Put, Taken, Full, Unknown}
use Rattle.pana_etcd.specs.Answer.{found_in, outcome_in, page_in}

-- what stands from a number on, by an answer to the question for it: records; or nothing is known, as where there are none
abbrev pub Stands : List ℕ → ℕ → Option Data → Appended → Type 0
Stands name number d (Taken page) = option_and_then (page_in name number) d ≡ Some (Ok page.items)
Stands name number d Unknown = Unit {0}
Stands name number d Put = ⊥
Stands name number d Full = ⊥

-- what has come of an append from a number on, by what its transaction's answer says: where it wasn't put, what stands there
abbrev pub Comes : List ℕ → ℕ → Data → Appended → Type 0
Comes name number d Put = outcome_in d ≡ Some true
Comes name number d Full = ⊥
Comes name number d Unknown = outcome_in d ≢ Some true
Comes name number d (Taken page) = (outcome_in d ≡ Some false) × Stands name number (found_in d) (Taken page)

-- what is claimed to be seen of a log: nothing
abbrev pub nothing_seen : LogView
nothing_seen = record { records = []; writer = 0; at = 0; loose = [] }
