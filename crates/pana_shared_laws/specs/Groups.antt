-- The records of one writer in a log that others write to as well.
use Rattle.std.specs.Prelude.{◌≡◌, ℕ, ◌+◌, List, [], ◌∷◌, ◌++◌, length}
use Rattle.pana_shared.specs.declared.record.Record.{Record}
use Rattle.pana_shared.specs.Log.{ours}

-- Behind so many records of a log stand these, and those of the writer among them are just the groups: each behind as many as it says,
-- one behind another, and each once. A group of none stands nowhere.
abbrev pub AreGroups : ℕ → ℕ → List Record → List (ℕ × List Record) → Type 0
AreGroups from writer records [] = ours writer records ≡ []
AreGroups from writer records ((at, []) ∷ groups) = AreGroups from writer records groups
AreGroups from writer records ((at, r ∷ rest) ∷ groups) = (before : List Record) × (after : List Record) × (records ≡ before ++ ((r ∷ rest) ++ after)) × (from + length before ≡ at) × (ours writer before ≡ [])
    × AreGroups (at + length (r ∷ rest)) writer after groups
