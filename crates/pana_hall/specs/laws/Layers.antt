-- What follows of every run: for the tables of the families, and for the places of the copies.
use Rattle.std.specs.Prelude.{◌≡◌, ◌≢◌, ℕ, ◌+◌, ◌<◌, ◌≤◌, List, [], ◌∷◌, ◌++◌, length, filter, count_by}
use Rattle.std.specs.List.{AllByRecursion}
use Rattle.pana_journal.specs.declared.entry.Entry.{Entry}
use Rattle.pana_hall.specs.Family.{families, entries_of, is_duplicate}
use Rattle.pana_hall.specs.Effective.{effective}
use Rattle.pana_hall.specs.Living.{Copy, number_of, copy_in, living, after_entry}
use Rattle.pana_hall.specs.Pending.{pending}
use Rattle.pana_hall.specs.Board.{is_of}
use Rattle.pana_hall.specs.laws.Sets.{reported_by, sets_at}
use Rattle.pana_hall.specs.laws.Tables.{table}

-- the family of the next entry
abbrev pub family_of_next : List Entry → Entry → ℕ
family_of_next journal entry = families (journal ++ entry ∷ []) entry.number

-- the entry changes the family's table; leaving out one more gives what leaving out one less gave before it
pub record AddsLayer (most family : ℕ) (journal : List Entry) (entry : Entry) : Type 0 where
  pub now : table most 0 family (journal ++ entry ∷ []) ≡ after_entry (table most 0 family journal) entry
  pub undone : (k : ℕ) → k < most → table most (k + 1) family (journal ++ entry ∷ []) ≡ table most k family journal

-- so with its sets
pub record AddsSets (family : ℕ) (journal : List Entry) (entry : Entry) : Type 0 where
  pub now : sets_at 0 family (journal ++ entry ∷ []) ≡ reported_by (sets_at 0 family journal) entry
  pub undone : (k : ℕ) → k < 8 → sets_at (k + 1) family (journal ++ entry ∷ []) ≡ sets_at k family journal

-- the entry takes the family back by one entry
abbrev pub DropsLayer : ℕ → ℕ → List Entry → Entry → Type 0
DropsLayer most family journal entry = (k : ℕ) → table most k family (journal ++ entry ∷ []) ≡ table most (k + 1) family journal

-- the entry leaves the family's tables, as far back as entries stay pending
abbrev pub KeepsLayers : ℕ → ℕ → List Entry → Entry → Type 0
KeepsLayers most family journal entry = (k : ℕ) → k ≤ length (pending most family (journal ++ entry ∷ [])) → table most k family (journal ++ entry ∷ []) ≡ table most k family journal

-- the entry leaves all tables of a family, and what is pending in it
pub record LeavesAlone (most family : ℕ) (journal : List Entry) (entry : Entry) : Type 0 where
  pub tables : (k : ℕ) → table most k family (journal ++ entry ∷ []) ≡ table most k family journal
  pub pending : pending most family (journal ++ entry ∷ []) ≡ pending most family journal

-- each key is above the one before it, and the first above the bound
abbrev pub AreRising : {X : Type 0} → (X → ℕ) → ℕ → List X → Type 0
AreRising key low [] = Unit {0}
AreRising key low (x ∷ xs) = (low < key x) × AreRising key (key x) xs

-- no two copies are kept at one place
abbrev pub AreApart : List Copy → Type 0
AreApart [] = Unit {0}
AreApart (copy ∷ copies) = AllByRecursion (λ other. copy.place ≢ other.place) copies × AreApart copies

-- the living copies are those of the families' tables, by rising number; each is of the family of the entry that made it
pub record AreMerged (most : ℕ) (journal : List Entry) : Type 0 where
  pub tables : (family : ℕ) → filter (is_of family) (living journal) ≡ table most 0 family journal
  pub found : (number : ℕ) → copy_in (living journal) number ≡ copy_in (table most 0 (families journal number) journal) number
  pub rising : AreRising number_of 0 (living journal)
  pub families : AllByRecursion (λ copy. (copy.family ≡ families journal (number_of copy)) × (number_of copy ≤ length journal)) (living journal)

-- the living copies are kept at places of their own, their numbers rise and are those of entries, and each is of the
-- family of the entry that made it
pub record IsOrderly (journal : List Entry) : Type 0 where
  pub apart : AreApart (living journal)
  pub rising : AreRising number_of 0 (living journal)
  pub numbers : AllByRecursion (λ copy. number_of copy ≤ length journal) (living journal)
  pub families : AllByRecursion (λ copy. copy.family ≡ families journal (number_of copy)) (living journal)

-- how many entries of a family that count are Duplicates
abbrev pub duplicates_in : ℕ → List Entry → ℕ
duplicates_in family journal = count_by (λ entry. is_duplicate entry.report) (entries_of family (families journal) (effective journal))
