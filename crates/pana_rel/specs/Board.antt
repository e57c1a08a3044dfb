-- How things with numbers relate to each other: counts, the newest, and whether these are split.
use Rattle.std.specs.Prelude.{ℕ, Bool, true, false, ◌==◌, ◌&&◌, not, List, filter, count_by}
use Rattle.std.specs.List.{list_any}
use Rattle.pana_event.specs.declared.rel.Rel.{Rel}
use Rattle.pana_event.specs.declared.rel.Rel.TheVariants.{Equal, Older, Newer, Conflict}
use Rattle.pana_rel.specs.declared.counts.Counts.{Counts}

-- whether two relations are one
abbrev pub is_rel : Rel → Rel → Bool
is_rel Equal Equal = true
is_rel Older Older = true
is_rel Newer Newer = true
is_rel Conflict Conflict = true
is_rel _ _ = false

-- whether the other has another number, and relates to this one so
abbrev pub relates : {X : Type 0} → (X → ℕ) → (X → X → Rel) → Rel → X → X → Bool
relates number rel wanted x other = not (number other == number x) && is_rel (rel other x) wanted

-- how many of the others are newer than this one, older, equal and in conflict
abbrev pub counts_of : {X : Type 0} → (X → ℕ) → (X → X → Rel) → List X → X → Counts
counts_of number rel xs x = record {
  above = count_by (relates number rel Newer x) xs;
  below = count_by (relates number rel Older x) xs;
  equal = count_by (relates number rel Equal x) xs;
  conflict = count_by (relates number rel Conflict x) xs;
}

-- those to which none is newer
abbrev pub newest_of : {X : Type 0} → (X → ℕ) → (X → X → Rel) → List X → List X
newest_of number rel xs = filter (λ x. not (list_any (relates number rel Newer x) xs)) xs

-- whether two of these are in conflict
abbrev pub has_conflict : {X : Type 0} → (X → ℕ) → (X → X → Rel) → List X → Bool
has_conflict number rel xs = list_any (λ x. list_any (relates number rel Conflict x) xs) xs

-- whether two of the newest are in conflict
abbrev pub is_split : {X : Type 0} → (X → ℕ) → (X → X → Rel) → List X → Bool
is_split number rel xs = has_conflict number rel (newest_of number rel xs)
