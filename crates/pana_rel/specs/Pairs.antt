-- Copies, and the relation of each to each.
use Rattle.std.specs.Prelude.{◌≡◌, ℕ, suc, ◌==◌, not, if◌then◌else◌, nat_lt, List, [], ◌∷◌, ◌++◌, filter, slice_index_or, Contains}
use Rattle.pana_event.specs.declared.rel.Rel.{Rel}
use Rattle.pana_event.specs.declared.rel.Rel.TheVariants.{Equal, Older, Newer, Conflict}
use Rattle.pana_event.specs.Relation.{reverse_of}

-- a table: its copies, for each of them its relations to all of them in the same order, and how many more copies need no memory
pub record Table : Type 0 where
  pub copies : List ℕ
  pub rels : List (List Rel)
  pub room : ℕ

-- how many copies come before one
abbrev pub place_of : ℕ → List ℕ → ℕ
place_of copy [] = 0
place_of copy (other ∷ copies) = if other == copy then 0 else suc (place_of copy copies)

-- the relation to a copy, from those to all copies in order; to a copy that isn't among them Equal
abbrev pub rel_at : List ℕ → List Rel → ℕ → Rel
rel_at copies rels copy = slice_index_or rels (place_of copy copies) Equal

-- the relation that a table holds of a copy to another
unfoldable pub rel_of : Table → ℕ → ℕ → Rel
rel_of table copy other = rel_at table.copies (slice_index_or table.rels (place_of copy table.copies) []) other

-- a table holds these relations of its copies
abbrev pub Holds : Table → (ℕ → ℕ → Rel) → Type 0
Holds table rel = (a b : ℕ) → Contains table.copies a → Contains table.copies b → rel_of table a b ≡ rel a b

-- relations with a copy's replaced: from it to another as given, from another to it the reverse, and all else as before
abbrev pub with_row : ℕ → (ℕ → Rel) → (ℕ → ℕ → Rel) → ℕ → ℕ → Rel
with_row copy row rel a b = if a == copy then row b else (if b == copy then reverse_of (row a) else rel a b)

-- how a copy relates to another once it was edited: newer than what it was equal to or newer than, else in conflict
abbrev pub edited_rel : Rel → Rel
edited_rel Equal = Newer
edited_rel Newer = Newer
edited_rel Older = Conflict
edited_rel Conflict = Conflict

-- the relations of a copy that was edited
abbrev pub edited_row : ℕ → (ℕ → Rel) → ℕ → Rel
edited_row copy row other = if other == copy then Equal else edited_rel (row other)

-- the relations of a copy that relates to the others as one with these does, and is equal to that one
abbrev pub liked_row : ℕ → (ℕ → Rel) → ℕ → Rel
liked_row copy row other = if other == copy then Equal else row other

-- the copies without one
abbrev pub without : ℕ → List ℕ → List ℕ
without copy copies = filter (λ other. not (other == copy)) copies

-- rising copies with one more, in its place
abbrev pub with_copy : ℕ → List ℕ → List ℕ
with_copy copy copies = filter (λ other. nat_lt other copy) copies ++ copy ∷ filter (λ other. nat_lt copy other) copies

-- copies are their own numbers
abbrev pub own_number : ℕ → ℕ
own_number copy = copy
