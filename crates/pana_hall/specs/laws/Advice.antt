-- What a status says of the updates that copies know: what is lost where a copy is overwritten by another.
use Rattle.std.specs.Prelude.{◌≡◌, ◌⊎◌, ℕ, ◌<◌, nat_le, true, List, length, Some}
use Rattle.std.specs.List.{list_any}
use Rattle.pana_family.specs.Updates.{IsSubset}
use Rattle.pana_family.specs.Table.{In}
use Rattle.pana_calls.specs.declared.standing.CopyState.{CopyState}
use Rattle.pana_calls.specs.declared.standing.CopyState.TheVariants.{Newest, Obsolete, Conflict}
use Rattle.pana_calls.specs.declared.standing.StatusRow.{StatusRow}
use Rattle.pana_hall.specs.Living.{Copy, copy_in}

-- the copy knows each update that the other knows
abbrev pub KnowsAllOf : Copy → Copy → Type 0
KnowsAllOf copy other = IsSubset other.known.set copy.known.set

-- no copy of its family knows all that it knows, and more
abbrev pub IsNewest : List Copy → Copy → Type 0
IsNewest copies copy = (other : Copy) → In other copies → other.family ≡ copy.family → KnowsAllOf other copy → KnowsAllOf copy other

-- it knows all that any copy of its family knows
abbrev pub KnowsMost : List Copy → Copy → Type 0
KnowsMost copies copy = (other : Copy) → In other copies → other.family ≡ copy.family → KnowsAllOf copy other

-- what it means for a copy to be in this state, with the other beside it: an obsolete one can be overwritten by the other, which
-- knows all that it knows, and is newest; of two in conflict neither can, and no copy is newer than the first
abbrev pub IsAdvised : List Copy → Copy → Copy → CopyState → Type 0
IsAdvised copies copy with Obsolete = KnowsAllOf with copy × ¬ KnowsAllOf copy with × IsNewest copies with
IsAdvised copies copy with Conflict = ¬ KnowsAllOf with copy × ¬ KnowsAllOf copy with × IsNewest copies copy
IsAdvised copies copy with Newest = ⊥

-- what a copy's state says: a newest one knows all that any copy of its family knows; for any other there is a copy to replace it
-- or to merge it with
abbrev pub IsInState : List Copy → Copy → CopyState → Type 0
IsInState copies copy Newest = KnowsMost copies copy
IsInState copies copy state = (with : Copy) × In with copies × (with.family ≡ copy.family) × IsAdvised copies copy with state

-- the two copies that a row names live in one family, at the places that it gives, and it advises rightly
pub record Advises (copies : List Copy) (row : StatusRow) : Type 0 where
  pub copy : Copy
  pub with : Copy
  pub lives : copy_in copies row.copy ≡ Some copy
  pub place : row.place ≡ copy.place
  pub with_lives : copy_in copies row.with.copy ≡ Some with
  pub with_place : row.with.place ≡ with.place
  pub family : with.family ≡ copy.family
  pub advised : IsAdvised copies copy with row.state

-- the rows reach as far as a number: they are fewer than 100, or one of them has that number or a greater one
abbrev pub Reach : ℕ → List StatusRow → Type 0
Reach number rows = (length rows < 100) ⊎ (list_any (λ row. nat_le number row.copy) rows ≡ true)
