-- How a copy stands among the living copies of its family, and which copy to replace it with or to merge it with.
use Rattle.std.specs.Prelude.{ℕ, Bool, true, false, not, ◌&&◌, nat_le, nat_lt, List, map, filter, find, take, Option, Some, None, option_map, unwrap_or, if◌then◌else◌}
use Rattle.std.specs.Str.{bytes_eq}
use Rattle.pana_copies.specs.declared.place.Place.{Place}
use Rattle.pana_copies.specs.Places.{same_place}
use Rattle.pana_event.specs.declared.rel.Rel.{Rel}
use Rattle.pana_event.specs.declared.rel.Rel.TheVariants as rels
use Rattle.pana_rel.specs.declared.counts.Counts.{Counts}
use Rattle.pana_rel.specs.Board.{counts_of, newest_of, relates}
use Rattle.pana_family.specs.Board.{known_relation}
use Rattle.pana_calls.specs.declared.standing.CopyState.{CopyState}
use Rattle.pana_calls.specs.declared.standing.CopyState.TheVariants.{Newest, Obsolete, Conflict}
use Rattle.pana_calls.specs.declared.standing.CopyStanding.{CopyStanding}
use Rattle.pana_calls.specs.declared.standing.PlacedCopy.{PlacedCopy}
use Rattle.pana_calls.specs.declared.standing.StatusRow.{StatusRow}
use Rattle.pana_hall.specs.Living.{Copy, number_of, sum_of}
use Rattle.pana_hall.specs.Board.{is_of}

-- how a copy relates to another, by what they know
abbrev pub copy_relation : Copy → Copy → Rel
copy_relation copy other = known_relation copy.known other.known

-- the living copies of a copy's family, itself among them
abbrev pub family_copies : List Copy → Copy → List Copy
family_copies copies copy = filter (is_of copy.family) copies

-- how many of the others are newer than the copy, older, equal and in conflict
abbrev pub counts_among : List Copy → Copy → Counts
counts_among copies copy = counts_of number_of copy_relation (family_copies copies copy) copy

-- obsolete where a copy is newer; else in conflict where one is in conflict with it; else newest
abbrev pub state_of : Counts → CopyState
state_of counts = if nat_lt 0 counts.above then Obsolete else (if nat_lt 0 counts.conflict then Conflict else Newest)

-- a copy's state
abbrev pub state_among : List Copy → Copy → CopyState
state_among copies copy = state_of (counts_among copies copy)

-- how a copy stands
unfoldable pub standing_of : List Copy → Copy → CopyStanding
standing_of copies copy = let counts = counts_among copies copy in record {
  copy = number_of copy;
  family = copy.family;
  newer = counts.above;
  older = counts.below;
  equal = counts.equal;
  conflict = counts.conflict;
  state = state_of counts;
  sum = sum_of copy;
}

-- how the copy at the place stands, if one is there
abbrev pub standing_at : List Copy → Place → Option CopyStanding
standing_at copies place = option_map (standing_of copies) (find (λ copy. same_place copy.place place) copies)

-- for an obsolete copy the first of its family's newest copies that is newer than it; for one in conflict the first that it is in
-- conflict with
abbrev pub with_of : List Copy → Copy → CopyState → Option Copy
with_of copies copy Obsolete = find (relates number_of copy_relation rels.Newer copy) (newest_of number_of copy_relation (family_copies copies copy))
with_of copies copy Conflict = find (relates number_of copy_relation rels.Conflict copy) (family_copies copies copy)
with_of copies copy Newest = None

-- a copy and its place
abbrev pub placed : Copy → PlacedCopy
placed copy = record { copy = number_of copy; place = copy.place }

-- the row of a copy that isn't newest: there always is a copy to replace it or merge it with, so it is never named itself
unfoldable pub status_row : List Copy → Copy → StatusRow
status_row copies copy = record {
  copy = number_of copy;
  place = copy.place;
  state = state_among copies copy;
  with = placed (unwrap_or (with_of copies copy (state_among copies copy)) copy);
}

-- whether the state is that of a copy to which none is newer, and that is in conflict with none
abbrev pub is_newest : CopyState → Bool
is_newest Newest = true
is_newest state = false

-- whether the place is on the device that is asked for, or any is
abbrev pub is_asked : Option (List ℕ) → Place → Bool
is_asked None place = true
is_asked (Some device) place = bytes_eq place.device device

-- whether the copy is asked for and isn't simply newest
unfoldable pub is_listed : List Copy → Option (List ℕ) → Copy → Bool
is_listed copies device copy = is_asked device copy.place && not (is_newest (state_among copies copy))

-- the copies on the device, or on all, that are obsolete or in conflict: the first 100 with a number from this one on
unfoldable pub status_rows : List Copy → Option (List ℕ) → ℕ → List StatusRow
status_rows copies device from = take 100 (map (status_row copies) (filter (λ copy. nat_le from (number_of copy) && is_listed copies device copy) copies))
