-- The copies of a family by numbers, each with how it relates to one of them.
use Rattle.std.specs.Prelude.{ℕ, Bool, not, ◌&&◌, ◌==◌, List, map, filter, find, count_by, Option, Some, None, option_map, option_and_then, unwrap_or, if◌then◌else◌}
use Rattle.pana_family.specs.{Board.board_newest, Updates.has}
use Rattle.pana_copies.specs.Spots.{Table}
use Rattle.pana_event.specs.declared.rel.Rel.{Rel}
use Rattle.pana_event.specs.declared.rel.Rel.TheVariants as rels
use Rattle.pana_rel.specs.declared.counts.Counts.{Counts}
use Rattle.pana_rel.specs.Board.{is_rel}
use Rattle.pana_journal.specs.declared.entry.Entry.{Entry}
use Rattle.pana_hall.specs.declared.relating.Relative.{Relative}
use Rattle.pana_calls.specs.declared.standing.CopyState.{CopyState}
use Rattle.pana_calls.specs.declared.standing.CopyState.TheVariants.{Newest, Obsolete, Conflict}
use Rattle.pana_calls.specs.declared.standing.PlacedCopy.{PlacedCopy}
use Rattle.pana_calls.specs.declared.standing.StatusRow.{StatusRow}
use Rattle.pana_hall.specs.Family.{families}
use Rattle.pana_hall.specs.Living.{Copy, copy_in, living, number_of}
use Rattle.pana_hall.specs.Board.{is_of, sets_of}
use Rattle.pana_hall.specs.Queries.{pair_of}
use Rattle.pana_hall.specs.Status.{is_listed, status_row}
use Rattle.pana_hall.specs.inner.Rows.{place_at}

-- a copy, and how it relates to the one with the number
abbrev pub relative : List Copy → ℕ → ℕ → Relative
relative copies number other = record { copy = other; rel = pair_of copies other number }

-- the numbers of the living copies of a copy's family
abbrev pub numbers_with : List Entry → ℕ → List ℕ
numbers_with journal number = map number_of (filter (is_of (families journal number)) (living journal))

-- these copies, itself among them, each with how it relates to it
abbrev pub relatives_of : List Entry → ℕ → List Relative
relatives_of journal number = map (relative (living journal) number) (numbers_with journal number)

-- whether it is another copy that relates so to the one with the number
abbrev pub relates_so : Rel → ℕ → Relative → Bool
relates_so wanted number it = not (it.copy == number) && is_rel it.rel wanted

abbrev pub counts_in : List Relative → ℕ → Counts
counts_in relatives number = record {
  above = count_by (relates_so rels.Newer number) relatives;
  below = count_by (relates_so rels.Older number) relatives;
  equal = count_by (relates_so rels.Equal number) relatives;
  conflict = count_by (relates_so rels.Conflict number) relatives;
}

-- the newest copies of a copy's family
abbrev pub newest_with : List Entry → ℕ → List ℕ
newest_with journal number = board_newest (sets_of (families journal number) (living journal))

-- whether it is one of these newest copies, and newer than the one with the number
abbrev pub replaces : List ℕ → ℕ → Relative → Bool
replaces newest number it = relates_so rels.Newer number it && has newest it.copy

-- the number of the first that passes the test
abbrev pub first_number : (Relative → Bool) → List Relative → Option ℕ
first_number test relatives = option_map (λ it. it.copy) (find test relatives)

-- the number of the copy to replace it or to merge it with; its own where there is none
abbrev pub with_in : List Entry → ℕ → List Relative → CopyState → ℕ
with_in journal number relatives Obsolete = unwrap_or (first_number (replaces (newest_with journal number) number) relatives) number
with_in journal number relatives Conflict = unwrap_or (first_number (relates_so rels.Conflict number) relatives) number
with_in journal number relatives Newest = number

-- a copy, and where it is kept
abbrev pub placed_at : Table → ℕ → PlacedCopy
placed_at copies number = record { copy = number; place = place_at copies number }

-- the row of the copy with the number, if it is to be listed
abbrev pub row_in : List Copy → Option (List ℕ) → ℕ → Option StatusRow
row_in copies device number = option_and_then (λ copy. if is_listed copies device copy then Some (status_row copies copy) else None) (copy_in copies number)
