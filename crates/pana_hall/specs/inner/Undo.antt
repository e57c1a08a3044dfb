-- A family as the hall keeps it, with what takes its pending entries back.
use Rattle.std.specs.Prelude.{ℕ, ◌==◌, Bool, false, List, [], ◌∷◌, take, Option, None, option_map, refl, if◌then◌else◌}
use Rattle.std.specs.Coded.{Coded, code_by, coded×, coded_ℕ, coded_list, coded_option}
use Rattle.pana_copies.specs.declared.place.Place.{Place}
use Rattle.pana_copies.specs.contracts.place.Place as copy_place
use Rattle.pana_family.specs.declared.row.StampRow.{StampRow}
use Rattle.pana_family.specs.contracts.row.StampRow as stamp_row
use Rattle.pana_family.specs.declared.report.FamilyReport.{FamilyReport}
use Rattle.pana_family.specs.After.{reported_rows}
use Rattle.pana_family.specs.Change.{after as after_change, Fits, Room}
use Rattle.pana_family.specs.Kept.{IsKept}
use Rattle.pana_family.specs.View.{IsPrepared}
use Rattle.pana_family.specs.declared.change.Change.{Change}
use Rattle.pana_family.specs.Rows.{seed_row}
use Rattle.pana_hall.specs.declared.undo.Before.{Before}
use Rattle.pana_hall.specs.declared.undo.Undo.{Undo}

-- what was before a report: the place of the copy that it moves or removes, if it does, and the entries that said what the copies
-- held of whose content it says something
pub record Earlier : Type 0 where
  pub place : Option Place
  pub first : Option ℕ
  pub second : Option ℕ

abbrev pub earlier : Option Place → Option ℕ → Option ℕ → Earlier
earlier place first second = record { place = place; first = first; second = second }

-- as it is kept
abbrev pub earlier_of : Before → Earlier
earlier_of before = earlier (option_map (λ place. place.value) before.place) before.first before.second

-- a pending entry, the rows from before it, and what else was before it
pub record Undone : Type 0 where
  pub entry : ℕ
  pub rows : List StampRow
  pub before : Earlier

-- a family: the entry that began it, its rows, and its pending entries, the last one first
pub record KeptRows : Type 0 where
  pub number : ℕ
  pub rows : List StampRow
  pub undo : List Undone

abbrev pub undone : ℕ → List StampRow → Earlier → Undone
undone entry rows before = record { entry = entry; rows = rows; before = before }

abbrev pub kept_rows : ℕ → List StampRow → List Undone → KeptRows
kept_rows number rows undo = record { number = number; rows = rows; undo = undo }

-- a family with the room that it has
pub record RoomyFamily : Type 0 where
  pub kept : KeptRows
  pub room : Room

abbrev pub with_room : KeptRows → Room → RoomyFamily
with_room kept room = record { kept = kept; room = room }

-- how these are kept as numbers
abbrev pub earlier_code : Coded Earlier
earlier_code =
    code_by (Option Place × (Option ℕ × Option ℕ)) (coded× (coded_option copy_place.the_row.coded) (coded× (coded_option coded_ℕ) (coded_option coded_ℕ)))
    (λ e. (e.place, (e.first, e.second))) (λ p. earlier p.0 p.1.0 p.1.1) (λ _. refl)

abbrev pub undone_code : Coded Undone
undone_code =
    code_by (ℕ × (List StampRow × Earlier)) (coded× coded_ℕ (coded× (coded_list stamp_row.the_row.coded) earlier_code))
    (λ u. (u.entry, (u.rows, u.before))) (λ p. record { entry = p.0; rows = p.1.0; before = p.1.1 }) (λ _. refl)

abbrev pub kept_rows_code : Coded KeptRows
kept_rows_code =
    code_by (ℕ × (List StampRow × List Undone)) (coded× coded_ℕ (coded× (coded_list stamp_row.the_row.coded) (coded_list undone_code)))
    (λ k. (k.number, (k.rows, k.undo))) (λ p. record { number = p.0; rows = p.1.0; undo = p.1.1 }) (λ _. refl)

abbrev pub roomy_family_code : Coded RoomyFamily
roomy_family_code =
    code_by (KeptRows × (ℕ × ℕ)) (coded× kept_rows_code (coded× coded_ℕ coded_ℕ)) (λ f. (f.kept, (f.room.rows, f.room.copies))) (λ p. record { kept = p.0; room = record { rows = p.1.0; copies = p.1.1 } }) (λ _. refl)

-- what the records give back one after another
abbrev pub history : List StampRow → List Undo → List Undone
history rows [] = []
history rows (u ∷ undo) =
    let old = after_change u.back rows in
    undone u.entry old (earlier_of u.before) ∷ history old undo

-- each of them can be made in turn, in this room
abbrev pub CanGoBack : Room → List StampRow → List Undo → Type 0
CanGoBack room rows [] = Unit {0}
CanGoBack room rows (u ∷ undo) = IsKept (after_change u.back rows) × Fits u.back rows room × CanGoBack room (after_change u.back rows) undo

-- the change is what report n makes of the family, and there is room for it
abbrev pub IsPreparedIn : ℕ → FamilyReport → Change → RoomyFamily → Type 0
IsPreparedIn n report change it = IsPrepared n report change (record { rows = it.kept.rows; room = it.room })

-- the family that entry n begins: its copy alone, and nothing before it
abbrev pub new_kept : ℕ → KeptRows
new_kept n = kept_rows n (seed_row n ∷ []) (undone n [] (earlier None None None) ∷ [])

-- the family after report n, of which the entry is pending, and this was before it
abbrev pub reported_kept : ℕ → FamilyReport → Earlier → KeptRows → KeptRows
reported_kept n report before it = kept_rows it.number (reported_rows n report it.rows) (take 8 (undone n it.rows before ∷ it.undo))

-- those later than an entry
abbrev pub later_than : ℕ → List Undone → List Undone
later_than n [] = []
later_than n (u ∷ undo) = if u.entry == n then [] else u ∷ later_than n undo

-- the family once an entry was confirmed, which settles it and all before it
abbrev pub confirmed : ℕ → KeptRows → KeptRows
confirmed n it = kept_rows it.number it.rows (later_than n it.undo)

-- the family once the last pending entry was withdrawn
abbrev pub withdrawn : KeptRows → KeptRows
withdrawn it = given it.undo
  where
    given : List Undone → KeptRows
    given [] = it
    given (u ∷ undo) = kept_rows it.number u.rows undo

-- whether the entry is the last that is pending
abbrev pub ends_in : ℕ → List Undone → Bool
ends_in n [] = false
ends_in n (u ∷ undo) = u.entry == n

-- what was before the last pending entry
abbrev pub last_before : List Undone → Earlier
last_before [] = earlier None None None
last_before (u ∷ undo) = u.before

-- the place where the copy was that it moved or removed, if it did
abbrev pub last_place : List Undone → Option Place
last_place undo = (last_before undo).place
