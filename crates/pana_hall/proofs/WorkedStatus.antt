-- Worked examples of what copy is at a place, and of what is obsolete or in conflict, computed from the definitions.
use Rattle.pana_hall.proofs.Words.{◌≡◌, ℕ, List, [], ◌∷◌, Some, None, refl, Place, Report, Register, Duplicate, Edit, Reconcile, Entry, IsAccepted, codes, living}
use Rattle.pana_hall.specs.{Living.copies_of, StampRows.rows_of}
use Rattle.pana_calls.specs.declared.standing.{CopyState.CopyState, CopyStanding.CopyStanding, PlacedCopy.PlacedCopy, StatusRow.StatusRow}
use Rattle.pana_calls.specs.declared.standing.CopyState.TheVariants.{Newest, Obsolete, Conflict}
use Rattle.pana_hall.specs.Status.{is_listed, standing_at, standing_of, status_row, status_rows}

abbrev entry : ℕ → Report → Entry
entry number report = record { number = number; by = codes "laptop"; report = report }

abbrev plan_on : List ℕ → Place
plan_on device = record { device = device; path = codes "plan.txt" }

abbrev placed_on : ℕ → List ℕ → PlacedCopy
placed_on copy device = record { copy = copy; place = plan_on device }

abbrev shown : ℕ → List ℕ → CopyState → PlacedCopy → StatusRow
shown copy device state with = record { copy = copy; place = plan_on device; state = state; with = with }

abbrev standing : ℕ → (newer older equal conflict : ℕ) → CopyState → CopyStanding
standing copy newer older equal conflict state = record { copy = copy; family = 1; newer = newer; older = older; equal = equal; conflict = conflict; state = state; sum = None }

-- a file on three devices, of which two edited their copy
abbrev edited_twice : List Entry
edited_twice =
    entry 1 (Register (plan_on (codes "laptop")) None) ∷ entry 2 (Duplicate 1 (plan_on (codes "usb")) None) ∷ entry 3 (Duplicate 1 (plan_on (codes "desk")) None) ∷ entry 4 (Edit 1 None) ∷ entry 5 (Edit 2 None) ∷ []

accepted : IsAccepted 8 edited_twice
unfolding copies_of rows_of
accepted = (
  record { next = refl; free = refl },
  (record { next = refl; free = refl }, (record { next = refl; free = refl }, (record { next = refl; free = refl }, (record { next = refl; free = refl }, tt)))),
)

abbrev conflict_of_first : StatusRow
conflict_of_first = shown 1 (codes "laptop") Conflict (placed_on 2 (codes "usb"))

abbrev conflict_of_second : StatusRow
conflict_of_second = shown 2 (codes "usb") Conflict (placed_on 1 (codes "laptop"))

abbrev obsolete_third : StatusRow
obsolete_third = shown 3 (codes "desk") Obsolete (placed_on 1 (codes "laptop"))

-- two are in conflict, and the third is obsolete
status_of_all : (status_rows (living edited_twice) None 0 ≡ conflict_of_first ∷ conflict_of_second ∷ obsolete_third ∷ [])
    × (status_rows (living edited_twice) None 2 ≡ conflict_of_second ∷ obsolete_third ∷ []) × (status_rows (living edited_twice) None 4 ≡ [])
unfolding copies_of is_listed status_row status_rows
status_of_all = (refl, refl, refl)

status_of_devices : (status_rows (living edited_twice) (Some (codes "desk")) 1 ≡ obsolete_third ∷ []) × (status_rows (living edited_twice) (Some (codes "usb")) 1 ≡ conflict_of_second ∷ [])
    × (status_rows (living edited_twice) (Some (codes "phone")) 1 ≡ [])
unfolding copies_of is_listed status_row status_rows
status_of_devices = (refl, refl, refl)

at_places : (standing_at (living edited_twice) (plan_on (codes "laptop")) ≡ Some (standing 1 0 1 0 1 Conflict)) × (standing_at (living edited_twice) (plan_on (codes "desk")) ≡ Some (standing 3 2 0 0 0 Obsolete))
    × (standing_at (living edited_twice) (plan_on (codes "phone")) ≡ None)
unfolding copies_of standing_of
at_places = (refl, refl, refl)

-- the first copy that is newer is obsolete itself: it is the newest that is named
abbrev edited_on : List Entry
edited_on =
    entry 1 (Register (plan_on (codes "laptop")) None) ∷ entry 2 (Duplicate 1 (plan_on (codes "usb")) None) ∷ entry 3 (Duplicate 1 (plan_on (codes "desk")) None)
    ∷ entry 4 (Edit 1 None) ∷ entry 5 (Reconcile 1 2 None) ∷ entry 6 (Edit 2 None) ∷ []

status_names_newest : (status_rows (living edited_on) None 1 ≡ shown 1 (codes "laptop") Obsolete (placed_on 2 (codes "usb")) ∷ shown 3 (codes "desk") Obsolete (placed_on 2 (codes "usb")) ∷ [])
    × (standing_at (living edited_on) (plan_on (codes "usb")) ≡ Some (standing 2 0 2 0 0 Newest))
unfolding copies_of is_listed standing_of status_row status_rows
status_names_newest = (refl, refl)
