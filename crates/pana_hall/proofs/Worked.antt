-- Worked examples, and where the laws of the tables end, computed from the definitions.
use Rattle.pana_hall.proofs.Words.{◌≡◌, ℕ, zero, suc, ◌+◌, true, false, List, [], ◌∷◌, ◌++◌, Option, Some, None, map, length, refl, Place, Report}
use Rattle.pana_hall.proofs.Words.{Relocate, Remove, Confirm, Withdraw, Entry, Cause, PlaceTaken, FamilyFull, Settled, BoardRow, families, living, known_to, pending, holdings, report_refusal, table}
use Rattle.pana_hall.proofs.Words.{AreApart, codes, UnknownCopy, SameCopy, OtherFamily, UnknownEntry, NotYours, UnknownFamily, page, family_rows, pair_of}
use Rattle.pana_event.specs.declared.rel.Rel.TheVariants.{Equal, Older, Conflict}
use Rattle.pana_hall.specs.{Living.copies_of, StampRows.rows_of}
use Rattle.pana_calls.specs.{declared.call.Query.Query, declared.call.Query.TheVariants.Board, declared.call.Query.TheVariants.Pair}
use Rattle.pana_hall.specs.{Board.board_of, Board.row_of, Refusal.refusal}
use Rattle.pana_journal.specs.declared.report.Report.TheVariants as reports
use Rattle.pana_calls.specs.declared.call.Call.TheVariants as calls
use Rattle.pana_family.specs.Board.{board_newest, board_split}

-- Worked examples, computed from the definitions.

-- reports without a sum
abbrev Register : Place → Report
Register place = reports.Register place None

abbrev Duplicate : ℕ → Place → Report
Duplicate copy place = reports.Duplicate copy place None

abbrev Edit : ℕ → Report
Edit copy = reports.Edit copy None

abbrev Reconcile : ℕ → ℕ → Report
Reconcile a b = reports.Reconcile a b None

abbrev Merge : ℕ → ℕ → Report
Merge a b = reports.Merge a b None

abbrev place : List ℕ → List ℕ → Place
place device path = record { device = device; path = path }

abbrev entry : ℕ → Report → Entry
entry number report = record { number = number; by = codes "laptop"; report = report }

abbrev plan : Place
plan = place (codes "laptop") (codes "plan.txt")

abbrev usb_plan : Place
usb_plan = place (codes "usb") (codes "plan.txt")

abbrev from_laptop : List Entry → Report → Option Cause
from_laptop journal report = refusal journal (codes "laptop") (calls.Report report)

abbrev asked : List Entry → Query → Option Cause
asked journal query = refusal journal (codes "laptop") (calls.Query query)

-- the journal with a device's report as its next entry, where nothing stands against it
abbrev with_report : Option Cause → List Entry → List ℕ → Report → List Entry
with_report None journal by report = journal ++ record { number = length journal + 1; by = by; report = report } ∷ []
with_report (Some cause) journal by report = journal

abbrev reported_by : List ℕ → List Entry → List Report → List Entry
reported_by by journal [] = journal
reported_by by journal (report ∷ reports) = reported_by by (with_report (report_refusal 8 journal (living journal) by report) journal by report) reports

abbrev reported : List Entry → List Report → List Entry
reported journal reports = reported_by (codes "laptop") journal reports

abbrev on_board : ℕ → List ℕ → (newer older equal conflict : ℕ) → BoardRow
on_board copy device newer older equal conflict =
    record { copy = copy; place = place device (codes "plan.txt"); newer = newer; older = older; equal = equal; conflict = conflict }

-- the empty hall
empty_hall : (family_rows [] (living []) ≡ []) × (asked [] (Board 1) ≡ Some UnknownFamily) × (page [] 1 ≡ [])
unfolding copies_of refusal rows_of
empty_hall = (refl, refl, refl)

-- a file on a laptop, its duplicate on a stick, and an edit of the first
abbrev first_path : List Entry
first_path = entry 1 (Register plan) ∷ entry 2 (Duplicate 1 usb_plan) ∷ entry 3 (Edit 1) ∷ []

first_path_done : reported [] (Register plan ∷ Duplicate 1 usb_plan ∷ Edit 1 ∷ []) ≡ first_path
unfolding copies_of rows_of
first_path_done = refl

first_path_board : board_of 1 (living first_path)
    ≡ record { family = 1; rows = on_board 1 (codes "laptop") 0 1 0 0 ∷ on_board 2 (codes "usb") 1 0 0 0 ∷ []; newest = 1 ∷ []; split = false }
unfolding copies_of board_of row_of board_newest board_split rows_of
first_path_board = refl

first_path_answers : (holdings (living first_path) (codes "usb") ≡ record { copy = 2; family = 1; path = codes "plan.txt"; sum = None; touch = 2 } ∷ [])
    × (page first_path 2 ≡ entry 2 (Duplicate 1 usb_plan) ∷ entry 3 (Edit 1) ∷ []) × (page first_path 0 ≡ first_path) × (page first_path 4 ≡ [])
unfolding copies_of rows_of
first_path_answers = (refl, refl, refl, refl)

-- and an edit of the second
abbrev conflict : List Entry
conflict = reported first_path (Edit 2 ∷ [])

conflict_board : board_of 1 (living conflict)
    ≡ record { family = 1; rows = on_board 1 (codes "laptop") 0 0 0 1 ∷ on_board 2 (codes "usb") 0 0 0 1 ∷ []; newest = 1 ∷ 2 ∷ []; split = true }
unfolding copies_of board_of row_of board_newest board_split rows_of
conflict_board = refl

conflict_answers : (pair_of (living conflict) 1 2 ≡ Conflict) × (pair_of (living conflict) 1 1 ≡ Equal)
    × (family_rows conflict (living conflict) ≡ record { family = 1; copies = 2; newest = 2; split = true } ∷ [])
unfolding copies_of board_newest board_split rows_of
conflict_answers = (refl, refl, refl)

-- both ways to settle it
reconcile_and_merge : (pair_of (living (reported conflict (Reconcile 1 2 ∷ []))) 1 2 ≡ Equal) × (pair_of (living (reported conflict (Merge 1 2 ∷ []))) 1 2 ≡ Equal)
    × (known_to (living (reported conflict (Merge 1 2 ∷ []))) 2 ≡ 5 ∷ 3 ∷ 4 ∷ []) × (length (reported conflict (Merge 1 2 ∷ [])) ≡ 5)
unfolding copies_of rows_of
reconcile_and_merge = (refl, refl, refl, refl)

abbrev numbers : List Entry → List ℕ
numbers journal = map (λ copy. copy.known.copy) (living journal)

-- a copy that is removed for its heir, and comes back
abbrev heir : List Entry
heir = reported [] (Register plan ∷ Duplicate 1 usb_plan ∷ Edit 2 ∷ Remove 1 (Some 2) ∷ [])

remove_with_heir : (numbers heir ≡ 2 ∷ []) × (known_to (living (reported heir (Edit 2 ∷ []))) 2 ≡ 5 ∷ 3 ∷ [])
    × (numbers (reported heir (Withdraw 4 ∷ [])) ≡ 1 ∷ 2 ∷ []) × (known_to (living (reported heir (Withdraw 4 ∷ []))) 1 ≡ []) × (known_to (living (reported heir (Withdraw 4 ∷ []))) 2 ≡ 3 ∷ [])
unfolding copies_of rows_of
remove_with_heir = (refl, refl, refl, refl, refl)

-- two files on one laptop
abbrev two_files : List Entry
two_files = reported first_path (Register (place (codes "laptop") (codes "b")) ∷ [])

abbrev usb_b : Place
usb_b = place (codes "usb") (codes "b")

refusals_in_order : (from_laptop two_files (Reconcile 1 1) ≡ Some SameCopy) × (from_laptop two_files (Remove 1 (Some 1)) ≡ Some SameCopy)
    × (from_laptop two_files (Merge 1 4) ≡ Some OtherFamily) × (asked two_files (Pair 1 4) ≡ Some OtherFamily)
    × (from_laptop two_files (Reconcile 99 99) ≡ Some (UnknownCopy 99)) × (from_laptop two_files (Duplicate 99 plan) ≡ Some (UnknownCopy 99))
    × (from_laptop two_files (Duplicate 1 plan) ≡ Some (PlaceTaken 1))
    × (from_laptop two_files (Remove 1 (Some 99)) ≡ Some (UnknownCopy 99)) × (from_laptop two_files (Remove 1 (Some 4)) ≡ Some OtherFamily)
    × (map (families two_files) (1 ∷ 2 ∷ 3 ∷ 4 ∷ []) ≡ 1 ∷ 1 ∷ 1 ∷ 4 ∷ [])
unfolding refusal copies_of rows_of
refusals_in_order = (refl, refl, refl, refl, refl, refl, refl, refl, refl, refl)

abbrev relocated : List Entry
relocated = reported two_files (Relocate 2 usb_b ∷ [])

relocated_and_back : (length relocated ≡ 5) × (from_laptop relocated (Relocate 2 usb_b) ≡ Some (PlaceTaken 2))
    × (holdings (living relocated) (codes "usb") ≡ record { copy = 2; family = 1; path = codes "b"; sum = None; touch = 5 } ∷ [])
    × (holdings (living (reported relocated (Withdraw 5 ∷ []))) (codes "usb") ≡ record { copy = 2; family = 1; path = codes "plan.txt"; sum = None; touch = 2 } ∷ [])
    × (from_laptop (reported relocated (Withdraw 5 ∷ Remove 2 None ∷ [])) (Edit 2) ≡ Some (UnknownCopy 2))
unfolding refusal copies_of rows_of
relocated_and_back = (refl, refl, refl, refl, refl)

-- an heir that is behind is accepted, and knows no more than before
abbrev behind : List Entry
behind = reported [] (Register plan ∷ Duplicate 1 usb_plan ∷ Edit 1 ∷ Duplicate 1 (place (codes "desk") (codes "a")) ∷ Remove 1 (Some 2) ∷ [])

heir_behind : (length behind ≡ 5) × (known_to (living behind) 2 ≡ []) × (known_to (living behind) 4 ≡ 3 ∷ [])
    × (numbers (reported behind (Remove 2 (Some 4) ∷ [])) ≡ 4 ∷ [])
unfolding copies_of rows_of
heir_behind = (refl, refl, refl, refl)

abbrev in_trust : List Entry
in_trust = reported behind (Duplicate 2 (place (codes "phone") (codes "p")) ∷ Edit 2 ∷ [])

parcel_settles : (pair_of (living in_trust) 2 4 ≡ Conflict) × (pair_of (living (reported in_trust (Reconcile 2 4 ∷ []))) 6 2 ≡ Older)
    × (living (reported in_trust (Reconcile 2 4 ∷ Withdraw 8 ∷ [])) ≡ living in_trust) × (length (reported in_trust (Reconcile 2 4 ∷ Withdraw 8 ∷ [])) ≡ 9)
unfolding copies_of rows_of
parcel_settles = (refl, refl, refl, refl)

-- four copies, two edits and three reconciliations
abbrev four : List Entry
four = reported [] (Register plan ∷ Duplicate 1 usb_plan ∷ Duplicate 1 (place (codes "desk") (codes "a")) ∷ Duplicate 1 (place (codes "desk") (codes "b"))
    ∷ Edit 1 ∷ Edit 2 ∷ Reconcile 1 3 ∷ Reconcile 2 4 ∷ Reconcile 1 2 ∷ [])

reconcile_recomputes : (pair_of (living four) 3 1 ≡ Older) × (pair_of (living four) 4 1 ≡ Older) × (pair_of (living four) 3 4 ≡ Conflict)
    × (pair_of (living (reported four (Reconcile 3 4 ∷ []))) 3 1 ≡ Equal)
unfolding copies_of rows_of
reconcile_recomputes = (refl, refl, refl, refl)

-- an update that is withdrawn keeps its number to itself
withdraw_keeps_numbers : known_to (living (reported first_path (Withdraw 3 ∷ Edit 1 ∷ []))) 1 ≡ 5 ∷ []
unfolding copies_of rows_of
withdraw_keeps_numbers = refl

-- a copy is removed, and another file comes to its place
abbrev removed : List Entry
removed = reported_by (codes "desk") (reported first_path (Edit 2 ∷ Remove 2 None ∷ [])) (Register usb_plan ∷ [])

abbrev freed : List Entry
freed = reported_by (codes "desk") removed (Remove 6 None ∷ [])

withdraw_of_remove : (from_laptop removed (Withdraw 5) ≡ Some (PlaceTaken 6)) × (length freed ≡ 7) × (from_laptop freed (Withdraw 5) ≡ None)
    × (holdings (living (reported freed (Withdraw 5 ∷ []))) (codes "usb") ≡ record { copy = 2; family = 1; path = codes "plan.txt"; sum = None; touch = 4 } ∷ [])
    × (known_to (living (reported freed (Withdraw 5 ∷ []))) 2 ≡ 4 ∷ [])
unfolding refusal copies_of rows_of
withdraw_of_remove = (refl, refl, refl, refl, refl)

-- what can't be withdrawn
abbrev confirmed : List Entry
confirmed = reported first_path (Confirm 3 ∷ [])

settled_and_not_yours : (refusal first_path (codes "usb") (calls.Report (Withdraw 3)) ≡ Some NotYours) × (from_laptop first_path (Withdraw 2) ≡ Some Settled)
    × (from_laptop first_path (Withdraw 9) ≡ Some UnknownEntry) × (length confirmed ≡ 4) × (from_laptop confirmed (Withdraw 3) ≡ Some Settled)
    × (from_laptop confirmed (Withdraw 4) ≡ Some UnknownEntry) × (from_laptop confirmed (Withdraw 0) ≡ Some UnknownEntry)
unfolding refusal copies_of rows_of
settled_and_not_yours = (refl, refl, refl, refl, refl, refl, refl)

-- a file that is withdrawn: its number stays a family's
abbrev forgotten : List Entry
forgotten = reported [] (Register plan ∷ Withdraw 1 ∷ [])

withdraw_of_register : (length forgotten ≡ 2) × (family_rows forgotten (living forgotten) ≡ []) × (asked forgotten (Board 1) ≡ None)
    × (board_of 1 (living forgotten) ≡ record { family = 1; rows = []; newest = []; split = false }) × (from_laptop forgotten (Register plan) ≡ None)
unfolding refusal copies_of board_of row_of board_newest board_split rows_of
withdraw_of_register = (refl, refl, refl, refl, refl)

-- eight entries are pending, and no more
abbrev eight : List Entry
eight = entry 1 (Register plan) ∷ entry 2 (Edit 1) ∷ entry 3 (Edit 1) ∷ entry 4 (Edit 1) ∷ entry 5 (Edit 1) ∷ entry 6 (Edit 1) ∷ entry 7 (Edit 1) ∷ entry 8 (Edit 1) ∷ entry 9 (Edit 1) ∷ []

abbrev half_undone : List Entry
half_undone = eight ++ entry 10 (Withdraw 9) ∷ entry 11 (Withdraw 8) ∷ entry 12 (Withdraw 7) ∷ entry 13 (Withdraw 6) ∷ []

abbrev undone : List Entry
undone = half_undone ++ entry 14 (Withdraw 5) ∷ entry 15 (Withdraw 4) ∷ entry 16 (Withdraw 3) ∷ entry 17 (Withdraw 2) ∷ []

eight_done : (reported [] (Register plan ∷ Edit 1 ∷ Edit 1 ∷ Edit 1 ∷ Edit 1 ∷ Edit 1 ∷ Edit 1 ∷ Edit 1 ∷ Edit 1 ∷ []) ≡ eight)
    × (reported eight (Withdraw 9 ∷ Withdraw 8 ∷ Withdraw 7 ∷ Withdraw 6 ∷ []) ≡ half_undone) × (reported half_undone (Withdraw 5 ∷ Withdraw 4 ∷ Withdraw 3 ∷ Withdraw 2 ∷ []) ≡ undone)
unfolding copies_of rows_of
eight_done = (refl, refl, refl)

eight_pending : (pending 8 1 eight ≡ 2 ∷ 3 ∷ 4 ∷ 5 ∷ 6 ∷ 7 ∷ 8 ∷ 9 ∷ []) × (pending 8 1 undone ≡ [])
eight_pending = (refl, refl)

eight_withdrawals : (known_to (living undone) 1 ≡ []) × (from_laptop undone (Withdraw 1) ≡ Some Settled)
unfolding refusal copies_of rows_of
eight_withdrawals = (refl, refl)

withdrawn_to_nothing : (numbers (reported first_path (Withdraw 3 ∷ Withdraw 2 ∷ [])) ≡ 1 ∷ []) × (length (reported first_path (Withdraw 3 ∷ Withdraw 2 ∷ Withdraw 1 ∷ [])) ≡ 6)
    × (living (reported first_path (Withdraw 3 ∷ Withdraw 2 ∷ Withdraw 1 ∷ [])) ≡ [])
unfolding copies_of rows_of
withdrawn_to_nothing = (refl, refl, refl)

-- a Confirm settles all before it
abbrev three_edits : List Entry
three_edits = reported [] (Register plan ∷ Edit 1 ∷ Edit 1 ∷ Edit 1 ∷ Confirm 3 ∷ [])

confirm_settles_older : (length three_edits ≡ 5) × (from_laptop three_edits (Withdraw 3) ≡ Some Settled) × (from_laptop three_edits (Confirm 2) ≡ Some Settled)
    × (known_to (living (reported three_edits (Withdraw 4 ∷ []))) 1 ≡ 3 ∷ 2 ∷ []) × (from_laptop (reported three_edits (Withdraw 4 ∷ [])) (Withdraw 3) ≡ Some Settled)
unfolding refusal copies_of rows_of
confirm_settles_older = (refl, refl, refl, refl, refl)

-- a family with all the copies that it takes
abbrev duplicates : ℕ → ℕ → List Entry
duplicates zero n = []
duplicates (suc k) n = entry n (Duplicate 1 (place (codes "usb") (n ∷ []))) ∷ duplicates k (n + 1)

abbrev full_family : List Entry
full_family = entry 1 (Register plan) ∷ duplicates 255 2

full_family_refuses : (length (living full_family) ≡ 256) × (from_laptop full_family (Duplicate 1 usb_plan) ≡ Some FamilyFull) × (from_laptop full_family (Duplicate 1 plan) ≡ Some (PlaceTaken 1))
unfolding refusal copies_of rows_of
full_family_refuses = (refl, refl, refl)

-- a duplicate has its own touch, and its source and an heir keep theirs
touches : (map {B = ℕ × ℕ × List ℕ} (λ copy. (copy.known.copy, copy.known.touch, copy.known.set)) (living (reported first_path (Duplicate 1 usb_b ∷ []))) ≡ (1, 3, 3 ∷ []) ∷ (2, 2, []) ∷ (4, 4, 3 ∷ []) ∷ [])
    × (map (λ copy. copy.known.touch) (living heir) ≡ 3 ∷ [])
    × (map {B = ℕ × ℕ} (λ copy. (copy.known.copy, copy.known.touch)) (living relocated) ≡ (1, 3) ∷ (2, 5) ∷ (4, 4) ∷ [])
unfolding copies_of rows_of
touches = (refl, refl, refl)

-- Where the laws of the tables end: counterexamples beyond their premises, computed from the definitions.

abbrev usb_place : ℕ → Place
usb_place n = record { device = codes "usb"; path = n ∷ [] }

abbrev edited : List Entry
edited = entry 1 (Register (usb_place 1)) ∷ entry 2 (Edit 1) ∷ []

-- a report adds a layer only below as many as are kept: of a list of one, two left out are one
no_layer_beyond : table 1 2 1 edited ≡ table 1 1 1 (entry 1 (Register (usb_place 1)) ∷ []) → ⊥
unfolding copies_of
no_layer_beyond same = cc

-- a Confirm keeps layers only as far back as entries stay pending: the table that leaves out one is another
no_layer_behind_a_confirm : (known_to (table 8 1 1 (edited ++ entry 3 (Confirm 2) ∷ [])) 1 ≡ 2 ∷ []) × (known_to (table 8 1 1 edited) 1 ≡ [])
unfolding copies_of
no_layer_behind_a_confirm = (refl, refl)

-- the list of eight refuses less than the list of one
abbrev once_undone : List Entry
once_undone = edited ++ entry 3 (Edit 1) ∷ entry 4 (Withdraw 3) ∷ []

eight_refuses_less : (report_refusal 1 once_undone (living once_undone) (codes "laptop") (Withdraw 2) ≡ Some Settled) × (report_refusal 8 once_undone (living once_undone) (codes "laptop") (Withdraw 2) ≡ None)
unfolding copies_of
eight_refuses_less = (refl, refl)

-- where a Withdraw of a Remove isn't tested for its usb_place, two copies come to one
abbrev two_at_one_place : List Entry
two_at_one_place = entry 1 (Register (usb_place 1)) ∷ entry 2 (Remove 1 None) ∷ entry 3 (Register (usb_place 1)) ∷ entry 4 (Withdraw 2) ∷ []

place_is_tested : AreApart (living two_at_one_place) → ⊥
unfolding copies_of
place_is_tested apart = apart.0.0 refl
