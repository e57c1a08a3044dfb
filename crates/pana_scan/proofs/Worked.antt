-- A worked story, computed from the definitions: a scan of `usb`, where the baseline has `a` with one fingerprint and
-- touch 2, and the scan finds another.
use Rattle.std.specs.Prelude.{◌≡◌, ℕ, List, [], ◌∷◌, Some, None, codes}
use Rattle.std.proofs.Common.{refl}
use Rattle.pana_journal.specs.declared.report.Report.TheVariants.{Register, Edit, Remove}
use Rattle.pana_calls.specs.declared.holding.Holding.{Holding}
use Rattle.pana_scan.specs.declared.baseline.BaselineRow.{BaselineRow}
use Rattle.pana_scan.specs.declared.listing.Found.{Found}
use Rattle.pana_scan.specs.declared.listing.Found.TheVariants.{Seen, Unreadable}
use Rattle.pana_scan.specs.declared.listing.FoundRow.{FoundRow}
use Rattle.pana_scan.specs.declared.step.Plan.{Plan}
use Rattle.pana_scan.specs.declared.step.Step.{Step}
use Rattle.pana_scan.specs.Order.{Path, in_order}
use Rattle.pana_scan.specs.Listing.{Contents}
use Rattle.pana_scan.specs.Baseline.{settled}
use Rattle.pana_scan.specs.Plan.{plan_of}

-- two fingerprints, by two bytes that stand for all of theirs
abbrev first : List ℕ
first = 186 ∷ 120 ∷ []

abbrev second : List ℕ
second = 227 ∷ 176 ∷ []

abbrev kept : Path → List ℕ → ℕ → BaselineRow
kept path fingerprint touch = record { path = path; mark = record { fingerprint = fingerprint; touch = touch } }

abbrev copy_2 : ℕ → List Holding
copy_2 touch = record { copy = 2; family = 1; path = codes "a"; sum = None; touch = touch } ∷ []

abbrev found : List FoundRow → Contents
found rows = record { device = codes "usb"; rows = rows; skipped = 0 }

abbrev at : Path → Found → FoundRow
at path it = record { path = path; found = it }

abbrev edit_2 : Step
edit_2 = record { path = codes "a"; fingerprint = Some second; report = Edit 2 None }

abbrev remove_2 : Step
remove_2 = record { path = codes "a"; fingerprint = None; report = Remove 2 None }

abbrev register : Path → List ℕ → Step
register path fingerprint = record { path = path; fingerprint = Some fingerprint; report = Register (record { device = codes "usb"; path = path }) None }

abbrev plan_from : List Step → List BaselineRow → Plan
plan_from steps rows = record { steps = steps; baseline = rows }

abbrev before : List BaselineRow
before = kept (codes "a") first 2 ∷ []

edited : plan_of before (copy_2 2) (found (at (codes "a") (Seen second) ∷ [])) ≡ plan_from (edit_2 ∷ []) before
edited = refl

edit_settled : settled before edit_2 7 ≡ kept (codes "a") second 7 ∷ []
edit_settled = refl

changed_by_a_session : plan_of before (copy_2 4) (found (at (codes "a") (Seen second) ∷ [])) ≡ plan_from [] (kept (codes "a") second 4 ∷ [])
changed_by_a_session = refl

unchanged : plan_of before (copy_2 2) (found (at (codes "a") (Seen first) ∷ [])) ≡ plan_from [] before
unchanged = refl

unreadable : plan_of before (copy_2 2) (found (at (codes "a") Unreadable ∷ [])) ≡ plan_from [] before
unreadable = refl

removed : plan_of before (copy_2 2) (found []) ≡ plan_from (remove_2 ∷ []) before
removed = refl

remove_settled : settled before remove_2 8 ≡ []
remove_settled = refl

removed_by_a_session : plan_of before [] (found []) ≡ plan_from [] []
removed_by_a_session = refl

copy_gone : plan_of before [] (found (at (codes "a") (Seen second) ∷ [])) ≡ plan_from [] (kept (codes "a") second 0 ∷ [])
copy_gone = refl

two_paths : plan_of before (copy_2 2) (found (at (codes "a") (Seen second) ∷ at (codes "b") (Seen first) ∷ []))
    ≡ plan_from (edit_2 ∷ register (codes "b") first ∷ []) before
two_paths = refl

registered_elsewhere : plan_of [] (copy_2 2) (found (at (codes "a") (Seen second) ∷ [])) ≡ plan_from [] (kept (codes "a") second 2 ∷ [])
registered_elsewhere = refl

never_scanned : plan_of [] (copy_2 2) (found []) ≡ plan_from [] []
never_scanned = refl

put_in_order : settled (kept (codes "a") first 2 ∷ kept (codes "c") first 3 ∷ []) (register (codes "b") second) 9
    ≡ kept (codes "a") first 2 ∷ kept (codes "b") second 9 ∷ kept (codes "c") first 3 ∷ []
put_in_order = refl

-- a slash is a byte as any other, above a dash and below a letter
slash_in_order : in_order (codes "a/b" ∷ codes "ab" ∷ codes "a-b" ∷ codes "a/b" ∷ codes "a" ∷ []) ≡ codes "a" ∷ codes "a-b" ∷ codes "a/b" ∷ codes "ab" ∷ []
slash_in_order = refl
