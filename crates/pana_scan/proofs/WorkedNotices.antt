-- Worked scans of `usb` by contents, computed from the definitions.
use Rattle.std.specs.Prelude.{◌≡◌, ℕ, List, [], ◌∷◌, Option, Some, None, codes}
use Rattle.std.proofs.Common.{refl}
use Rattle.hex.specs.Hex.{encode_with}
use Rattle.pana_calls.specs.declared.holding.Holding.{Holding}
use Rattle.pana_scan.specs.declared.listing.Found.{Found}
use Rattle.pana_scan.specs.declared.listing.Found.TheVariants.{Seen, Unreadable}
use Rattle.pana_scan.specs.declared.listing.FoundRow.{FoundRow}
use Rattle.pana_scan.specs.declared.notices.Notice.TheVariants.{Renamed, Found as FoundAt, Missing}
use Rattle.pana_scan.specs.Order.{Path}
use Rattle.pana_scan.specs.Listing.{Contents}
use Rattle.pana_scan.specs.Notice.{notices_of}

-- two digests, by two bytes that stand for all of theirs, and their sums
abbrev first : List ℕ
first = 186 ∷ 120 ∷ []

abbrev second : List ℕ
second = 227 ∷ 176 ∷ []

abbrev first_sum : List ℕ
first_sum = codes "ba78"

abbrev second_sum : List ℕ
second_sum = codes "e3b0"

abbrev copy : ℕ → Path → Option (List ℕ) → Holding
copy number path sum = record { copy = number; family = number; path = path; sum = sum; touch = number }

abbrev at : Path → Found → FoundRow
at path it = record { path = path; found = it }

abbrev listing : List FoundRow → Contents
listing rows = record { device = codes "usb"; rows = rows; skipped = 0 }

a_rename : notices_of (copy 3 (codes "a") (Some first_sum) ∷ []) (listing (at (codes "b") (Seen first) ∷ []))
    ≡ Renamed 3 (codes "b") ∷ FoundAt (codes "b") first_sum ∷ []
unfolding encode_with
a_rename = refl

-- two new paths, and one absent copy of what they hold: the first takes it
two_new : notices_of (copy 3 (codes "c") (Some first_sum) ∷ []) (listing (at (codes "a") (Seen first) ∷ at (codes "b") (Seen first) ∷ []))
    ≡ Renamed 3 (codes "a") ∷ FoundAt (codes "a") first_sum ∷ FoundAt (codes "b") first_sum ∷ []
unfolding encode_with
two_new = refl

-- two absent copies of one sum, and one new path: it takes the first of them by their paths
two_absent : notices_of (copy 1 (codes "c") (Some first_sum) ∷ copy 2 (codes "a") (Some first_sum) ∷ []) (listing (at (codes "b") (Seen first) ∷ []))
    ≡ Renamed 2 (codes "b") ∷ FoundAt (codes "b") first_sum ∷ Missing (codes "c") ∷ []
unfolding encode_with
two_absent = refl

-- nothing is noticed where a file can't be read
unreadable : notices_of (copy 3 (codes "a") (Some first_sum) ∷ []) (listing (at (codes "a") Unreadable ∷ [])) ≡ []
unfolding encode_with
unreadable = refl

unreadable_and_new : notices_of [] (listing (at (codes "a") Unreadable ∷ [])) ≡ []
unfolding encode_with
unreadable_and_new = refl

-- a copy of which no sum is known isn't renamed
no_sum : notices_of (copy 3 (codes "a") None ∷ []) (listing (at (codes "b") (Seen first) ∷ []))
    ≡ FoundAt (codes "b") first_sum ∷ Missing (codes "a") ∷ []
unfolding encode_with
no_sum = refl

another_sum : notices_of (copy 3 (codes "a") (Some second_sum) ∷ []) (listing (at (codes "b") (Seen first) ∷ []))
    ≡ FoundAt (codes "b") first_sum ∷ Missing (codes "a") ∷ []
unfolding encode_with
another_sum = refl

-- two files that have changed places: both are found, and none was renamed
a_swap : notices_of (copy 1 (codes "a") (Some first_sum) ∷ copy 2 (codes "b") (Some second_sum) ∷ []) (listing (at (codes "a") (Seen second) ∷ at (codes "b") (Seen first) ∷ []))
    ≡ FoundAt (codes "a") second_sum ∷ FoundAt (codes "b") first_sum ∷ []
unfolding encode_with
a_swap = refl
