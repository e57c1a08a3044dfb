-- Worked examples of what it comes to that a file is found at a place, or that none is there.
use Rattle.pana_hall.proofs.Words.{◌≡◌, ℕ, List, [], ◌∷◌, ◌++◌, Some, None, refl, Place, Report, Register, Duplicate, Edit, Reconcile, Merge, Remove, Note, Entry, codes, living}
use Rattle.pana_hall.specs.Living.{copies_of}
use Rattle.pana_hall.specs.declared.decision.Decision.TheVariants.{Known, One, Both}
use Rattle.pana_hall.specs.Finding.{found, missing}

abbrev entry : ℕ → Report → Entry
entry number report = record { number = number; by = codes "laptop"; report = report }

abbrev plan_on : List ℕ → Place
plan_on device = record { device = device; path = codes "plan.txt" }

abbrev laptop : Place
laptop = plan_on (codes "laptop")

abbrev usb : Place
usb = plan_on (codes "usb")

abbrev a : List ℕ
a = codes "a"

abbrev b : List ℕ
b = codes "b"

abbrev c : List ℕ
c = codes "c"

-- a file on a laptop and its copy on a stick, which hold a
abbrev two : List Entry
two = entry 1 (Register laptop (Some a)) ∷ entry 2 (Duplicate 1 usb None) ∷ []

-- a newer copy holds what was found; one in conflict does; or the copy itself; or none
in_a_family : (found (living (two ++ entry 3 (Edit 1 (Some b)) ∷ [])) usb b ≡ One (Reconcile 2 1 (Some b)))
    × (found (living (two ++ entry 3 (Edit 1 (Some b)) ∷ entry 4 (Edit 2 (Some c)) ∷ [])) usb b ≡ One (Merge 2 1 (Some b)))
    × (found (living two) usb a ≡ Known (Some 2)) × (found (living two) usb b ≡ One (Edit 2 (Some b)))
unfolding copies_of found
in_a_family = (refl, refl, refl, refl)

-- a copy alone in its family, of which another family's copy holds what was found at the same path of another device
alone : (found (living (entry 1 (Register laptop (Some a)) ∷ entry 2 (Register usb (Some b)) ∷ [])) usb a ≡ One (Remove 2 None))
    × (found (living (entry 1 (Register laptop (Some a)) ∷ entry 2 (Register usb (Some b)) ∷ entry 3 (Remove 2 None) ∷ [])) usb a ≡ One (Duplicate 1 usb (Some a)))
unfolding copies_of found
alone = (refl, refl)

-- where nothing is known of the copy
unknown : (found (living (entry 1 (Register laptop None) ∷ entry 2 (Duplicate 1 usb (Some a)) ∷ [])) laptop b ≡ Both (Edit 2 (Some a)) (Edit 1 (Some b)))
    × (found (living (entry 1 (Register laptop None) ∷ [])) laptop a ≡ One (Note 1 a)) × (found (living (entry 1 (Register laptop None) ∷ entry 2 (Duplicate 1 usb (Some a)) ∷ [])) laptop a ≡ One (Note 1 a))
unfolding copies_of found
unknown = (refl, refl, refl)

-- where no copy is at the place
new_place : (found (living two) (plan_on (codes "desk")) a ≡ One (Duplicate 1 (plan_on (codes "desk")) (Some a))) × (found (living two) (plan_on (codes "desk")) b ≡ One (Register (plan_on (codes "desk")) (Some b)))
    × (found (living two) (record { device = codes "desk"; path = codes "b" }) a ≡ One (Register (record { device = codes "desk"; path = codes "b" }) (Some a)))
unfolding copies_of found
new_place = (refl, refl, refl)

-- an heir that knows all comes before one that is behind
gone : (missing (living two) usb ≡ One (Remove 2 (Some 1))) × (missing (living (two ++ entry 3 (Duplicate 1 (plan_on (codes "desk")) None) ∷ entry 4 (Edit 2 None) ∷ entry 5 (Reconcile 2 3 None) ∷ [])) usb ≡ One (Remove 2 (Some 3)))
    × (missing (living (two ++ entry 3 (Edit 2 None) ∷ [])) usb ≡ One (Remove 2 (Some 1))) × (missing (living (entry 1 (Register laptop None) ∷ [])) laptop ≡ One (Remove 1 None)) × (missing (living two) (plan_on (codes "desk")) ≡ Known None)
unfolding copies_of missing
gone = (refl, refl, refl, refl, refl)
