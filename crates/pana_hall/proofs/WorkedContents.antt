-- Worked examples of what copies hold, computed from the definitions.
use Rattle.pana_hall.proofs.Words.{◌≡◌, ℕ, List, [], ◌∷◌, ◌++◌, Option, Some, None, map, refl, Place, Report, Register, Duplicate, Edit, Reconcile, Merge, Relocate, Remove, Note, Withdraw, Entry, codes, living}
use Rattle.pana_hall.specs.Living.{copies_of, sum_of}

abbrev entry : ℕ → Report → Entry
entry number report = record { number = number; by = codes "laptop"; report = report }

abbrev plan_on : List ℕ → Place
plan_on device = record { device = device; path = codes "plan.txt" }

-- what the living copies hold, by rising number
abbrev sums : List Entry → List (Option (List ℕ))
sums journal = map sum_of (living journal)

abbrev a : Option (List ℕ)
a = Some (codes "a")

abbrev b : Option (List ℕ)
b = Some (codes "b")

-- a first copy holds what is said, and a duplicate what its source holds, or what is said
abbrev two : List Entry
two = entry 1 (Register (plan_on (codes "laptop")) a) ∷ entry 2 (Duplicate 1 (plan_on (codes "usb")) None) ∷ []

begun_and_duplicated : (sums two ≡ a ∷ a ∷ []) × (sums (entry 1 (Register (plan_on (codes "laptop")) None) ∷ []) ≡ None ∷ [])
    × (sums (two ++ entry 3 (Duplicate 1 (plan_on (codes "desk")) b) ∷ []) ≡ a ∷ a ∷ b ∷ [])
unfolding copies_of
begun_and_duplicated = (refl, refl, refl)

-- an edit without a sum leaves what the copy holds unknown; a note says it, and touches it
edited_and_noted : (sums (two ++ entry 3 (Edit 2 None) ∷ []) ≡ a ∷ None ∷ []) × (sums (two ++ entry 3 (Edit 2 b) ∷ []) ≡ a ∷ b ∷ [])
    × (sums (two ++ entry 3 (Edit 2 None) ∷ entry 4 (Note 2 (codes "b")) ∷ []) ≡ a ∷ b ∷ [])
    × (map {B = ℕ × List ℕ} (λ copy. (copy.known.touch, copy.known.set)) (living (two ++ entry 3 (Note 2 (codes "b")) ∷ [])) ≡ (1, []) ∷ (3, []) ∷ [])
unfolding copies_of
edited_and_noted = (refl, refl, refl, refl)

-- of two that are reconciled the older one gets what the other holds; of others both keep what both hold
reconciled : (sums (two ++ entry 3 (Edit 2 b) ∷ entry 4 (Reconcile 1 2 None) ∷ []) ≡ b ∷ b ∷ []) × (sums (two ++ entry 3 (Edit 2 b) ∷ entry 4 (Reconcile 2 1 None) ∷ []) ≡ b ∷ b ∷ [])
    × (sums (two ++ entry 3 (Reconcile 1 2 None) ∷ []) ≡ a ∷ a ∷ []) × (sums (two ++ entry 3 (Note 2 (codes "b")) ∷ entry 4 (Reconcile 1 2 None) ∷ []) ≡ None ∷ None ∷ [])
    × (sums (two ++ entry 3 (Edit 1 a) ∷ entry 4 (Edit 2 b) ∷ entry 5 (Reconcile 1 2 None) ∷ []) ≡ None ∷ None ∷ [])
    × (sums (two ++ entry 3 (Edit 1 b) ∷ entry 4 (Edit 2 b) ∷ entry 5 (Reconcile 1 2 None) ∷ []) ≡ b ∷ b ∷ []) × (sums (two ++ entry 3 (Reconcile 1 2 b) ∷ []) ≡ b ∷ b ∷ [])
unfolding copies_of
reconciled = (refl, refl, refl, refl, refl, refl, refl)

-- what merged copies hold is known where it is said
merged : (sums (two ++ entry 3 (Merge 1 2 b) ∷ []) ≡ b ∷ b ∷ []) × (sums (two ++ entry 3 (Merge 1 2 None) ∷ []) ≡ None ∷ None ∷ [])
unfolding copies_of
merged = (refl, refl)

-- a copy that is moved holds what it held, and a withdrawn entry is as if it had never been
moved_and_withdrawn : (sums (two ++ entry 3 (Relocate 2 (plan_on (codes "desk"))) ∷ []) ≡ a ∷ a ∷ []) × (sums (two ++ entry 3 (Edit 2 b) ∷ entry 4 (Withdraw 3) ∷ []) ≡ a ∷ a ∷ [])
    × (sums (two ++ entry 3 (Remove 2 None) ∷ entry 4 (Withdraw 3) ∷ []) ≡ a ∷ a ∷ []) × (sums (two ++ entry 3 (Merge 1 2 b) ∷ entry 4 (Withdraw 3) ∷ []) ≡ a ∷ a ∷ [])
unfolding copies_of
moved_and_withdrawn = (refl, refl, refl, refl)
