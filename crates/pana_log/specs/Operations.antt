-- The operations of a device in memory: what is read after them, and what a crash may leave.
use Rattle.std.specs.Prelude.{◌≡◌, ◌⊎◌, ℕ, ◌+◌, ◌≤◌, List, [], ◌∷◌, ◌++◌, length, take, drop}
use Rattle.std.proofs.Common.{sym, subst}
use Rattle.std.proofs.Math.Nat.{le_refl}
use Rattle.std.proofs.lemmas.List.{take_all}
use Rattle.pana_log.specs.declared.operation.Operation.{Operation}
use Rattle.pana_log.specs.declared.operation.Operation.TheVariants.{Write, Cut, Sync}
use Rattle.pana_log.specs.Device.{Torn, IsCut}

-- the file as it is read after a operation
abbrev pub file_after : Operation → List ℕ → List ℕ
file_after (Write at bytes) file = take at file ++ bytes.items ++ drop (at + length bytes.items) file
file_after (Cut len) file = take len file
file_after Sync file = file

-- what a crash may leave after a operation, from what was read and what a crash might have left before it
abbrev pub LeftAfter : Operation → List ℕ → (List ℕ → Type 0) → List ℕ → Type 0
LeftAfter (Write at bytes) file left c = (c ≡ file_after (Write at bytes) file) ⊎ ((d : List ℕ) × left d × Torn at (length bytes.items) d c)
LeftAfter (Cut len) file left c = (c ≡ take len file) ⊎ ((d : List ℕ) × left d × IsCut len d c)
LeftAfter Sync file left c = c ≡ file

-- the file as it is read after all of the operations
abbrev pub file_of : List ℕ → List Operation → List ℕ
file_of file [] = file
file_of file (operation ∷ operations) = file_of (file_after operation file) operations

-- what a crash may leave after all of the operations
abbrev pub Left : List ℕ → (List ℕ → Type 0) → List Operation → List ℕ → Type 0
Left file left [] c = left c
Left file left (operation ∷ operations) c = Left (file_after operation file) (LeftAfter operation file left) operations c

-- the same, where the file was on the disk at first
abbrev pub MayLeave : List ℕ → List Operation → List ℕ → Type 0
MayLeave first operations c = Left first (λ d. d ≡ first) operations c

-- what a crash might have left after the first t operations, or after more of them
abbrev pub LeftSince : List ℕ → List Operation → ℕ → List ℕ → Type 0
LeftSince first operations t c = (k : ℕ) × (t ≤ k) × (k ≤ length operations) × MayLeave first (take k operations) c

-- this moment is one of those since an earlier one
pub left_now : (first : List ℕ) (operations : List Operation) (t : ℕ) (c : List ℕ) → t ≤ length operations → MayLeave first operations c → LeftSince first operations t c
left_now first operations t c within left = (length operations, within, le_refl (length operations), subst (λ (l : List Operation). MayLeave first l c) (sym (take_all (length operations) operations (le_refl (length operations)))) left)

-- since this moment there is no other
pub left_last : (first : List ℕ) (operations : List Operation) (c : List ℕ) → LeftSince first operations (length operations) c → MayLeave first operations c
left_last first operations c since = subst (λ (l : List Operation). MayLeave first l c) (take_all since.0 operations since.1) since.3
