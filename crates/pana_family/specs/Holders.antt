-- What holders are: a copy has none, and a parcel is held by a copy.
use Rattle.std.specs.Prelude.{ℕ, Bool, true, false, ◌==◌, not, List, filter, Option, Some, None, if◌then◌else◌}

-- the list but for those that pass the test
abbrev pub leave : {A : Type 0} → (A → Bool) → List A → List A
leave test xs = filter (λ x. not (test x)) xs

-- whether it is a copy, and not a parcel
abbrev pub is_copy : Option ℕ → Bool
is_copy None = true
is_copy (Some holder) = false

-- whether it is a parcel that the copy holds
abbrev pub is_held : ℕ → Option ℕ → Bool
is_held copy None = false
is_held copy (Some holder) = holder == copy

-- the holder once the heir holds what the copy held
abbrev pub passed : ℕ → ℕ → Option ℕ → Option ℕ
passed copy heir None = None
passed copy heir (Some holder) = if holder == copy then Some heir else Some holder
