-- Which files needn't be read again.
use Rattle.std.specs.Prelude.{◌≡◌, ◌⊎◌, ℕ, List, [], Option, Some, None}
use Rattle.pana_sums.specs.Table.{Row, inserted, sum_of}
use Rattle.pana_sums.specs.Times.{IsSettled}
use Rattle.pana_sums.specs.declared.file_time.FileTime.{FileTime}
use Rattle.pana_sums.specs.declared.signature.Signature.{Signature}

-- the sum of a file is kept where its signature is settled as the scan begins; else nothing changes
abbrev pub IsKept : FileTime → Signature → List ℕ → List Row → List Row → Type 0
IsKept begun signature digest old new = (IsSettled signature begun × (new ≡ inserted old signature digest)) ⊎ (¬ IsSettled signature begun × (new ≡ old))

-- the sum of a file is that of its signature, where it has one
abbrev pub IsRecalled : List Row → Option Signature → Option (List ℕ) → Type 0
IsRecalled known None result = result ≡ None
IsRecalled known (Some signature) result = result ≡ sum_of known signature

-- the rows of a table that may be there
abbrev pub rows_in : {A : Type 0} → (A → List Row) → Option A → List Row
rows_in rows_of None = []
rows_in rows_of (Some table) = rows_of table
