-- What a disk holds, and what its calls give.
use Rattle.std.specs.Prelude.{◌≡◌, ◌≢◌, ℕ, ◌+◌, Bool, true, false, List, [], ◌∷◌, ◌++◌, take, Option, Some, None, Result, Ok, Err, if◌then◌else◌}
use Rattle.pana_scan.specs.declared.entry.Entry.{Entry}
use Rattle.pana_scan.specs.declared.disk_fault.DiskFault.{DiskFault}
use Rattle.pana_scan.specs.declared.disk_fault.DiskFault.TheVariants.{Failed, OutOfMemory}
use Rattle.pana_scan.specs.Listing.{counted}
use Rattle.pana_scan.specs.Order.{Path}

-- what listing a folder gives: the entries that are met, one after another, and whether it fails after them
pub record Names : Type 0 where
  pub entries : List Entry
  pub fails : Bool

-- what reading a file gives: its bytes, how many reads they come in, and whether the read after those fails, where else it finds the end
pub record Content : Type 0 where
  pub bytes : List ℕ
  pub reads : ℕ
  pub fails : Bool

-- what a disk holds, by whole paths: what listing a folder gives, and what reading a file gives, where it can be opened
pub record Tree : Type 0 where
  pub names : Path → Names
  pub content : Path → Option Content

-- nothing is to come of a listing but its end, or a failure
abbrev pub IsListed : Names → Bool → Type 0
IsListed names fails = (names.entries ≡ []) × (names.fails ≡ fails)

-- nothing is to come of a file but its end, or a failure
abbrev pub IsRead : Content → Bool → Type 0
IsRead content fails = (content.bytes ≡ []) × (content.reads ≡ 0) × (content.fails ≡ fails)

-- whether a call has failed with memory to spare
abbrev pub is_failure : {T : Type 0} → Result T DiskFault → Bool
is_failure (Ok x) = false
is_failure (Err Failed) = true
is_failure (Err OutOfMemory) = false

-- how many entries were given after a call
abbrev pub entries_after : ℕ → Result (Option Entry) DiskFault → ℕ
entries_after entries (Ok (Some entry)) = counted entries 1
entries_after entries (Ok None) = entries
entries_after entries (Err fault) = entries

-- how many times a file has failed after a call
abbrev pub faults_after : ℕ → Bool → ℕ
faults_after faults failed = if failed then counted faults 1 else faults

-- a folder is about to be listed, or fails at once; where memory runs out, nothing is known
abbrev pub Begins : {T : Type 0} → Names → Result T DiskFault → Names → Type 0
Begins folder (Ok x) left = left ≡ folder
Begins folder (Err Failed) left = IsListed folder true
Begins folder (Err OutOfMemory) left = Unit {0}

-- the next entry is given, or the end, or the failure
abbrev pub Gives : Names → Result (Option Entry) DiskFault → Names → Type 0
Gives old (Ok (Some entry)) new = (old.entries ≡ entry ∷ new.entries) × (old.fails ≡ new.fails)
Gives old (Ok None) new = IsListed old false
Gives old (Err Failed) new = IsListed old true
Gives old (Err OutOfMemory) new = Unit {0}

-- a file is about to be read, or can't be opened
abbrev pub Opens : {T : Type 0} → Option Content → Result T DiskFault → Content → Type 0
Opens file (Ok x) left = file ≡ Some left
Opens file (Err Failed) left = file ≡ None
Opens file (Err OutOfMemory) left = Unit {0}

-- the next of the reads takes the first n bytes of the piece; none are taken at the end
abbrev pub Reads : Content → Result ℕ DiskFault → List ℕ → Content → Type 0
Reads old (Ok n) piece new = (n ≡ 0 → IsRead old false)
    × (n ≢ 0 → (old.bytes ≡ take n piece ++ new.bytes) × (old.reads ≡ new.reads + 1) × (old.fails ≡ new.fails))
Reads old (Err fault) piece new = IsRead old true
