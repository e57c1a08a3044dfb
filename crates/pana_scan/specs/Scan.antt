-- What a scan of a folder returns.
use Rattle.std.specs.Prelude.{◌≡◌, ℕ, ◌+◌, ◌<◌, ◌≤◌, not, ◌&&◌, nat_lt, Bool, true, false, IsTrue, List, Option, Some, None, Result, Ok, Err, All, map, count_by, cond}
use Rattle.std.specs.List.{list_any}
use Rattle.sha2.specs.Sha256.{sha256}
use Rattle.pana_scan.specs.declared.listing.Found.{Found}
use Rattle.pana_scan.specs.declared.listing.Found.TheVariants.{Seen, Unreadable}
use Rattle.pana_scan.specs.declared.listing.FoundRow.{FoundRow}
use Rattle.pana_scan.specs.declared.scan_fault.ScanFault.{ScanFault}
use Rattle.pana_scan.specs.declared.scan_fault.ScanFault.TheVariants.{Folder, TooMany, TooNested, OutOfMemory}
use Rattle.pana_scan.specs.Disk.{Tree, Content}
use Rattle.pana_scan.specs.Listing.{Contents}
use Rattle.pana_scan.specs.Names.{whole_text}
use Rattle.pana_scan.specs.Order.{Path, in_order}
use Rattle.pana_scan.specs.Tree.{folders_of, is_too_deep, fails_at, files_of, skipped_of, entries_of}

-- ---- over a known tree

-- the fingerprint of a file, where so many reads come to its end: the last of them has to find it
abbrev pub digest_of : ℕ → Content → Option (List ℕ)
digest_of most file = cond (not file.fails && nat_lt file.reads most) (Some (sha256 file.bytes)) None

-- a file with its fingerprint, or one that can't be read
abbrev pub seen : Option (List ℕ) → Found
seen (Some digest) = Seen digest
seen None = Unreadable

-- what is found of a file, which 16,777,216 reads may read
abbrev pub found_of : Option Content → Found
found_of None = Unreadable
found_of (Some file) = seen (digest_of 16777216 file)

-- a path with what is found there
abbrev pub row_at : Tree → Path → Path → FoundRow
row_at tree root path = record { path = path; found = found_of (tree.content (whole_text root (Some path))) }

-- all files of a root in byte order, and how many names were passed over
abbrev pub listing_of : Tree → Path → List ℕ → Contents
listing_of tree root device = record {
  device = device;
  rows = map (row_at tree root) (in_order (files_of tree root (folders_of tree root)));
  skipped = skipped_of tree root (folders_of tree root);
}

-- why a root can't be scanned; of memory nothing is known
abbrev pub HasFault : ℕ → Tree → Path → ScanFault → Type 0
HasFault most tree root Folder = list_any (fails_at tree root) (folders_of tree root) ≡ true
HasFault most tree root TooMany = most < entries_of tree root (folders_of tree root)
HasFault most tree root TooNested = list_any is_too_deep (folders_of tree root) ≡ true
HasFault most tree root OutOfMemory = Unit {0}

-- no folder fails or is too deep, and there are at most so many entries
pub record CanBeScanned (most : ℕ) (tree : Tree) (root : Path) : Type 0 where
  pub listed : list_any (fails_at tree root) (folders_of tree root) ≡ false
  pub within : entries_of tree root (folders_of tree root) ≤ most
  pub reached : list_any is_too_deep (folders_of tree root) ≡ false

-- a root that can be scanned is listed, with so many entries at most; or there is a reason
abbrev pub IsScanWithin : ℕ → Tree → Path → List ℕ → Result Contents ScanFault → Type 0
IsScanWithin most tree root device (Ok listing) = CanBeScanned most tree root × (listing ≡ listing_of tree root device)
IsScanWithin most tree root device (Err fault) = HasFault most tree root fault

-- with 100,000 entries at most
abbrev pub IsScan : Tree → Path → List ℕ → Result Contents ScanFault → Type 0
IsScan tree root device result = IsScanWithin 100000 tree root device result

-- the files on each of these disks are those of the tree
abbrev pub HaveFiles : {D : Type 0} → (D → Tree) → Tree → List D → Type 0
HaveFiles tree_of tree disks = All (λ disk. (tree_of disk).content ≡ tree.content) disks

-- ---- over any disk, by whether a listing has failed, how many entries were given, and how often a file has failed

-- nothing was read yet
abbrev pub IsFresh : Bool → ℕ → ℕ → Type 0
IsFresh has_failed entries faults = (has_failed ≡ false) × (entries ≡ 0) × (faults ≡ 0)

-- whether a listing has failed
abbrev pub is_unlisted : {T : Type 0} → Result T ScanFault → Bool
is_unlisted (Ok x) = false
is_unlisted (Err Folder) = true
is_unlisted (Err TooMany) = false
is_unlisted (Err TooNested) = false
is_unlisted (Err OutOfMemory) = false

-- whether a file couldn't be read
abbrev pub is_unreadable : Found → Bool
is_unreadable Unreadable = true
is_unreadable (Seen digest) = false

-- how many files couldn't be read
abbrev pub unreadable_count : List FoundRow → ℕ
unreadable_count rows = count_by (λ row. is_unreadable row.found) rows

-- how many entries were met: at most so many, and one more with `TooMany`
abbrev pub HasMet : {T : Type 0} → ℕ → ℕ → Result T ScanFault → Type 0
HasMet most entries (Ok x) = entries ≤ most
HasMet most entries (Err TooMany) = entries ≡ most + 1
HasMet most entries (Err Folder) = entries ≤ most
HasMet most entries (Err TooNested) = entries ≤ most
HasMet most entries (Err OutOfMemory) = entries ≤ most

-- each time that a file has failed, it is listed as one that couldn't be read
abbrev pub HasFaults : ℕ → Result Contents ScanFault → Type 0
HasFaults faults (Ok listing) = faults ≤ unreadable_count listing.rows
HasFaults faults (Err fault) = Unit {0}

-- ---- both: what is said of a scan

pub record IsScanned (is_known : Bool) (tree : Tree) (root : Path) (device : List ℕ) (has_failed : Bool) (entries faults : ℕ) (result : Result Contents ScanFault) : Type 0 where
  pub known : IsTrue is_known → IsScan tree root device result
  pub failed : has_failed ≡ is_unlisted result
  pub met : HasMet 100000 entries result
  pub unread : HasFaults faults result
