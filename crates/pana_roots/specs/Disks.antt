-- What is found of a root's folder, on disks that were given for it.
use Rattle.std.specs.Prelude.{◌≡◌, ℕ, IsTrue, IfOk, Bool, List, Result, Ok, Err}
use Rattle.pana_scan.specs.Disk.{Tree}
use Rattle.pana_scan.specs.Listing.{Contents}
use Rattle.pana_scan.specs.Scan.{IsScanned}
use Rattle.pana_scan.specs.declared.scan_fault.ScanFault.{ScanFault}
use Rattle.pana_track.specs.IgnoreFile.{IsBehind}
use Rattle.pana_track.specs.Reading.{ReadsRoot}
use Rattle.pana_track.specs.declared.read_fault.ReadFault.{ReadFault}
use Rattle.pana_track.specs.declared.reading.TrackedListing.{TrackedListing}
use Rattle.pana_roots.specs.Root.{RootView}

-- a listing is of this device
abbrev pub IsListingOf : List ℕ → Result Contents ScanFault → Type 0
IsListingOf device (Ok listing) = listing.device ≡ device
IsListingOf device (Err fault) = Unit {0}

-- and so is what was read of a folder that is tracked
abbrev pub IsReadingOf : List ℕ → Result TrackedListing ReadFault → Type 0
IsReadingOf device (Ok found) = found.listing.device ≡ device
IsReadingOf device (Err fault) = Unit {0}

module _ {K D : Type 0} (has : K → D → Type 0) (passes : K → List ℕ → List (List ℕ)) (is_known : Bool) (tree : D → Tree) (has_failed : D → Bool) (entries faults : D → ℕ) where
  -- what was found, or why nothing was: it comes of scanning this folder, by its device, on a disk that was given for this scan
  pub record IsScanOf (folder : RootView K) (given : Result Contents ScanFault) : Type 0 where
    pub disk : D
    pub disk_left : D
    pub on : has folder.disks disk
    pub scan : IsScanned is_known (tree disk) folder.name folder.device (has_failed disk_left) (entries disk_left) (faults disk_left) given
    pub device : IsListingOf folder.device given

  -- what was read of this folder, by its device, to be tracked: its patterns on one disk that was given for it, and then its
  -- files on another, without what these patterns and those of what is passed over there ignore
  pub record IsReadOf (folder : RootView K) (given : Result TrackedListing ReadFault) : Type 0 where
    pub first : D
    pub disk : D
    pub has_first : has folder.disks first
    pub on : has folder.disks disk
    pub reads : IsTrue is_known → ReadsRoot (tree first) (tree disk) folder.name folder.device (passes folder.disks folder.name) given
    pub behind : IfOk given (λ found. IsBehind (passes folder.disks folder.name) found.patterns)
    pub device : IsReadingOf folder.device given
