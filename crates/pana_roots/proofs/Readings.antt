-- Folders, as they were read.
use Rattle.std.proofs.Common.{◌≡◌, ℕ, Bool, List, Result, Ok, Err, IfOk, IsTrue, subst}
use Rattle.pana_scan.specs.Disk.{Tree}
use Rattle.pana_track.specs.IgnoreFile.{IsBehind}
use Rattle.pana_track.specs.Reading.{ReadsRoot}
use Rattle.pana_track.specs.declared.read_fault.ReadFault.{ReadFault}
use Rattle.pana_track.specs.declared.reading.TrackedListing.{TrackedListing}
use Rattle.pana_roots.specs.Disks.{IsReadOf, IsReadingOf}
use Rattle.pana_roots.specs.Root.{RootView}

module _ {K D : Type 0} (has : K → D → Type 0) (passes : K → List ℕ → List (List ℕ)) (is_known : Bool) (tree : D → Tree) (has_failed : D → Bool) (entries faults : D → ℕ) where
  reading_of : (device : List ℕ) (given : Result TrackedListing ReadFault) → IfOk given (λ found. found.listing.device ≡ device) → IsReadingOf device given
  reading_of device (Ok found) is = is
  reading_of device (Err fault) is = tt

  -- a folder was read without what is passed over there
  pub read_of : (folder : RootView K) (first disk : D) (patterns : List (List ℕ)) (given : Result TrackedListing ReadFault) → has folder.disks first → has folder.disks disk
      → (IsTrue is_known → ReadsRoot (tree first) (tree disk) folder.name folder.device patterns given) → IfOk given (λ found. IsBehind patterns found.patterns) → IfOk given (λ found. found.listing.device ≡ folder.device)
      → patterns ≡ passes folder.disks folder.name → IsReadOf has passes is_known tree has_failed entries faults folder given
  read_of folder first disk patterns given has_first on reads behind device are = record {
    first = first;
    disk = disk;
    has_first = has_first;
    on = on;
    reads = λ known. subst (λ (ps : List (List ℕ)). ReadsRoot (tree first) (tree disk) folder.name folder.device ps given) are (reads known);
    behind = subst (λ (ps : List (List ℕ)). IfOk given (λ found. IsBehind ps found.patterns)) are behind;
    device = reading_of folder.device given device;
  }
