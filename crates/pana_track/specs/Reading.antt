-- What reading a root that is to be tracked gives.
use Rattle.std.specs.Prelude.{◌⊎◌, ℕ, List, Result, Ok, Err}
use Rattle.pana_ignore.specs.declared.pattern.Pattern.{Pattern}
use Rattle.pana_scan.specs.Disk.{Tree}
use Rattle.pana_scan.specs.Order.{Path}
use Rattle.pana_scan.specs.Scan.{IsScanWithin}
use Rattle.pana_track.specs.declared.read_fault.ReadFault.{ReadFault}
use Rattle.pana_track.specs.declared.read_fault.ReadFault.TheVariants.{Scan, IgnoreFile, TooManyLines, LongLine}
use Rattle.pana_track.specs.declared.reading.TrackedListing.{TrackedListing}
use Rattle.pana_track.specs.IgnoreFile.{HasPatterns}
use Rattle.pana_track.specs.Ignored.{without_ignored}

-- the root has patterns, with which the scan has this fault
abbrev pub IsUnscanned : Tree → Tree → Path → List ℕ → List (List ℕ) → ReadFault → Type 0
IsUnscanned first tree root device more (Scan fault) = (patterns : List Pattern) × HasPatterns first root more (Ok patterns) × IsScanWithin 1000000 (without_ignored patterns root tree) root device (Err fault)
IsUnscanned first tree root device more IgnoreFile = ⊥
IsUnscanned first tree root device more TooManyLines = ⊥
IsUnscanned first tree root device more (LongLine line) = ⊥

-- the root has these patterns, and is scanned on a disk without what they ignore; or there is a reason why not
abbrev pub ReadsRoot : Tree → Tree → Path → List ℕ → List (List ℕ) → Result TrackedListing ReadFault → Type 0
ReadsRoot first tree root device more (Ok found) =
    HasPatterns first root more (Ok found.patterns) × IsScanWithin 1000000 (without_ignored found.patterns root tree) root device (Ok found.listing)
ReadsRoot first tree root device more (Err fault) = HasPatterns first root more (Err fault) ⊎ IsUnscanned first tree root device more fault
