-- Why a folder can't be scanned, and how it is printed.
use Rattle.std.specs.Prelude.{ℕ, List, codes}
use Rattle.pana_scan.specs.declared.disk_fault.DiskFault.{DiskFault}
use Rattle.pana_scan.specs.declared.disk_fault.DiskFault.TheVariants as disk
use Rattle.pana_scan.specs.declared.scan_fault.ScanFault.{ScanFault}
use Rattle.pana_scan.specs.declared.scan_fault.ScanFault.TheVariants.{Folder, TooMany, TooNested, OutOfMemory}

abbrev pub shown_scan_fault : ScanFault → List ℕ
shown_scan_fault Folder = codes "cannot list folder"
shown_scan_fault TooMany = codes "too many entries"
shown_scan_fault TooNested = codes "folders too deep"
shown_scan_fault OutOfMemory = codes "out of memory"

-- why a scan ends where listing a folder fails
abbrev pub listing_fault : DiskFault → ScanFault
listing_fault disk.Failed = Folder
listing_fault disk.OutOfMemory = OutOfMemory
