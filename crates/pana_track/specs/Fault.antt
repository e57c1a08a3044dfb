-- How faults of tracking are shown.
use Rattle.std.specs.Prelude.{ℕ, List, codes, decimal, ◌++◌}
use Rattle.pana_ignore.specs.declared.patterns_fault.PatternsFault.{PatternsFault}
use Rattle.pana_ignore.specs.declared.patterns_fault.PatternsFault.TheVariants as patterns
use Rattle.pana_scan.specs.Fault.{shown_scan_fault}
use Rattle.pana_scan.specs.declared.scan_fault.ScanFault.TheVariants as scan
use Rattle.pana_track.specs.declared.fault.TrackFault.{TrackFault}
use Rattle.pana_track.specs.declared.fault.TrackFault.TheVariants.{Empty, NotKept, OutOfMemory}
use Rattle.pana_track.specs.declared.read_fault.ReadFault.{ReadFault}
use Rattle.pana_track.specs.declared.read_fault.ReadFault.TheVariants.{Scan, IgnoreFile, TooManyLines, LongLine}

abbrev pub shown_track_fault : TrackFault → List ℕ
shown_track_fault Empty = codes "folder is empty"
shown_track_fault NotKept = codes "report not kept"
shown_track_fault OutOfMemory = codes "out of memory"

abbrev pub shown_read_fault : ReadFault → List ℕ
shown_read_fault (Scan fault) = shown_scan_fault fault
shown_read_fault IgnoreFile = codes "cannot read .panadignore"
shown_read_fault TooManyLines = codes ".panadignore has more than 10,000 lines"
shown_read_fault (LongLine line) = codes ".panadignore, line " ++ (decimal line ++ codes " is longer than 4,096 bytes")

-- why a root can't be read where its patterns weren't taken
abbrev pub patterns_read_fault : PatternsFault → ReadFault
patterns_read_fault patterns.TooManyLines = TooManyLines
patterns_read_fault (patterns.LongLine line) = LongLine line
patterns_read_fault patterns.OutOfMemory = Scan scan.OutOfMemory
