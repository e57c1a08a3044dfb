-- Parts of finding the patterns of a root.
use Rattle.std.specs.Prelude.{◌≡◌, Bool, Option, None, option_and_then, Result, Ok, Err}
use Rattle.std.specs.List.{list_any}
use Rattle.pana_scan.specs.declared.scan_fault.ScanFault.TheVariants as scan
use Rattle.pana_scan.specs.Disk.{Content, Names}
use Rattle.pana_track.specs.declared.read_fault.ReadFault.{ReadFault}
use Rattle.pana_track.specs.declared.read_fault.ReadFault.TheVariants.{Scan, IgnoreFile, TooManyLines, LongLine}
use Rattle.pana_track.specs.IgnoreFile.{IsUnlisted, is_ignore_file, text_of}

-- the entries were searched for the file, or there is a reason
abbrev pub Searches : Names → Result Bool ReadFault → Type 0
Searches names (Ok has) = has ≡ list_any is_ignore_file names.entries
Searches names (Err (Scan fault)) = IsUnlisted names fault
Searches names (Err IgnoreFile) = ⊥
Searches names (Err TooManyLines) = ⊥
Searches names (Err (LongLine line)) = ⊥

-- why the file's text wasn't read
abbrev pub IsUnread : Option Content → ReadFault → Type 0
IsUnread file IgnoreFile = option_and_then text_of file ≡ None
IsUnread file (Scan scan.OutOfMemory) = Unit {0}
IsUnread file (Scan scan.Folder) = ⊥
IsUnread file (Scan scan.TooMany) = ⊥
IsUnread file (Scan scan.TooNested) = ⊥
IsUnread file TooManyLines = ⊥
IsUnread file (LongLine line) = ⊥
