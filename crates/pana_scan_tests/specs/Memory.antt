-- What a disk in memory holds.
use Rattle.std.specs.Prelude.{ℕ, true, List, [], Option, Some, None, drop, find, length, slice_get, string_bytes}
use Rattle.std.specs.Option.{option_map}
use Rattle.std.specs.Str.{bytes_eq}
use Rattle.pana_scan_tests.specs.declared.memory_disk.MemoryDisk.{MemoryDisk}
use Rattle.pana_scan_tests.specs.declared.memory_disk.MemoryFile.{MemoryFile}
use Rattle.pana_scan_tests.specs.declared.memory_disk.MemoryFolder.{MemoryFolder}
use Rattle.pana_scan.specs.Disk.{Tree, Names, Content}
use Rattle.pana_scan.specs.Order.{Path}

-- what is to come of a folder after so many entries; a folder that isn't there fails
abbrev pub names_after : ℕ → Option MemoryFolder → Names
names_after n None = record { entries = []; fails = true }
names_after n (Some folder) = record { entries = drop n folder.entries.items; fails = folder.fails }

-- what is to come of a file after so many bytes, each of which is a read
abbrev pub content_after : ℕ → MemoryFile → Content
content_after n file = record { bytes = drop n file.bytes.items; reads = length (drop n file.bytes.items); fails = file.fails }

-- the same, where a file is open; where none is, a read fails
abbrev pub content_after_open : ℕ → Option MemoryFile → Content
content_after_open n None = record { bytes = []; reads = 0; fails = true }
content_after_open n (Some file) = content_after n file

-- the first of the folders with this path
abbrev pub folder_at : Path → List MemoryFolder → Option MemoryFolder
folder_at path folders = find (λ folder. bytes_eq (string_bytes folder.path) path) folders

-- the first of the files with this path
abbrev pub file_at : Path → List MemoryFile → Option MemoryFile
file_at path files = find (λ file. bytes_eq (string_bytes file.path) path) files

-- its folders and files, by their paths
abbrev pub tree_of : MemoryDisk → Tree
tree_of disk = record {
  names = λ path. names_after 0 (folder_at path disk.folders.items);
  content = λ path. option_map (content_after 0) (file_at path disk.files.items);
}

-- what is to come of the folder that is listed
abbrev pub names_of : MemoryDisk → Names
names_of disk = names_after disk.given (slice_get disk.folders.items disk.folder)

-- what is to come of the file that is open
abbrev pub content_of : MemoryDisk → Content
content_of disk = content_after_open disk.read (slice_get disk.files.items disk.file)
