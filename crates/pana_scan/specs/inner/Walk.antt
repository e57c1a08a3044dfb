-- Steps of a scan: a folder that is listed, all folders, and the files that are in them.
use Rattle.std.specs.Prelude.{◌≡◌, ℕ, ◌+◌, ◌<◌, true, false, List, [], ◌∷◌, ◌++◌, Option, Some, None, Result, Ok, Err, length, count_by}
use Rattle.std.specs.List.{filter_map}
use Rattle.std.specs.Option.{option_to_list}
use Rattle.pana_scan.specs.declared.entry.Entry.{Entry}
use Rattle.pana_scan.specs.declared.entry.Kind.{Kind}
use Rattle.pana_scan.specs.declared.entry.Kind.TheVariants as kinds
use Rattle.pana_scan.specs.declared.folder.Files.{Files}
use Rattle.pana_scan.specs.declared.folder.FolderAt.{FolderAt}
use Rattle.pana_scan.specs.declared.folder.Gathered.{Gathered}
use Rattle.pana_scan.specs.declared.scan_fault.ScanFault.{ScanFault}
use Rattle.pana_scan.specs.declared.scan_fault.ScanFault.TheVariants.{Folder, TooMany, TooNested, OutOfMemory}
use Rattle.pana_scan.specs.Disk.{Tree}
use Rattle.pana_scan.specs.Names.{file_in, is_skipped}
use Rattle.pana_scan.specs.Order.{Path, in_order}
use Rattle.pana_scan.specs.Scan.{CanBeScanned, HasFault}
use Rattle.pana_scan.specs.Tree.{entries_in, fails_at, files_of, folders_of, inner_folder, is_too_deep, skipped_of}

-- the folder that is kept of a path
abbrev pub kept_folder : Kind → Option Path → ℕ → List FolderAt
kept_folder kinds.Folder (Some path) levels = record { path = Some path; levels = levels } ∷ []
kept_folder kinds.Folder None levels = []
kept_folder kinds.File path levels = []
kept_folder kinds.Other path levels = []
kept_folder kinds.Gone path levels = []

-- the file that is kept of a path
abbrev pub kept_file : Kind → Option Path → List Path
kept_file kinds.Folder path = []
kept_file kinds.File path = option_to_list path
kept_file kinds.Other path = option_to_list path
kept_file kinds.Gone path = option_to_list path

-- what is kept of these entries of a folder, from which so many levels may be listed
pub record Keeps (folder : Option Path) (levels : ℕ) (entries : List Entry) (old new : Gathered) : Type 0 where
  pub folders : new.folders.items ≡ old.folders.items ++ filter_map (inner_folder folder levels) entries
  pub files : new.files.items ≡ old.files.items ++ filter_map (file_in folder) entries
  -- a count of 64 bits, which no scan reaches
  pub skipped : old.skipped + count_by (is_skipped folder) entries < 18446744073709551616 → new.skipped ≡ old.skipped + count_by (is_skipped folder) entries

-- a folder was listed to its end
pub record IsListedTo (tree : Tree) (root : Path) (folder : FolderAt) (entries : ℕ) (old : Gathered) (after : ℕ) (new : Gathered) : Type 0 where
  pub levels : ℕ
  pub is : folder.levels ≡ levels + 1
  pub keeps : Keeps folder.path levels (entries_in tree root folder.path) old new
  pub met : after ≡ entries + length (entries_in tree root folder.path)
  pub listed : fails_at tree root folder ≡ false

-- a folder was listed, or there is a reason why not
abbrev pub IsFolderRead : {T : Type 0} → ℕ → Tree → Path → FolderAt → ℕ → Gathered → Result T ScanFault → ℕ → Gathered → Type 0
IsFolderRead most tree root folder entries old (Ok x) after new = IsListedTo tree root folder entries old after new
IsFolderRead most tree root folder entries old (Err Folder) after new = fails_at tree root folder ≡ true
IsFolderRead most tree root folder entries old (Err TooMany) after new = most < entries + length (entries_in tree root folder.path)
IsFolderRead most tree root folder entries old (Err TooNested) after new = is_too_deep folder ≡ true
IsFolderRead most tree root folder entries old (Err OutOfMemory) after new = Unit {0}

-- all folders were listed, or there is a reason why not
abbrev pub IsGathered : ℕ → Tree → Path → Result Gathered ScanFault → Type 0
IsGathered most tree root (Ok all) =
    CanBeScanned most tree root × (all.files.items ≡ files_of tree root (folders_of tree root)) × (all.skipped ≡ skipped_of tree root (folders_of tree root))
IsGathered most tree root (Err fault) = HasFault most tree root fault

-- all files are known, each once and in byte order, or there is a reason why not
abbrev pub AreFiles : ℕ → Tree → Path → Result Files ScanFault → Type 0
AreFiles most tree root (Ok files) =
    CanBeScanned most tree root × (files.paths.items ≡ in_order (files_of tree root (folders_of tree root))) × (files.skipped ≡ skipped_of tree root (folders_of tree root))
AreFiles most tree root (Err fault) = HasFault most tree root fault
