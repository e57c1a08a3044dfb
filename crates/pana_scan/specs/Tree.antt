-- The folders of a root, and what is in them.
use Rattle.std.specs.Prelude.{◌==◌, ℕ, zero, suc, Bool, List, [], ◌∷◌, ◌++◌, Option, Some, None, length, sum_by, count_by}
use Rattle.std.specs.List.{filter_map, flat_map}
use Rattle.std.specs.Option.{option_map}
use Rattle.pana_scan.specs.declared.entry.Entry.{Entry}
use Rattle.pana_scan.specs.declared.folder.FolderAt.{FolderAt}
use Rattle.pana_scan.specs.Disk.{Tree}
use Rattle.pana_scan.specs.Names.{file_in, folder_in, is_skipped, whole_text}
use Rattle.pana_scan.specs.Order.{Path}

-- what listing a folder of the root gives
abbrev pub entries_in : Tree → Path → Option Path → List Entry
entries_in tree root folder = (tree.names (whole_text root folder)).entries

-- the folder that is met, from which so many levels are to be listed
abbrev pub inner_folder : Option Path → ℕ → Entry → Option FolderAt
inner_folder folder levels entry = option_map (λ path. record { path = Some path; levels = levels }) (folder_in folder entry)

-- what each gives, that of the last one first
abbrev pub last_first : {A B : Type 0} → (A → List B) → List A → List B
last_first f [] = []
last_first f (x ∷ xs) = last_first f xs ++ f x

-- a folder and all those in it, so many levels deep; those of the level below are there, with no level left
unfoldable pub folders_from : Tree → Path → ℕ → Option Path → List FolderAt
folders_from tree root zero folder = record { path = folder; levels = 0 } ∷ []
folders_from tree root (suc levels) folder =
    record { path = folder; levels = suc levels }
    ∷ last_first (λ inner. folders_from tree root levels inner.path) (filter_map (inner_folder folder levels) (entries_in tree root folder))

-- the root and its folders: 65 levels with the root's, and those below them, which are too deep
abbrev pub folders_of : Tree → Path → List FolderAt
folders_of tree root = folders_from tree root 65 None

-- whether it is below those levels
abbrev pub is_too_deep : FolderAt → Bool
is_too_deep folder = folder.levels == 0

-- whether listing it fails
abbrev pub fails_at : Tree → Path → FolderAt → Bool
fails_at tree root folder = (tree.names (whole_text root folder.path)).fails

-- the files in these folders
abbrev pub files_of : Tree → Path → List FolderAt → List Path
files_of tree root folders = flat_map (λ folder. filter_map (file_in folder.path) (entries_in tree root folder.path)) folders

-- how many names in these folders are passed over and counted
abbrev pub skipped_of : Tree → Path → List FolderAt → ℕ
skipped_of tree root folders = sum_by (λ folder. count_by (is_skipped folder.path) (entries_in tree root folder.path)) folders

-- how many entries these folders have, of any kind
abbrev pub entries_of : Tree → Path → List FolderAt → ℕ
entries_of tree root folders = sum_by (λ folder. length (entries_in tree root folder.path)) folders
