-- What the names in a folder stand for, by paths relative to the root.
use Rattle.std.specs.Prelude.{not, Bool, true, false, cond, List, ◌∷◌, ◌++◌, ℕ, Option, Some, None, is_some}
use Rattle.pana_copies.specs.Names.{is_path}
use Rattle.pana_scan.specs.declared.entry.Entry.{Entry}
use Rattle.pana_scan.specs.declared.entry.Entry.TheVariants.{Named, NotText}
use Rattle.pana_scan.specs.declared.entry.Kind.TheVariants.{File, Folder, Other, Gone}
use Rattle.pana_scan.specs.Order.{Path}

-- the path of a name in a folder, or in the root
abbrev pub inner_text : Option Path → List ℕ → List ℕ
inner_text None name = name
inner_text (Some folder) name = folder ++ 47 ∷ name

-- the path by which the disk knows what is in the root, or the root
abbrev pub whole_text : List ℕ → Option Path → List ℕ
whole_text root None = root
whole_text root (Some path) = root ++ 47 ∷ path

-- the text as a copy's path, where it is one
abbrev pub taken_path : List ℕ → Option Path
taken_path text = cond (is_path text) (Some text) None

-- the path of a name in a folder, where it is a copy's path
abbrev pub path_in : Option Path → List ℕ → Option Path
path_in folder name = taken_path (inner_text folder name)

-- the file that is met: a regular file, or what was gone before it could be looked at
abbrev pub file_in : Option Path → Entry → Option Path
file_in folder (Named name File) = path_in folder name
file_in folder (Named name Gone) = path_in folder name
file_in folder (Named name Folder) = None
file_in folder (Named name Other) = None
file_in folder NotText = None

-- the folder that is met
abbrev pub folder_in : Option Path → Entry → Option Path
folder_in folder (Named name Folder) = path_in folder name
folder_in folder (Named name File) = None
folder_in folder (Named name Gone) = None
folder_in folder (Named name Other) = None
folder_in folder NotText = None

-- whether the name is passed over and counted: it isn't UTF-8, or a file or a folder whose path isn't a copy's path
abbrev pub is_skipped : Option Path → Entry → Bool
is_skipped folder (Named name File) = not (is_some (path_in folder name))
is_skipped folder (Named name Gone) = not (is_some (path_in folder name))
is_skipped folder (Named name Folder) = not (is_some (path_in folder name))
is_skipped folder (Named name Other) = false
is_skipped folder NotText = true
