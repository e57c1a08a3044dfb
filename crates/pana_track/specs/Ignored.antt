-- A root without what its patterns ignore.
use Rattle.std.specs.Prelude.{ℕ, ◌+◌, Bool, true, false, not, List, ◌∷◌, ◌++◌, map, filter, drop, length, if◌then◌else◌}
use Rattle.pana_calls.specs.declared.holding.Holding.{Holding}
use Rattle.pana_ignore.specs.declared.pattern.Pattern.{Pattern}
use Rattle.pana_ignore.specs.Pattern.{ignores_here, is_ignored}
use Rattle.pana_scan.specs.declared.entry.Entry.{Entry}
use Rattle.pana_scan.specs.declared.entry.Entry.TheVariants.{Named, NotText}
use Rattle.pana_scan.specs.declared.entry.Kind.{Kind}
use Rattle.pana_scan.specs.declared.entry.Kind.TheVariants.{File, Folder, Other, Gone}
use Rattle.pana_scan.specs.Disk.{Names, Tree}
use Rattle.pana_scan.specs.Order.{Path}

-- what stands behind the root and a slash
abbrev pub path_below : Path → List ℕ → Path
path_below root path = drop (length root + 1) path

abbrev pub is_folder : Kind → Bool
is_folder Folder = true
is_folder File = false
is_folder Gone = false
is_folder Other = false

-- an entry of a folder as a scan of the root sees it: what the patterns ignore is neither a file nor a folder
abbrev pub hidden : List Pattern → Path → Path → Entry → Entry
hidden patterns root folder (Named name kind) = Named name (if ignores_here patterns (path_below root (folder ++ 47 ∷ name)) (is_folder kind) then Other else kind)
hidden patterns root folder NotText = NotText

abbrev pub hidden_names : List Pattern → Path → Path → Names → Names
hidden_names patterns root folder names = record { entries = map (hidden patterns root folder) names.entries; fails = names.fails }

-- what a disk holds, as a scan of the root sees it
abbrev pub without_ignored : List Pattern → Path → Tree → Tree
without_ignored patterns root tree = record { names = λ folder. hidden_names patterns root folder (tree.names folder); content = tree.content }

-- whether a copy is tracked: its path isn't ignored
abbrev pub is_tracked : List Pattern → Holding → Bool
is_tracked patterns copy = not (is_ignored patterns copy.path false)

-- the copies that are tracked
abbrev pub tracked : List Pattern → List Holding → List Holding
tracked patterns copies = filter (is_tracked patterns) copies
