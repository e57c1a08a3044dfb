-- What is passed over in folders.
use Rattle.std.specs.Prelude.{ℕ, List, [], ◌∷◌, bytes_eq, if◌then◌else◌, map}
use Rattle.pana_files.specs.declared.system_disks.PassedOver.{PassedOver}

-- the patterns of what is passed over in a folder: the first that are given for it
abbrev pub passed_in : List PassedOver → List ℕ → List (List ℕ)
passed_in [] folder = []
passed_in (passed ∷ others) folder = if bytes_eq passed.folder.now folder then map (λ text. text.now) passed.patterns.now else passed_in others folder
