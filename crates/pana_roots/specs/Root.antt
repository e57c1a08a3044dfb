-- Roots: words that name a device and its folder, as DEVICE=DIR.
use Rattle.std.specs.Borrow.{Bor}
use Rattle.std.specs.Prelude.{ℕ, Bool, not, leb, ◌==◌, ◌||◌, bytes_eq, map, List, [], ◌∷◌, ◌++◌, length, if◌then◌else◌, Option, Some, None}
use Rattle.std.specs.List.{before_first, after_first, list_any}
use Rattle.pana_copies.specs.Names.{is_device}
use Rattle.pana_roots.specs.declared.root.Root.{Root}

-- the device: what stands before the first `=`
abbrev pub device_of : List ℕ → List ℕ
device_of word = before_first (λ byte. byte == 61) word

-- the folder: what stands behind it, which is nothing where there is no `=`
abbrev pub folder_of : List ℕ → List ℕ
folder_of word = after_first (λ byte. byte == 61) word

-- whether a word names no root, where earlier ones name these devices
abbrev pub is_bad_root : List (List ℕ) → List ℕ → Bool
is_bad_root devices word = not (is_device (device_of word)) || length (folder_of word) == 0 || list_any (λ device. bytes_eq device (device_of word)) devices || leb 8 (length devices)

-- the first of the words that names no root, where earlier ones name these devices
abbrev pub first_bad : List (List ℕ) → List (List ℕ) → Option (List ℕ)
first_bad devices [] = None
first_bad devices (word ∷ words) = if is_bad_root devices word then Some word else first_bad (devices ++ device_of word ∷ []) words

-- the texts that slices refer to
abbrev pub texts : List (Bor (List ℕ)) → List (List ℕ)
texts words = map (λ word. word.now) words

-- a root: its device, the name of its folder, and the disks on which that is read
pub record RootView (K : Type 0) : Type 0 where
  pub device : List ℕ
  pub name : List ℕ
  pub disks : K

-- the root, on these disks
abbrev pub folder_at : {K : Type 0} → K → Root → RootView K
folder_at disks root = record { device = root.device; name = root.folder.now; disks = disks }

-- the roots, which are read on these disks
abbrev pub folders_of : {K : Type 0} → K → List Root → List (RootView K)
folders_of disks roots = map (λ root. folder_at disks root) roots

-- the roots that words name
abbrev pub folders_named : {K : Type 0} → K → List (List ℕ) → List (RootView K)
folders_named disks words = map (λ word. record { device = device_of word; name = folder_of word; disks = disks }) words
