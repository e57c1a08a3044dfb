-- The folders of roots that words name.
use Rattle.std.proofs.Common.{◌≡◌, ℕ, List, [], ◌∷◌, map, refl, ap, ◌∙◌}
use Rattle.pana_roots.specs.declared.root.Root.{Root}
use Rattle.pana_roots.specs.Root.{RootView, device_of, folder_of, folders_named, folders_of}

module _ {K : Type 0} (disks : K) where
  abbrev with_names : List ℕ → List ℕ → RootView K
  with_names device folder = record { device = device; name = folder; disks = disks }

  -- the roots are those of the words where their devices and their folders are
  pub named_so : (roots : List Root) (words : List (List ℕ)) → map (λ root. root.device) roots ≡ map device_of words → map (λ root. root.folder.now) roots ≡ map folder_of words
      → folders_of disks roots ≡ folders_named disks words
  named_so [] [] devices folders = refl
  named_so [] (word ∷ words) devices folders = absurd (cc)
  named_so (root ∷ roots) [] devices folders = absurd (cc)
  named_so (root ∷ roots) (word ∷ words) devices folders =
      let device : root.device ≡ device_of word = cc (devices) in
      let folder : root.folder.now ≡ folder_of word = cc (folders) in
      let more_devices : map (λ r. r.device) roots ≡ map device_of words = cc (devices) in
      let more_folders : map (λ r. r.folder.now) roots ≡ map folder_of words = cc (folders) in
      ap (λ (d : List ℕ). with_names d root.folder.now ∷ folders_of disks roots) device ∙ ap (λ (f : List ℕ). with_names (device_of word) f ∷ folders_of disks roots) folder
      ∙ ap (λ (rest : List (RootView K)). with_names (device_of word) (folder_of word) ∷ rest) (named_so roots words more_devices more_folders)
