-- What is ignored in a folder.
use Rattle.std.specs.Prelude.{◌≡◌, ℕ, ◌==◌, Bool, true, false, ◌||◌, List, ◌∷◌, ◌++◌}
use Rattle.std.specs.List.{list_any}
use Rattle.pana_ignore.specs.declared.pattern.Pattern.{Pattern}
use Rattle.pana_ignore.specs.Pattern.{ignores_here, is_ignored}

-- what is in a folder is ignored where the folder is, and else where the patterns say so of this very path
abbrev pub AFolderDecidesFirst : Type 0
AFolderDecidesFirst =
    (patterns : List Pattern) (folder name : List ℕ) (is_folder : Bool) → list_any (λ b. b == 47) name ≡ false
    → is_ignored patterns (folder ++ (47 ∷ name)) is_folder ≡ (is_ignored patterns folder true || ignores_here patterns (folder ++ (47 ∷ name)) is_folder)
