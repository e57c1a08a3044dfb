-- Which files and copies are paired: from either side, each in turn takes the first that is left with its sum.
use Rattle.std.specs.Prelude.{◌≡◌, ℕ, Bool, false, cond, List, [], ◌∷◌, Option, Some, None, map, filter}
use Rattle.std.specs.List.{list_any}
use Rattle.std.specs.Str.{bytes_eq}
use Rattle.pana_calls.specs.declared.holding.Holding.{Holding}
use Rattle.pana_scan.specs.declared.pool.Waiting.{Waiting}
use Rattle.pana_scan.specs.Notice.{File, is_known, without_first}
use Rattle.pana_scan.specs.inner.Pool.{waiting}

-- what waits with a sum is made of those of these of which that sum is known
abbrev pub Waits : {X T : Type 0} → (X → Option (List ℕ)) → (X → T) → List (Waiting T) → List X → Type 0
Waits known item rows xs = (sum : List ℕ) → waiting sum rows ≡ map item (filter (λ x. is_known sum (known x)) xs)

-- the numbers of these copies wait
abbrev pub CopiesWait : List (Waiting ℕ) → List Holding → Type 0
CopiesWait rows copies = Waits (λ copy. copy.sum) (λ copy. copy.copy) rows copies

-- these files wait
abbrev pub FilesWait : List (Waiting (Unit {0})) → List File → Type 0
FilesWait rows files = Waits (λ file. Some file.sum) (λ file. tt) rows files

-- whether the file has the sum that is known
abbrev pub fits : Option (List ℕ) → File → Bool
fits None file = false
fits (Some sum) file = bytes_eq file.sum sum

-- each copy in turn takes the first file that is left and fits: the copies that find none, and the files that are left
abbrev pub unpaired : List File → List Holding → List Holding
unpaired files [] = []
unpaired files (copy ∷ copies) =
    cond (list_any (fits copy.sum) files) (unpaired (without_first (fits copy.sum) files) copies) (copy ∷ unpaired (without_first (fits copy.sum) files) copies)

abbrev pub files_left : List File → List Holding → List File
files_left files [] = files
files_left files (copy ∷ copies) = files_left (without_first (fits copy.sum) files) copies
