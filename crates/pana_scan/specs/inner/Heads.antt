-- The first rows of lists that are gone through together.
use Rattle.std.specs.Prelude.{cond, List, [], ◌∷◌, Option, Some, None}
use Rattle.std.specs.Ordering.{is_lt}
use Rattle.std.specs.Str.{bytes_eq}
use Rattle.pana_scan.specs.Order.{Path, path_cmp}

-- the first row, where it has this path
abbrev pub head_at : {T : Type 0} → (T → Path) → Path → List T → Option T
head_at path_of path [] = None
head_at path_of path (row ∷ rows) = cond (bytes_eq (path_of row) path) (Some row) None

-- the rows without the first one, where that has this path
abbrev pub rest_at : {T : Type 0} → (T → Path) → Path → List T → List T
rest_at path_of path [] = []
rest_at path_of path (row ∷ rows) = cond (bytes_eq (path_of row) path) rows (row ∷ rows)

-- the path of the first row
abbrev pub first_path : {T : Type 0} → (T → Path) → List T → Option Path
first_path path_of [] = None
first_path path_of (row ∷ rows) = Some (path_of row)

-- the lesser of two paths that may be there
abbrev pub lesser : Option Path → Option Path → Option Path
lesser (Some one) (Some other) = Some (cond (is_lt (path_cmp other one)) other one)
lesser (Some one) None = Some one
lesser None other = other
