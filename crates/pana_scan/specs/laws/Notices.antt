-- Which copies are renamed.
use Rattle.std.specs.Prelude.{ℕ, List, [], ◌∷◌, Option, Some, None, find}
use Rattle.std.specs.List.{cons_option}
use Rattle.pana_calls.specs.declared.holding.Holding.{Holding}
use Rattle.pana_scan.specs.declared.notices.Notice.{Notice}
use Rattle.pana_scan.specs.declared.notices.Notice.TheVariants.{Renamed, Found, Missing}
use Rattle.pana_scan.specs.Notice.{File, holds, without_first}

-- the copies that these files take, one after another
abbrev pub taken : List File → List Holding → List Holding
taken [] copies = []
taken (file ∷ files) copies = cons_option (find (holds file.sum) copies) (taken files (without_first (holds file.sum) copies))

-- the number of the copy that was renamed
abbrev pub renamed_number : Notice → Option ℕ
renamed_number (Renamed copy path) = Some copy
renamed_number (Found path sum) = None
renamed_number (Missing path) = None
