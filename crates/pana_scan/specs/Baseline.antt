-- What a settled step makes of a baseline.
use Rattle.std.specs.Prelude.{ℕ, not, List, ◌∷◌, ◌++◌, Option, Some, None, map, filter}
use Rattle.std.specs.List.Sorted.{IsStrictlySortedBy}
use Rattle.std.specs.Ordering.{is_lt, is_gt}
use Rattle.std.specs.Str.{bytes_eq}
use Rattle.pana_scan.specs.declared.baseline.BaselineRow.{BaselineRow}
use Rattle.pana_scan.specs.declared.step.Step.{Step}
use Rattle.pana_scan.specs.Order.{Path, path_cmp}

-- each path is below those after it
abbrev pub MarksRise : List BaselineRow → Type 0
MarksRise rows = IsStrictlySortedBy path_cmp (map (λ row. row.path) rows)

-- the rows with other paths
abbrev pub without : Path → List BaselineRow → List BaselineRow
without path rows = filter (λ row. not (bytes_eq row.path path)) rows

-- the rows with paths below this one, then this row, then the rows with paths above
abbrev pub with_row : BaselineRow → List BaselineRow → List BaselineRow
with_row new rows =
    filter (λ row. is_lt (path_cmp row.path new.path)) rows ++ new ∷ filter (λ row. is_gt (path_cmp row.path new.path)) rows

-- the rows after a path was settled with this fingerprint and this number; with no fingerprint it has no row
abbrev pub settled_at : Path → Option (List ℕ) → ℕ → List BaselineRow → List BaselineRow
settled_at path (Some fingerprint) entry rows =
    with_row (record { path = path; mark = record { fingerprint = fingerprint; touch = entry } }) rows
settled_at path None entry rows = without path rows

-- the rows after a step was done as the entry of this number
abbrev pub settled : List BaselineRow → Step → ℕ → List BaselineRow
settled rows step entry = settled_at step.path step.fingerprint entry rows
