-- The families as the hall keeps them: a list of those that have begun, and for each entry the position of its family.
use Rattle.std.specs.Prelude.{ℕ, ◌-◌, ◌==◌, List, Option, None, slice_get, option_and_then, if◌then◌else◌}
use Rattle.pana_hall.specs.inner.Undo.{KeptRows}

-- the position of entry n's family
abbrev pub position_at : List ℕ → ℕ → Option ℕ
position_at positions n = if n == 0 then None else slice_get positions (n - 1)

-- the family of entry n
abbrev pub family_at : List KeptRows → List ℕ → ℕ → Option KeptRows
family_at list positions n = option_and_then (slice_get list) (position_at positions n)
