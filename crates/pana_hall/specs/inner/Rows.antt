-- Rows of answers, as they are read off a family and the table of copies.
use Rattle.std.specs.Prelude.{ℕ, List, [], Option, Some, None, option_and_then, unwrap_or, if◌then◌else◌}
use Rattle.std.specs.Str.{bytes_eq}
use Rattle.pana_copies.specs.declared.place.Place.{Place}
use Rattle.pana_copies.specs.Spots.{Table, place_of}
use Rattle.pana_family.specs.declared.board.CopyCounts.{CopyCounts}
use Rattle.pana_calls.specs.declared.board.BoardRow.{BoardRow}
use Rattle.pana_hall.specs.Living.{Copy, copy_in, sum_of}
use Rattle.pana_hall.specs.Queries.{holding}
use Rattle.pana_calls.specs.declared.holding.Holding.{Holding}

-- where a copy is kept, and nowhere where it isn't
abbrev pub place_at : Table → ℕ → Place
place_at copies copy = unwrap_or (place_of copies copy) (record { device = []; path = [] })

-- a copy's counts, with its place
abbrev pub placed_row : Table → CopyCounts → BoardRow
placed_row copies row = record { copy = row.copy; place = place_at copies row.copy; newer = row.newer; older = row.older; equal = row.equal; conflict = row.conflict }

-- the sum of what the copy with a number holds, where it is known
abbrev pub sum_in : List Copy → ℕ → Option (List ℕ)
sum_in copies number = option_and_then sum_of (copy_in copies number)

-- the living copy with a number as a holding, if it is on the device
abbrev pub holding_in : List Copy → List ℕ → ℕ → Option Holding
holding_in copies device number = option_and_then (λ copy. if bytes_eq copy.place.device device then Some (holding copy) else None) (copy_in copies number)
