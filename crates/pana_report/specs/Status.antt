-- The table of copies that are obsolete or in conflict: a line of heads, a line for each copy with what to do about it, and behind
-- them a line for each of the newest copies that are to be shown too.
use Rattle.std.specs.Prelude.{ℕ, ◌-◌, max, List, [], ◌∷◌, ◌++◌, map, fold, codes, Option, None, option_map}
use Rattle.std.specs.List.{flat_map}
use Rattle.pana_copies.specs.declared.place.Place.{Place}
use Rattle.pana_calls.specs.Standing.{state_name}
use Rattle.pana_calls.specs.declared.standing.CopyState.{CopyState}
use Rattle.pana_calls.specs.declared.standing.CopyState.TheVariants.{Newest, Obsolete, Conflict}
use Rattle.pana_calls.specs.declared.standing.PlacedCopy.{PlacedCopy}
use Rattle.pana_calls.specs.declared.standing.StatusRow.{StatusRow}
use Rattle.pana_report.specs.declared.cell.Alignment.TheVariants.{Left}
use Rattle.pana_report.specs.declared.limits.Limits.{Limits}
use Rattle.pana_report.specs.Columns.{Column, cell, column, head_line, newline, row_line, side_by_side, widest, place_text}
use Rattle.pana_report.specs.Fitted.{fitted, share}

-- ---- what stands in a copy's line

-- the copy's place, in at most so many columns
abbrev pub copy_place : Option ℕ → StatusRow → List ℕ
copy_place most row = fitted most (place_text row.place)

-- that of a newest copy
abbrev pub newest_place : Option ℕ → PlacedCopy → List ℕ
newest_place most newest = fitted most (place_text newest.place)

-- what to do about a copy in this state, by the copy at the other place: take that one instead, or merge with it
abbrev pub advice : Option ℕ → CopyState → Place → List ℕ
advice most Newest other = codes "keep"
advice most Obsolete other = codes "take " ++ fitted most (place_text other)
advice most Conflict other = codes "merge with " ++ fitted most (place_text other)

-- the columns, where that of places is so wide; nothing stands right of the last, so it needs no width
unfoldable pub columns : Limits → ℕ → List (Column StatusRow)
columns limits places =
    column (codes "STATE") Left 8 (λ row. state_name row.state)
    ∷ column (codes "COPY") Left places (copy_place limits.copy)
    ∷ column (codes "WHAT TO DO") Left 0 (λ row. advice limits.other row.state row.with.place)
    ∷ []

-- the line of a newest copy: nothing stands right of its place
unfoldable pub newest_line : Limits → PlacedCopy → List ℕ
newest_line limits newest = side_by_side (cell Left 8 (state_name Newest) ∷ cell Left 0 (newest_place limits.copy newest) ∷ []) ++ newline

-- ---- how many columns of a terminal the places may take

-- the words before the other place
abbrev pub words_width : CopyState → ℕ
words_width Newest = 0
words_width Obsolete = 5
words_width Conflict = 11

-- the longest of these words
abbrev pub words_of : List StatusRow → ℕ
words_of rows = fold max 0 (map (λ row. words_width row.state) rows)

-- the width of the column of places: that of the widest, and at least that of its head
abbrev pub places_width : Option ℕ → List StatusRow → List PlacedCopy → ℕ
places_width most rows newest = widest (widest 4 (copy_place most) rows) (newest_place most) newest

-- the width of the widest other place, and at least so that the last head fits
abbrev pub others_width : List StatusRow → ℕ
others_width rows = widest (10 - words_of rows) (λ row. place_text row.with.place) rows

-- the columns that are left for both places of a line: the state and the blanks take 12
abbrev pub left_for : ℕ → List StatusRow → ℕ
left_for terminal rows = terminal - 12 - words_of rows

-- how many each may take, in a terminal of this width
abbrev pub limits_of : Option ℕ → List StatusRow → List PlacedCopy → Limits
limits_of terminal rows newest = record {
  copy = option_map (λ columns. share (left_for columns rows) (others_width rows)) terminal;
  other = option_map (λ columns. share (left_for columns rows) (places_width None rows newest)) terminal;
}

-- ---- the table

-- the lines, by these limits
abbrev pub lines_by : Limits → List StatusRow → List PlacedCopy → List ℕ
lines_by limits rows newest =
    head_line (columns limits (places_width limits.copy rows newest))
    ++ (flat_map (row_line (columns limits (places_width limits.copy rows newest))) rows
    ++ flat_map (newest_line limits) newest)

-- the table of these copies; of none it is empty
unfoldable pub status_text : Option ℕ → List StatusRow → List PlacedCopy → List ℕ
status_text terminal [] [] = []
status_text terminal [] (copy ∷ newest) = lines_by (limits_of terminal [] (copy ∷ newest)) [] (copy ∷ newest)
status_text terminal (row ∷ rows) newest = lines_by (limits_of terminal (row ∷ rows) newest) (row ∷ rows) newest
