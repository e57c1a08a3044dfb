-- What it is to fit.
use Rattle.std.specs.Prelude.{◌≡◌, ◌⊎◌, ℕ, ◌+◌, ◌<◌, ◌≤◌, List, ◌∷◌, ◌++◌, All, chars, encode_utf8_all, Some}
use Rattle.pana_calls.specs.declared.standing.PlacedCopy.{PlacedCopy}
use Rattle.pana_calls.specs.declared.standing.StatusRow.{StatusRow}
use Rattle.pana_report.specs.declared.limits.Limits.{Limits}
use Rattle.pana_report.specs.Columns.{width, place_text}
use Rattle.pana_report.specs.Fitted.{fitted}
use Rattle.pana_report.specs.Status.{left_for, limits_of, places_width, words_width}

-- a prefix of the text, …, and a suffix of it: what stands between the two is left out
abbrev pub IsCut : List ℕ → List ℕ → Type 0
IsCut text short = (front : List ℕ) × (middle : List ℕ) × (back : List ℕ) × (chars text ≡ front ++ (middle ++ back)) × (short ≡ encode_utf8_all (front ++ 0x2026 ∷ back))

-- a text that takes at most so many columns stays as it is, and any other is cut so that it takes no more
abbrev pub FittedTextsFit : Type 0
FittedTextsFit = (most : ℕ) (text : List ℕ) → 1 ≤ most → ((width text ≤ most) × (fitted (Some most) text ≡ text))
    ⊎ ((most < width text) × (width (fitted (Some most) text) ≤ most) × IsCut text (fitted (Some most) text))

-- what the line of a copy with something to do takes in a table whose column of places is so wide: the state and the blanks take 12,
-- and then come the words and the other place
abbrev pub line_width : Limits → ℕ → StatusRow → ℕ
line_width limits places row = 12 + places + words_width row.state + width (fitted limits.other (place_text row.with.place))

-- in a terminal that leaves 24 columns or more for the two places of a line, no line takes more than there are
abbrev pub LinesFit : Type 0
LinesFit = (terminal : ℕ) (rows : List StatusRow) (newest : List PlacedCopy) → 24 ≤ left_for terminal rows
    → All (λ row. line_width (limits_of (Some terminal) rows newest) (places_width (limits_of (Some terminal) rows newest).copy rows newest) row ≤ terminal) rows
