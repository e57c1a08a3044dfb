-- Texts that are cut in the middle where they would take too many columns of a terminal.
use Rattle.std.specs.Prelude.{ℕ, zero, suc, ◌-◌, ◌/◌, max, min, nat_le, if◌then◌else◌, List, ◌∷◌, ◌++◌, length, take, drop, chars, encode_utf8_all, Option, Some, None}
use Rattle.pana_report.specs.Columns.{width}

-- the text of these characters with … in the place of its middle: so many of them are left, half on each side
abbrev pub cut : ℕ → List ℕ → List ℕ
cut kept text = encode_utf8_all (take (kept - kept / 2) text ++ 0x2026 ∷ drop (length text - kept / 2) text)

-- with at most so many characters left, as many as fit into so many columns
abbrev pub longest_cut : ℕ → ℕ → List ℕ → List ℕ
longest_cut most zero text = cut 0 text
longest_cut most (suc kept) text = if nat_le (width (cut (suc kept) text)) most then cut (suc kept) text else longest_cut most kept text

-- the text in at most so many columns: as it is where it fits, else without its middle; any text fits where no number is given
unfoldable pub fitted : Option ℕ → List ℕ → List ℕ
fitted None text = text
fitted (Some most) text = if nat_le (width text) most then text else longest_cut most (min most (length (chars text)) - 1) (chars text)

-- how many columns a place may take, of those that are left for two places in a line, where the other one takes so many: half of
-- them or what the other leaves, and at least 12
abbrev pub share : ℕ → ℕ → ℕ
share left other = max 12 (max (left / 2) (left - other))
