-- How much of a line is kept.
use Rattle.std.specs.Prelude.{ℕ, suc, ◌+◌, ◌==◌, Bool, not, ◌&&◌, ◌||◌, if◌then◌else◌, List, [], ◌∷◌}
use Rattle.pana_ignore.specs.Reading.{are_spaces}

-- whether a byte is kept, whatever stands behind it: it is quoted, or no space
abbrev pub is_kept : Bool → ℕ → Bool
is_kept is_quoted b = is_quoted || not (b == 32)

-- whether the byte quotes the next
abbrev pub quotes : Bool → ℕ → Bool
quotes is_quoted b = not is_quoted && (b == 92)

-- how many bytes are kept of a text
abbrev pub kept : Bool → List ℕ → ℕ
kept is_quoted [] = 0
kept is_quoted (b ∷ rest) = if not is_quoted && are_spaces (b ∷ rest) then 0 else suc (kept (quotes is_quoted b) rest)

-- how many are kept of a whole text, where behind its first `at` bytes, of which `end` are kept for sure, this is left
abbrev pub kept_behind : ℕ → ℕ → Bool → List ℕ → ℕ
kept_behind end at is_quoted rest = if not is_quoted && are_spaces rest then end else at + kept is_quoted rest
