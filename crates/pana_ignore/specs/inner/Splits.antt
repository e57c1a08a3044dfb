-- A text from one separator to the next.
use Rattle.std.specs.Prelude.{ℕ, ◌==◌, ◌<◌, List, [], Option, None, Some, length}
use Rattle.pana_ignore.specs.Match.{split}

-- the lists between the separators of what is left of a text, if something is
abbrev pub splits : ℕ → Option (List ℕ) → List (List ℕ)
splits separator None = []
splits separator (Some rest) = split (λ b. b == separator) rest

-- what is left is shorter than so many bytes
abbrev pub LeavesLess : ℕ → Option (List ℕ) → Type 0
LeavesLess length-before None = Unit {0}
LeavesLess length-before (Some rest) = length rest < length-before
