-- How a text is cut into lines: each newline ends one, and is in none.
use Rattle.std.specs.Prelude.{ℕ, ◌==◌, List, [], ◌∷◌, ◌++◌, map, if◌then◌else◌}
use Rattle.std.specs.Borrow.{Bor}

-- the lines that end in the text, where the first has begun already
abbrev pub ended : List ℕ → List ℕ → List (List ℕ)
ended begun [] = []
ended begun (b ∷ bs) = if b == 10 then begun ∷ ended [] bs else ended (begun ++ b ∷ []) bs

-- what comes after the last newline, where the first line has begun already
abbrev pub unended : List ℕ → List ℕ → List ℕ
unended begun [] = begun
unended begun (b ∷ bs) = if b == 10 then unended [] bs else unended (begun ++ b ∷ []) bs

-- what comes after the last newline is a line where there is a byte
abbrev pub last_line : List ℕ → List (List ℕ)
last_line [] = []
last_line (b ∷ bs) = (b ∷ bs) ∷ []

-- the lines of a text
abbrev pub lines_of : List ℕ → List (List ℕ)
lines_of text = ended [] text ++ last_line (unended [] text)

-- the lines that slices refer to
abbrev pub texts : List (Bor (List ℕ)) → List (List ℕ)
texts lines = map (λ line. line.now) lines
