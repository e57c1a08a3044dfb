-- Where the lines of a journal's file end.
use Rattle.std.specs.Prelude.{ℕ, ◌==◌, ◌&&◌, Bool, List, [], ◌∷◌, if◌then◌else◌}

-- the bytes before the first line that begins with NUL, where a line begins with the first of them or doesn't
abbrev pub before_end : Bool → List ℕ → List ℕ
before_end starts [] = []
before_end starts (b ∷ bs) = if starts && (b == 0) then [] else b ∷ before_end (b == 10) bs
