-- What patterns say, one after another.
use Rattle.std.specs.Prelude.{Bool, not, if◌then◌else◌, List, [], ◌∷◌}
use Rattle.pana_ignore.specs.declared.pattern.Pattern.{Pattern}

-- whether a path is ignored after these patterns, when it was or wasn't before
abbrev pub verdict : (Pattern → Bool) → Bool → List Pattern → Bool
verdict test before [] = before
verdict test before (pattern ∷ patterns) = verdict test (if test pattern then not pattern.includes else before) patterns
