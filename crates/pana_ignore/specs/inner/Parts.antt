-- Parts that are read behind others.
use Rattle.std.specs.Prelude.{List, [], ◌∷◌, ◌++◌}
use Rattle.pana_ignore.specs.declared.piece.Piece.{Piece}
use Rattle.pana_ignore.specs.declared.part.Part.{Part}
use Rattle.pana_ignore.specs.Match.{split}
use Rattle.pana_ignore.specs.Reading.{is_slash, named_parts}

-- these pieces at the head of the first name
abbrev pub onto_name : List Piece → List (List Piece) → List (List Piece)
onto_name name [] = name ∷ []
onto_name name (first ∷ others) = (name ++ first) ∷ others

-- the parts of these pieces, behind those of a name that isn't done
abbrev pub parts_behind : List Piece → List Piece → List Part
parts_behind name pieces = named_parts (onto_name name (split is_slash pieces))
