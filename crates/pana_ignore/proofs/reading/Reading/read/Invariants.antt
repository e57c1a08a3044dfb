use Rattle.std.proofs.Common.{◌≡◌, ◌∷◌, [], ◌++◌, length, if◌then◌else◌}
use Rattle.std.specs.Prelude.{option_map}
use Rattle.pana_ignore.specs.declared.part.Part.TheVariants.{Folders}
use Rattle.pana_ignore.specs.Spelling.{pieces_of, pieces_behind}
use Rattle.pana_ignore.specs.inner.Parts.{parts_behind}
use Rattle.pana_ignore.proofs.reading.Reading.read.Given as goal

abbrev pub invariant-loop-rest : goal.invariant-loop-rest
invariant-loop-rest l =
    option_map (λ pieces. (l.fn.self.parts.items ++ (if l.is_anchored then [] else Folders ∷ [])) ++ parts_behind l.fn.self.name.items pieces) (pieces_of l.text)
    ≡ option_map (λ pieces. l.self.parts.items ++ parts_behind l.self.name.items pieces) (pieces_behind 0 l.rest)

abbrev pub decreases-loop-rest : goal.decreases-loop-rest
decreases-loop-rest l = length l.rest
