use Rattle.std.proofs.Common.{[], ◌∷◌, ◌++◌, Some, sym, ◌∙◌, ap, if◌then◌else◌}
use Rattle.pana_ignore.specs.declared.part.Part.TheVariants.{Folders}
use Rattle.pana_ignore.specs.Spelling.{pieces_of}
use Rattle.pana_ignore.specs.Reading.{parts_of}
use Rattle.pana_ignore.specs.inner.Parts.{parts_behind}
use Rattle.pana_ignore.proofs.Behind.{option_map-same}
use Rattle.pana_ignore.proofs.Parts.{parts_behind-nil}
use Rattle.pana_ignore.proofs.reading.read_parts.Goals as goal

pub returns-in-Ok-true : goal.returns-in-Ok-true
returns-in-Ok-true c =
    let first = if c.args.is_anchored then [] else Folders ∷ [] in
    let made = rw c.in-Ok-true.field-0-test at c.in-Ok-true.ensures in
    ap (λ parts. Some parts) c.from_vec.ensures ∙ sym made
    ∙ option_map-same (λ pieces. (c.new.result.items ++ first) ++ parts_behind c.new-2.result.items pieces) (parts_of c.args.is_anchored) (pieces_of c.args.text.now)
    (λ pieces.
    ap (λ p. (p ++ first) ++ parts_behind c.new-2.result.items pieces) c.new.ensures.items
    ∙ ap (λ n. first ++ parts_behind n pieces) c.new-2.ensures.items
    ∙ ap (λ p. first ++ p) (parts_behind-nil pieces))
